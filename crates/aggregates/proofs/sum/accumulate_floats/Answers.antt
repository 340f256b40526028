use Rattle.std.proofs.Common.{rules}
use Rattle.std.specs.Float.Ieee.{is_nan, of_bits}
use Rattle.aggregates.proofs.sum.accumulate_floats.Goals as goal

-- that the constant is a NaN is seen in its bits
pub returns-in-Exact : goal.returns-in-Exact
unfolding is_nan of_bits
returns-in-Exact g c = search rules
