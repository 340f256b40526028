use Rattle.std.proofs.Common.{T, ap, ◌∙◌, rules}
use lib.Ieee.{binary64, fits}
use lib.Ieee.Bits.{of_bits-to_bits}
use Rattle.sums.specs.States.{held}
use Rattle.sums.proofs.NanBits.{nan_kept_once}
use Rattle.sums.proofs.state.float_to_bits.Goals as goal

pub returns : goal.returns
returns c =
    let e = c.f64_to_bits_with_nan.ensures in
    let f : T (fits binary64 c.args.x) = search rules in
    record {
      bits = e;
      one_nan = λ h. e ∙ nan_kept_once c.args.x h;
      back = ap held e ∙ of_bits-to_bits binary64 c.args.x f;
    }
