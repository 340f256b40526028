use Rattle.std.proofs.Common.{◌≡◌, take}
use Rattle.dtype.specs.Values.{float_of}
use Rattle.sums.specs.Sums.{float_sum}
use Rattle.sums.proofs.float.sum_float_all.Given as goal

abbrev pub invariant-loop-v : goal.invariant-loop-v
invariant-loop-v g l =
    l.total ≡ float_sum l.skip_nans (λ x. float_of (g.T.NativePType.held x)) l.acc (take l.v-index l.slice)
