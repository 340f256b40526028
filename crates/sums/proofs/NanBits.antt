-- Each NaN is kept as one pattern. Assumes nothing.
use Rattle.std.proofs.Common.{◌≡◌, true, refl, ap, ◌∙◌}
use lib.Ieee.{Float, nan, inf, fin, is_nan, to_bits}
use Rattle.sums.specs.States.{kept, nan_pattern}

pub nan_is : (x : Float) → is_nan x ≡ true → x ≡ nan
unfolding is_nan
nan_is nan h = refl
nan_is (inf s) h = absurd cc
nan_is (fin s m e) h = absurd cc

nan_kept : kept nan ≡ nan_pattern
unfolding to_bits
nan_kept = refl

pub nan_kept_once : (x : Float) → is_nan x ≡ true → kept x ≡ nan_pattern
nan_kept_once x h = ap kept (nan_is x h) ∙ nan_kept
