-- Sum at the float types: null and every float state is allowed, and a NaN stays. Assumes nothing.
use Rattle.std.specs.Prelude.{◌≡◌, Bool, true, ◌⊎◌, Some, None, Option, refl, Float}
use Rattle.std.proofs.Common.{ap, ⊎_elim, arith}
use Rattle.std.specs.Float.{nan, inf, fin, binary64}
use Rattle.std.specs.Float.Ieee.{add, is_nan, of_bits, to_bits}
use Rattle.std.specs.Float.Ieee.Bits.{of_bits-to_bits}
use Rattle.std.specs.Float.Ieee.Fits.{add-fits}
use Rattle.dtype.specs.declared.ptype.Family.TheVariants as family
use Rattle.dtype.specs.declared.value.Value.{Value}
use Rattle.dtype.specs.Values.{float_of}
use Rattle.sums.proofs.NanBits.{nan_is}
use Rattle.sums.specs.declared.state.SumState.{SumState}
use Rattle.sums.specs.declared.state.SumState.TheVariants.{Unsigned, Signed, Float as Floating}
use Rattle.sums.specs.States.{held, kept, nan_pattern}
use Rattle.columns.specs.Columns.{Meaning}
use Rattle.columns.specs.States.{onto}
use Rattle.column_sums.specs.ColumnSums.{column_sum_by}
use Rattle.column_sums.proofs.FloatColumns.{Canonical, kept_canonical, held_again, column_adds_floats}
use Rattle.aggregates.specs.SumModel.{OfFamily}
use Rattle.aggregates.specs.SumStates.{merged_states, taken_in, full}

pub nan_canonical : Canonical nan_pattern
unfolding of_bits to_bits
nan_canonical = refl

pub float_adds : (small b skip : Bool) (c : Meaning) (p : Option SumState) → OfFamily family.Float p → OfFamily family.Float (onto (column_sum_by family.Float small b c skip) p)
float_adds small b skip c None h = tt
float_adds small b skip c (Some (Unsigned a)) h = absurd h
float_adds small b skip c (Some (Signed a)) h = absurd h
float_adds small b skip c (Some (Floating a)) h =
    let r = column_adds_floats small b skip c a in
    rw r.1 (r.2 h)

pub float_joins : (p q : Option SumState) → OfFamily family.Float p → OfFamily family.Float q → OfFamily family.Float (merged_states p q)
float_joins None q h k = tt
float_joins (Some a) None h k = tt
float_joins (Some (Unsigned a)) (Some b) h k = absurd h
float_joins (Some (Signed a)) (Some b) h k = absurd h
float_joins (Some (Floating a)) (Some (Unsigned b)) h k = absurd k
float_joins (Some (Floating a)) (Some (Signed b)) h k = absurd k
float_joins (Some (Floating a)) (Some (Floating b)) h k = kept_canonical (add binary64 (held a) (held b)) (add-fits binary64 (held a) (held b))

pub float_taken : (o : Option Value) → OfFamily family.Float (taken_in family.Float o)
float_taken None = tt
float_taken (Some x) = ap kept (held_again (kept (float_of x)))

-- a sum is kept whole
sum_held : (x y : Float) → held (kept (add binary64 x y)) ≡ add binary64 x y
sum_held x y = of_bits-to_bits binary64 (add binary64 x y) (add-fits binary64 x y)

nan_left : (x y : Float) → is_nan x ≡ true → is_nan (add binary64 x y) ≡ true
unfolding add is_nan
nan_left x y h = rw (nan_is x h)

nan_right : (x y : Float) → is_nan y ≡ true → is_nan (add binary64 x y) ≡ true
unfolding add is_nan
nan_right nan y h = refl
nan_right (inf s) y h = rw (nan_is y h)
nan_right (fin s m e) y h = rw (nan_is y h)

-- null or NaN on either side leaves null or NaN
pub full_either_side : (p q : Option SumState) → (full p ≡ true) ⊎ (full q ≡ true) → full (merged_states p q) ≡ true
full_either_side None q h = refl
full_either_side (Some a) None h = refl
full_either_side (Some (Unsigned a)) (Some b) h = grind arith
full_either_side (Some (Signed a)) (Some b) h = grind arith
full_either_side (Some (Floating a)) (Some (Unsigned b)) h = refl
full_either_side (Some (Floating a)) (Some (Signed b)) h = refl
full_either_side (Some (Floating a)) (Some (Floating b)) h =
    rw (sum_held (held a) (held b)) (⊎_elim (nan_left (held a) (held b)) (nan_right (held a) (held b)) h)
