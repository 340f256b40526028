-- Adding to the state of a sum: a list of values, or one value many times. Assumes nothing.
use Rattle.std.specs.Prelude.{ℕ, ◌*◌, Bool, true, false, cond, ◌&&◌, List, ℤ, pos, ◌*ℤ◌, Some, None, fold, Option, is_nan, Float}
use Rattle.std.specs.Float.{binary64}
use Rattle.std.specs.Float.Ieee.{add, mul, of_int}
use Rattle.std.specs.Option.{option_map}
use Rattle.dtype.specs.declared.ptype.Family.{Family}
use Rattle.dtype.specs.declared.ptype.Family.TheVariants as family
use Rattle.dtype.specs.declared.value.Value.{Value}
use Rattle.dtype.specs.Values.{nat_of, int_of, float_of}
use Rattle.sums.specs.declared.state.SumState.{SumState}
use Rattle.sums.specs.declared.state.SumState.TheVariants.{Unsigned, Signed, Float as Floating}
use Rattle.sums.specs.Sums.{Adding, unsigned64, signed64, step, checked_sum, float_sum}
use Rattle.sums.specs.States.{held, kept}

-- A state of another family than the values' does not arise; what is added to it gives none.
abbrev pub unsigned_span : Bool → List Value → SumState → Option SumState
unsigned_span small xs (Unsigned a) = option_map Unsigned (checked_sum unsigned64 small nat_of a xs)
unsigned_span small xs (Signed a) = None
unsigned_span small xs (Floating a) = None

abbrev pub signed_span : Bool → List Value → SumState → Option SumState
signed_span small xs (Unsigned a) = None
signed_span small xs (Signed a) = option_map Signed (checked_sum signed64 small int_of a xs)
signed_span small xs (Floating a) = None

abbrev pub float_span : Bool → List Value → SumState → Option SumState
float_span skip xs (Unsigned a) = None
float_span skip xs (Signed a) = None
float_span skip xs (Floating a) = Some (Floating (kept (float_sum skip float_of (held a) xs)))

-- the values of one stretch added to a state; `small` says that they have fewer than 64 bits
abbrev pub add_span : Family → Bool → Bool → List Value → SumState → Option SumState
add_span family.Unsigned small skip xs st = unsigned_span small xs st
add_span family.Signed small skip xs st = signed_span small xs st
add_span family.Float small skip xs st = float_span skip xs st

-- A product that fits is added with a check; another gives none.
abbrev pub step_product : {N : Type 0} → Adding N → N → N → Option N
step_product a acc p = cond (a.fits p) (step a (Some acc) p) None

-- One value n times, as one step.
abbrev pub unsigned_times : ℕ → ℕ → SumState → Option SumState
unsigned_times x n (Unsigned a) = option_map Unsigned (step_product unsigned64 a (x * n))
unsigned_times x n (Signed a) = None
unsigned_times x n (Floating a) = None

abbrev pub signed_times : ℤ → ℕ → SumState → Option SumState
signed_times x n (Unsigned a) = None
signed_times x n (Signed a) = option_map Signed (step_product signed64 a (x *ℤ pos n))
signed_times x n (Floating a) = None

-- for floats the count is rounded once, the product once and the sum once
abbrev pub float_product : Bool → ℕ → Float → ℕ → ℕ
float_product true a x n = a
float_product false a x n = kept (add binary64 (held a) (mul binary64 x (of_int binary64 (pos n))))

abbrev pub float_times : Bool → Float → ℕ → SumState → Option SumState
float_times skip x n (Unsigned a) = None
float_times skip x n (Signed a) = None
float_times skip x n (Floating a) = Some (Floating (float_product (skip && is_nan x) a x n))

abbrev pub times_added : Family → Bool → Value → ℕ → SumState → Option SumState
times_added family.Unsigned skip x n st = unsigned_times (nat_of x) n st
times_added family.Signed skip x n st = signed_times (int_of x) n st
times_added family.Float skip x n st = float_times skip (float_of x) n st

-- none stays none
abbrev pub onto : (SumState → Option SumState) → Option SumState → Option SumState
onto f None = None
onto f (Some st) = f st

-- one stretch after the other
abbrev pub add_stretches : Family → Bool → Bool → List (List Value) → Option SumState → Option SumState
add_stretches g small skip ss o = fold (λ q xs. onto (add_span g small skip xs) q) o ss
