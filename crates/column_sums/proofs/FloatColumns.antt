-- A column's sum from a float state is a float state, of the one pattern of its value. Assumes nothing.
use Rattle.std.proofs.Common.{◌≡◌, ℕ, Bool, true, false, cond, ◌&&◌, T, eqb, List, [], ◌∷◌, pos, Some, None, Option, refl, ap}
use lib.Ieee.{Float, binary64, add, mul, of_int, fits, is_nan, of_bits, to_bits}
use lib.Ieee.Bits.{of_bits-to_bits, of_bits-fits}
use lib.Ieee.Fits.{add-fits, cond-fits}
use Rattle.dtype.specs.declared.ptype.Family.TheVariants as family
use Rattle.dtype.specs.declared.value.Value.{Value}
use Rattle.dtype.specs.Values.{float_of}
use Rattle.sums.specs.declared.state.SumState.{SumState}
use Rattle.sums.specs.declared.state.SumState.TheVariants.{Float as Floating}
use Rattle.sums.specs.Sums.{float_step, float_sum}
use Rattle.sums.specs.States.{held, kept}
use Rattle.columns.specs.States.{add_stretches, float_product, float_times}
use Rattle.columns.specs.Columns.{Meaning, whole_sum, stretches_from}
use Rattle.column_sums.specs.ColumnSums.{column_sum_by}

-- bits that are kept as they are read
abbrev pub Canonical : ℕ → Type 0
Canonical b = kept (held b) ≡ b

pub kept_canonical : (x : Float) → T (fits binary64 x) → Canonical (kept x)
kept_canonical x h = ap kept (of_bits-to_bits binary64 x h)

pub zero_canonical : Canonical 0
unfolding of_bits to_bits
zero_canonical = refl

-- bits read, kept and read again
pub held_again : (b : ℕ) → held (kept (held b)) ≡ held b
held_again b = of_bits-to_bits binary64 (held b) (of_bits-fits binary64 b)

float_sum_fits : {X : Type 0} (skip : Bool) (f : X → Float) (acc : Float) (xs : List X) → T (fits binary64 acc) → T (fits binary64 (float_sum skip f acc xs))
float_sum_fits skip f acc [] h = h
float_sum_fits skip f acc (x ∷ xs) h =
    float_sum_fits skip f (float_step skip acc (f x)) xs (cond-fits binary64 (skip && is_nan (f x)) acc (add binary64 acc (f x)) h (add-fits binary64 acc (f x)))

-- from the state a some state b, canonical where a is
abbrev pub FloatRuns : ℕ → Option SumState → Type 0
FloatRuns a p = (b : ℕ) × (p ≡ Some (Floating b)) × (Canonical a → Canonical b)

product_canonical : (passed : Bool) (a : ℕ) (x : Float) (n : ℕ) → Canonical a → Canonical (float_product passed a x n)
product_canonical true a x n h = h
product_canonical false a x n h = kept_canonical (add binary64 (held a) (mul binary64 x (of_int binary64 (pos n)))) (add-fits binary64 (held a) (mul binary64 x (of_int binary64 (pos n))))

whole_runs : (skip : Bool) (o : Option Value) (n a : ℕ) → FloatRuns a (whole_sum family.Float skip o n (Floating a))
whole_runs skip None n a = (a, refl, λ h. h)
whole_runs skip (Some x) n a = go (eqb n 0)
  where
    go : (b : Bool) → FloatRuns a (cond b (Some (Floating a)) (float_times skip (float_of x) n (Floating a)))
    go true = (a, refl, λ h. h)
    go false = (float_product (skip && is_nan (float_of x)) a (float_of x) n, refl, product_canonical (skip && is_nan (float_of x)) a (float_of x) n)

stretches_run : (small skip : Bool) (ss : List (List Value)) (a : ℕ) → FloatRuns a (add_stretches family.Float small skip ss (Some (Floating a)))
stretches_run small skip [] a = (a, refl, λ h. h)
stretches_run small skip (xs ∷ ss) a =
    let sum = float_sum skip float_of (held a) xs in
    let r = stretches_run small skip ss (kept sum) in
    (r.0, r.1, λ h. r.2 (kept_canonical sum (float_sum_fits skip float_of (held a) xs (of_bits-fits binary64 a))))

pub column_adds_floats : (small b skip : Bool) (c : Meaning) (a : ℕ) → FloatRuns a (column_sum_by family.Float small b c skip (Floating a))
column_adds_floats small true skip c a = whole_runs skip (c.entry 0) c.len a
column_adds_floats small false skip c a = stretches_run small skip (stretches_from c.entry 0 c.len) a
