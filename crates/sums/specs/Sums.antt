-- Checked sums: one by one, or by chunks with one check each; and sums of floats. Assumes nothing.
use Rattle.std.specs.Prelude.{◌≡◌, ℕ, zero, suc, ◌+◌, ◌^◌, ◌<◌, ◌≤◌, Bool, true, false, cond, ◌&&◌, ◌⊎◌, List, [], ◌∷◌, length, take, drop, ℤ, pos, negsuc, ◌+ℤ◌, Some, None, fold, sum_by, Option, MatchOption, is_nan, nat_lt, Float}
use Rattle.std.specs.Int.Signed.{mag}
use Rattle.std.specs.Float.{binary64}
use Rattle.std.specs.Float.Ieee.{add}

-- How the numbers of a family are added: from zero, by plus, as long as the result fits.
pub record Adding (N : Type 0) : Type 0 where
  pub zero : N
  pub plus : N → N → N
  pub fits : N → Bool

-- 64-bit sums of unsigned numbers, and of signed ones
abbrev pub unsigned64 : Adding ℕ
unsigned64 = record { zero = 0; plus = λ a b. a + b; fits = λ n. nat_lt n (2 ^ 64) }

abbrev pub signed64 : Adding ℤ
signed64 = record { zero = pos 0; plus = λ a b. a +ℤ b; fits = λ z. nat_lt (mag z) (2 ^ 63) }

-- a number that fits, or none
abbrev pub checked : {N : Type 0} → Adding N → N → Option N
checked a n = cond (a.fits n) (Some n) None

-- one checked addition; none stays none
abbrev pub step : {N : Type 0} → Adding N → Option N → N → Option N
step a None x = None
step a (Some s) x = checked a (a.plus s x)

-- the exact total, with no check
abbrev pub exact_total : {N X : Type 0} → Adding N → (X → N) → List X → N
exact_total a f xs = fold (λ s x. a.plus s (f x)) a.zero xs

-- the parts of k elements each, the last one perhaps shorter, where the fuel is enough
abbrev pub cut : {X : Type 0} → ℕ → ℕ → List X → List (List X)
cut k zero xs = []
cut k (suc fuel) [] = []
cut k (suc fuel) (x ∷ xs) = take k (x ∷ xs) ∷ cut k fuel (drop k (x ∷ xs))

abbrev pub chunked : {X : Type 0} → ℕ → List X → List (List X)
chunked k xs = cut k (length xs) xs

-- Values added to acc: one by one, or narrow ones with one check for each chunk of 65,536.
abbrev pub checked_sum : {N X : Type 0} → Adding N → Bool → (X → N) → N → List X → Option N
checked_sum a false f acc xs = fold (λ s x. step a s (f x)) (Some acc) xs
checked_sum a true f acc xs = fold (λ s c. step a s (exact_total a f c)) (Some acc) (chunked 65536 xs)

-- An unsigned sum is the exact total, and there is none exactly where that passes 2^64 - 1.
abbrev pub UnsignedTotal : {X : Type 0} → (X → ℕ) → ℕ → List X → Option ℕ → Type 0
UnsignedTotal f acc xs r = MatchOption r (2 ^ 64 ≤ acc + sum_by f xs) (λ t. (t < 2 ^ 64) × (t ≡ acc + sum_by f xs))

-- the part of a number above 0, and that below
abbrev pub above : ℤ → ℕ
above (pos n) = n
above (negsuc n) = 0

abbrev pub below : ℤ → ℕ
below (pos n) = 0
below (negsuc n) = suc n

-- A signed sum is the exact total, and there is none only where the positives pass 2^63 - 1 or the negatives pass -2^63.
abbrev pub SignedTotal : {X : Type 0} → (X → ℤ) → ℤ → List X → Option ℤ → Type 0
SignedTotal f acc xs r =
    MatchOption r ((2 ^ 63 ≤ above acc + sum_by (λ x. above (f x)) xs) ⊎ (2 ^ 63 < below acc + sum_by (λ x. below (f x)) xs)) (λ t. t ≡ acc +ℤ exact_total signed64 f xs)

-- One float more, rounded once; with `skip` a NaN is passed over.
abbrev pub float_step : Bool → Float → Float → Float
float_step skip a x = cond (skip && is_nan x) a (add binary64 a x)

-- floats added left to right
abbrev pub float_sum : {X : Type 0} → Bool → (X → Float) → Float → List X → Float
float_sum skip f acc xs = fold (λ a x. float_step skip a (f x)) acc xs
