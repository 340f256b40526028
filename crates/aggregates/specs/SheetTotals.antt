-- Totals of sheets: joined, reordered, and of lots alone. Assumes nothing.
use Rattle.std.specs.Prelude.{◌≡◌, ℕ, ◌+◌, true, false, cond, List, [], ◌∷◌, ◌++◌, ℤ, pos, ◌+ℤ◌, fold, sum_by, refl}
use Rattle.std.proofs.Common.{◌∙◌, arith}
use Rattle.std.proofs.lemmas.List.Sums.{sum_by-cons}
use Rattle.std.proofs.lemmas.Int.{ints}
use Rattle.dtype.specs.declared.scalar.Scalar.{Scalar}
use Rattle.sums.specs.Sums.{signed64, exact_total}
use Rattle.sums.proofs.SignedTotals.{total_cons}
use Rattle.column_sums.specs.Lots.{Lot}
use Rattle.aggregates.specs.Sheets.{Item, lot, Sheet, lots, Reordered, same, keep, swap, then}
use Rattle.aggregates.specs.Totals.{null_item, holds_null}

-- what is added over a sheet of lots alone is added over the lots
pub lots_sum : {S : Type 0} (f : Item S → ℕ) (ls : List Lot) → sum_by f (lots ls) ≡ sum_by (λ l. f (lot l)) ls
lots_sum {S} f ls = go 0 ls
  where
    go : (a : ℕ) (ls : List Lot) → fold (λ n x. n + f x) a (lots ls) ≡ fold (λ n l. n + f (lot l)) a ls
    go a [] = refl
    go a (l ∷ ls) = go (a + f (lot l)) ls

pub lots_total : {S : Type 0} (f : Item S → ℤ) (ls : List Lot) → exact_total signed64 f (lots ls) ≡ exact_total signed64 (λ l. f (lot l)) ls
lots_total {S} f ls = go (pos 0) ls
  where
    go : (a : ℤ) (ls : List Lot) → fold (λ z x. z +ℤ f x) a (lots ls) ≡ fold (λ z l. z +ℤ f (lot l)) a ls
    go a [] = refl
    go a (l ∷ ls) = go (a +ℤ f (lot l)) ls

-- ---- whether a sheet holds a null
pub null_lots : (ls : List Lot) → holds_null (lots ls) ≡ false
null_lots [] = refl
null_lots (l ∷ ls) = null_lots ls

pub null-++ : (s t : Sheet Scalar) → holds_null (s ++ t) ≡ cond (holds_null s) true (holds_null t)
null-++ [] t = refl
null-++ (x ∷ s) t = elim (null_item x) as (λ b. cond b true (holds_null (s ++ t)) ≡ cond (cond b true (holds_null s)) true (holds_null t)) [ true ↦ refl | false ↦ null-++ s t ]

-- lots hold no null
pub null_more : (s : Sheet Scalar) (ls : List Lot) → holds_null (s ++ lots ls) ≡ holds_null s
null_more s ls = grind (arith, null-++ s (lots ls), null_lots ls)

pub null_left : (s t : Sheet Scalar) → holds_null s ≡ true → holds_null (s ++ t) ≡ true
null_left s t h = rw (null-++ s t, h)

pub null_right : (s t : Sheet Scalar) → holds_null t ≡ true → holds_null (s ++ t) ≡ true
null_right s t h = grind (arith, null-++ s t)

pub null_neither : (s t : Sheet Scalar) → holds_null s ≡ false → holds_null t ≡ false → holds_null (s ++ t) ≡ false
null_neither s t h k = rw (null-++ s t, h, k)

-- ---- the order of items does not count
pub reordered_sum : {X : Type 0} (f : X → ℕ) {s t : List X} → Reordered s t → sum_by f s ≡ sum_by f t
reordered_sum f same = refl
reordered_sum f (keep {s} {t} x r) = simp (sum_by-cons, reordered_sum f r)
reordered_sum f (swap {s} x y) = simp sum_by-cons (omega arith)
reordered_sum f (then r q) = reordered_sum f r ∙ reordered_sum f q

pub reordered_total : {X : Type 0} (f : X → ℤ) {s t : List X} → Reordered s t → exact_total signed64 f s ≡ exact_total signed64 f t
reordered_total f same = refl
reordered_total f (keep {s} {t} x r) = simp (total_cons, reordered_total f r)
reordered_total f (swap {s} x y) = simp total_cons (omega (arith, ints))
reordered_total f (then r q) = reordered_total f r ∙ reordered_total f q

pub reordered_null : {s t : Sheet Scalar} → Reordered s t → holds_null s ≡ holds_null t
reordered_null same = refl
reordered_null (keep {s} {t} x r) = rw (reordered_null r)
reordered_null (swap {s} x y) = grind arith
reordered_null (then r q) = reordered_null r ∙ reordered_null q
