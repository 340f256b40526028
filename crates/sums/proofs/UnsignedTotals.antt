-- A checked unsigned sum against the exact total. Assumes nothing.
use Rattle.std.proofs.Common.{◌≡◌, ℕ, ◌+◌, ◌^◌, ◌<◌, ◌≤◌, Bool, true, false, ltb, List, [], ◌∷◌, length, Some, None, fold, sum_by, Option, refl, ap, ◌∙◌, arith, ltb-false, ltb-true, MatchOption}
use Rattle.std.proofs.lemmas.Bool.{cond_both}
use Rattle.std.proofs.lemmas.List.Sums.{sum_by-cons}
use Rattle.sums.specs.Sums.{unsigned64, checked, step, checked_sum, chunked, UnsignedTotal}
use Rattle.sums.proofs.Products.{checked_over, checked_within}
use Rattle.sums.proofs.SignedTotals.{cut_sum}

-- a total that fits, or none
pub checked_total : (m : ℕ) → MatchOption (checked unsigned64 m) (2 ^ 64 ≤ m) (λ t. (t < 2 ^ 64) × (t ≡ m))
checked_total m = cond_both (ltb m (2 ^ 64)) (Some m) None (λ o. MatchOption o (2 ^ 64 ≤ m) (λ t. (t < 2 ^ 64) × (t ≡ m))) (λ e. (ltb-true m (2 ^ 64) e, refl)) (λ e. ltb-false m (2 ^ 64) e)

checked_step : (m x : ℕ) → step unsigned64 (checked unsigned64 m) x ≡ checked unsigned64 (m + x)
checked_step m x =
    cond_both (ltb m (2 ^ 64)) (Some m) None (λ o. step unsigned64 o x ≡ checked unsigned64 (m + x)) (λ e. refl)
    (λ e. let over = ltb-false m (2 ^ 64) e in checked_over (m + x) (omega arith))

-- steps one by one
steps_total : {X : Type 0} (f : X → ℕ) (m : ℕ) (xs : List X) → fold (λ s x. step unsigned64 s (f x)) (checked unsigned64 m) xs ≡ checked unsigned64 (m + sum_by f xs)
steps_total f m [] = ap (checked unsigned64) (omega arith)
steps_total f m (x ∷ xs) =
    ap (λ o. fold (λ s y. step unsigned64 s (f y)) o xs) (checked_step m (f x))
    ∙ steps_total f (m + f x) xs
    ∙ ap (checked unsigned64) (omega (arith, sum_by-cons f x xs))

pub unsigned_total : {X : Type 0} (n : Bool) (f : X → ℕ) (acc : ℕ) (xs : List X) → acc < 2 ^ 64 → checked_sum unsigned64 n f acc xs ≡ checked unsigned64 (acc + sum_by f xs)
unsigned_total false f acc xs h = ap (λ o. fold (λ s x. step unsigned64 s (f x)) o xs) (checked_within acc h) ∙ steps_total f acc xs
unsigned_total true f acc xs h =
    ap (λ o. fold (λ s c. step unsigned64 s (sum_by f c)) o (chunked 65536 xs)) (checked_within acc h)
    ∙ steps_total (sum_by f) acc (chunked 65536 xs)
    ∙ ap (λ n. checked unsigned64 (acc + n)) (cut_sum f 65536 (length xs) xs (omega arith) (omega arith))

-- what the contract says of the answer
pub unsigned_total_of : {X : Type 0} (n : Bool) (f : X → ℕ) (acc : ℕ) (xs : List X) (r : Option ℕ) → acc < 2 ^ 64 → r ≡ checked_sum unsigned64 n f acc xs → UnsignedTotal f acc xs r
unsigned_total_of n f acc xs r h e = rw (e, unsigned_total n f acc xs h) (checked_total (acc + sum_by f xs))
