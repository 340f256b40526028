-- The end of a run, as the first entry behind its start that is not valid. Assumes nothing.
use Rattle.std.proofs.Common.{◌≡◌, ℕ, ◌+◌, ◌<◌, ◌≤◌, Bool, true, false, Some, None, Option, MatchOption, unwrap_or, ⊎_elim, subst, sym, arith, le_refl}
use Rattle.std.proofs.lemmas.Bool.{cases_eq}
use Rattle.columns.specs.Stretches.{IsRun}

module _ (w : ℕ → Bool) (len start : ℕ) (low : start < len) (here : w start ≡ true) where
  filled_from : (e : ℕ) → ((k : ℕ) → start + 1 ≤ k → k < e → w k ≡ true) → (k : ℕ) → start ≤ k → k < e → w k ≡ true
  filled_from e later k p q =
      ⊎_elim (λ s. subst (λ j. w j ≡ true) (sym s) here) (λ s. later k (omega arith) q) (cases_eq k start)

  pub run_until : (r : Option ℕ) → MatchOption r ((k : ℕ) → start + 1 ≤ k → k < len → w k ≡ true) (λ i. (start + 1 ≤ i) × (i < len) × (w i ≡ false) × ((k : ℕ) → start + 1 ≤ k → k < i → w k ≡ true))
      → IsRun w len start (unwrap_or r len)
  run_until None h = record { some = low; within = le_refl len; filled = filled_from len h; ended = λ l. absurd (omega arith) }
  run_until (Some i) h = record { some = omega (arith, h.0); within = omega (arith, h.1); filled = filled_from i h.3; ended = λ l. h.2 }
