-- Stretches of a primitive column: found by its bitmap, and their values are a part of its values. Assumes nothing.
use Rattle.std.proofs.Common.{◌≡◌, ℕ, zero, suc, ◌+◌, ◌-◌, ◌<◌, ◌≤◌, Bool, true, false, cond, ◌&&◌, ltb, List, length, take, drop, is_some, Some, None, Option, sym, refl, ap, ◌∙◌, le_refl, arith, drop-cons, not, ◌==◌}
use Rattle.std.specs.List.{slice_get}
use Rattle.std.proofs.lemmas.Option.{slice_get-get_or}
use Rattle.std.proofs.lemmas.Bool.{lt-ltb}
use Rattle.dtype.specs.declared.ptype.Family.{Family}
use Rattle.dtype.specs.declared.value.Value.{Value}
use Rattle.dtype.specs.declared.value.Value.TheVariants as v
use Rattle.sums.specs.declared.state.SumState.{SumState}
use Rattle.columns.specs.declared.bitmap.Stretch.{Stretch}
use Rattle.columns.specs.Columns.{run_from}
use Rattle.columns.specs.States.{add_span}
use Rattle.columns.specs.Stretches.{begins, Found, NextStretch}

-- ---- validity that is the same below the length finds the same stretches
module _ (a b : ℕ → Bool) (n : ℕ) (same : (i : ℕ) → i < n → a i ≡ b i) where
  begins_same : (k : ℕ) → k < n → begins a k ≡ begins b k
  begins_same k h = λ j. same k h j && cond (k == 0) true (not (same (k - 1) (omega (arith, h)) j))

  pub stretch_same : (from : ℕ) (r : Option Stretch) → NextStretch a n from r → NextStretch b n from r
  stretch_same from None h = λ k low high. sym (begins_same k high) ∙ h k low high
  stretch_same from (Some s) h =
      let less = h.run.some in
      let top = h.run.within in
      record {
        late = h.late;
        first = λ k low high. sym (begins_same k (omega arith)) ∙ h.first k low high;
        starts = sym (begins_same s.start (omega arith)) ∙ h.starts;
        run = record {
          some = less;
          within = top;
          filled = λ k low high. sym (same k (omega arith)) ∙ h.run.filled k low high;
          ended = λ l. sym (same s.end l) ∙ h.run.ended l;
        };
      }

-- an entry below the length is there just where it is valid
there_by : (flag : Bool) (xs : List Value) (i : ℕ) → i < length xs → flag ≡ is_some (cond flag (slice_get xs i) None)
there_by true xs i h = sym (ap is_some (slice_get-get_or xs i (v.U8 0) h))
there_by false xs i h = refl

-- ---- the values of a run are a part of the values
module _ (flag : ℕ → Bool) (xs : List Value) where
  abbrev entry_by : ℕ → Option Value
  entry_by i = cond (flag i) (slice_get xs i) None

  abbrev there : ℕ → Bool
  there i = is_some (entry_by i)

  -- the next stretch of valid entries is the next of those that are there
  pub next_there : (from : ℕ) (r : Option Stretch) → NextStretch flag (length xs) from r → NextStretch there (length xs) from r
  next_there = stretch_same flag there (length xs) (λ i h. there_by (flag i) xs i h)

  run_part : (l s e m : ℕ) → e ≡ s + l → s + m ≡ length xs → e ≤ length xs → ((k : ℕ) → s ≤ k → k < e → flag k ≡ true) → (e < length xs → flag e ≡ false) → run_from entry_by s m ≡ take l (drop s xs)
  run_part zero s e zero ee me top all end = refl
  run_part zero s e (suc m) ee me top all end =
      let at : e ≡ s = omega arith in
      let none = end (omega arith) in
      cc
  run_part (suc l) s e zero ee me top all end = absurd (omega arith)
  run_part (suc l) s e (suc m) ee me top all end =
      let low : s < length xs = omega arith in
      let rest = run_part l (suc s) e m (omega arith) (omega arith) top (λ k a b. all k (omega arith) b) end in
      let here = all s (le_refl s) (omega arith) in
      let read = slice_get-get_or xs s (v.U8 0) low in
      let first = drop-cons xs s (v.U8 0) low in
      cc

  -- what is added where a stretch starts
  module _ (fam : Family) (small skip : Bool) (st : SumState) where
    abbrev is_there_at : ℕ → Bool
    is_there_at i = is_some (entry_by i)

    abbrev adds_at : ℕ → Option SumState
    adds_at at = cond (ltb at (length xs) && begins is_there_at at) (add_span fam small skip (run_from entry_by at (length xs - at)) st) (Some st)

    alike : (i : ℕ) → i < length xs → flag i ≡ is_there_at i
    alike i h = there_by (flag i) xs i h

    pub adds_found : (from : ℕ) (s : Stretch) → Found is_there_at (length xs) from s → add_span fam small skip (take (s.end - s.start) (drop s.start xs)) st ≡ adds_at s.start
    adds_found from s h =
        let less = h.run.some in
        let top = h.run.within in
        let low : s.start < length xs = omega arith in
        let on : (ltb s.start (length xs) && begins is_there_at s.start) ≡ true = (λ j. lt-ltb s.start (length xs) low j && h.starts j) in
        let part = run_part (s.end - s.start) s.start s.end (length xs - s.start) (omega arith) (omega arith) top
        (λ k a b. alike k (omega arith) ∙ h.run.filled k a b) (λ l. alike s.end l ∙ h.run.ended l) in
        rw (on, part) refl
