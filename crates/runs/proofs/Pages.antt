-- A page that is run line by line. Assumes nothing.
use Rattle.std.proofs.Common.{◌≡◌, ℕ, ◌+◌, ◌<◌, ◌≤◌, List, length, get_or, take, drop, set, arith}
use Rattle.std.proofs.lemmas.List.{take_more_set, drop-set-lt, drop_more, drop_all, take_all, append_assoc, append-nil}
use Rattle.dtype.specs.declared.statistics.Statistics.{Statistics}
use Rattle.columns.specs.Columns.{Meaning}
use Rattle.aggregates.specs.Model.{Model}
use Rattle.accumulators.specs.declared.accumulator.Accumulator.{Accumulator}
use Rattle.runs.specs.declared.call.Line.{Line}
use Rattle.runs.specs.Calls.{Performed, performed, more, answered, ran}

module _ {C V O P S A : Type 0} (m : Model O P S A) (mean : C → Meaning) where
  -- one line more: its answer stands on the page, and the rest is to run
  pub page_step : (page : List (Line C S A)) (n : ℕ) (x : Line C S A) (recs : List Statistics) (row : List (Accumulator V O P S A)) (z : Performed V O P S A) → n < length page → performed m mean (get_or page n x).call recs row ≡ z
      → more (take (n + 1) (set page n (answered (get_or page n x) z.answer))) (ran m mean (drop (n + 1) (set page n (answered (get_or page n x) z.answer))) z.records z.row) ≡ more (take n page) (ran m mean (drop n page) recs row)
  page_step page n x recs row z h e =
      rw (take_more_set page n (answered (get_or page n x) z.answer) h, drop-set-lt (n + 1) page n (answered (get_or page n x) z.answer) (omega arith), drop_more page n x h, e) (simp append_assoc)

  -- no line is left
  pub page_end : (page : List (Line C S A)) (n : ℕ) (recs : List Statistics) (row : List (Accumulator V O P S A)) → length page ≤ n → more (take n page) (ran m mean (drop n page) recs row) ≡ record { page = page; records = recs; row = row }
  page_end page n recs row h = rw (drop_all n page h, append-nil, take_all n page h)
