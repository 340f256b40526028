-- What a site of a new board reads after a list of calls. Assumes nothing.
use Rattle.std.proofs.Common.{◌≡◌, ℕ, true, false, cond, eqb, List, [], ◌∷◌, length, replicate, Some, None, Option, Result, refl, ◌∙◌, arith, length-set}
use lib.ListN.{length-replicate}
use Rattle.std.specs.List.{slice_get}
use Rattle.std.proofs.lemmas.Bool.{cond_both}
use Rattle.dtype.specs.declared.ptype.DType.{DType}
use Rattle.dtype.specs.declared.refusal.Refusal.{Refusal}
use Rattle.dtype.specs.declared.statistics.Statistics.{Statistics}
use Rattle.columns.specs.Columns.{Meaning, Proper}
use Rattle.aggregates.specs.Model.{Model, Lawful}
use Rattle.aggregates.specs.Sheets.{Sheet}
use Rattle.accumulators.specs.declared.accumulator.Accumulator.{Accumulator}
use Rattle.accumulators.specs.Accumulators.{Told, unused}
use Rattle.accumulators.specs.Boards.{is_board_size, new_row, site_answer, board_accumulated, board_combined, board_merged, board_cleared}
use Rattle.accumulators.specs.BoardSheets.{Rows, sheet_at, ReadFrom}
use Rattle.accumulators.proofs.Boarding.{new_board, answer_read}
use Rattle.std.proofs.lemmas.Option.{slice_get_within}
use Rattle.accumulators.proofs.Lookups.{is_past}
use Rattle.runs.specs.declared.call.Call.{Call}
use Rattle.runs.specs.declared.call.Call.TheVariants.{Accumulate, Combine, Merge, Flush, Finish, Reset}
use Rattle.runs.specs.declared.call.Line.{Line}
use Rattle.runs.specs.Calls.{statistics_at, performed, ran}
use Rattle.runs.specs.Laws.{sheets_page}
use Rattle.runs.proofs.Running.{every_call_keeps, sites_keep}
use Rattle.readings.specs.NewBoards.{site_count, on_new_board, answer_after, EveryCall, SiteReads, AnswerAllowed}

length_new : (V : Type 0) {O : Type 0} (P S A : Type 0) (n : ℕ) (o : O) (d : DType) → length (new_row {V = V} {P = P} {S = S} {A = A} n o d) ≡ site_count n
length_new V P S A n o d = elim (is_board_size n) as (λ b. length (cond b (replicate n (unused {V = V} {P = P} {S = S} {A = A} o d)) []) ≡ cond b n 0) [ true ↦ length-replicate n (unused o d) | false ↦ refl ]

-- ---- no call changes the number of sites

module _ {C V O P S A : Type 0} (m : Model O P S A) (mean : C → Meaning) where
  cleared_length : (row : List (Accumulator V O P S A)) (i : ℕ) (site : Option (Accumulator V O P S A)) → length (board_cleared row i site) ≡ length row
  cleared_length row i None = refl
  cleared_length row i (Some a) = length-set row i _

  merged_length : (row : List (Accumulator V O P S A)) (i j : ℕ) (a b : Option (Accumulator V O P S A)) → length (board_merged m row i j a b).after ≡ length row
  merged_length row i j None b = refl
  merged_length row i j (Some a) None = refl
  merged_length row i j (Some a) (Some b) = cond_both (eqb i j) _ _ (λ (z : Told (List (Accumulator V O P S A))). length z.after ≡ length row) (λ e. refl) (λ e. simp length-set)

  performed_length : (x : Call C S) (recs : List Statistics) (row : List (Accumulator V O P S A)) → length (performed m mean x recs row).row ≡ length row
  performed_length (Accumulate i c k) recs row = elim (slice_get row i) as (λ o. length (board_accumulated m (mean c) (statistics_at recs k) row i o).after ≡ length row) [ None ↦ refl | Some a ↦ length-set row i _ ]
  performed_length (Combine i x) recs row = elim (slice_get row i) as (λ o. length (board_combined m x row i o).after ≡ length row) [ None ↦ refl | Some a ↦ length-set row i _ ]
  performed_length (Merge i j) recs row = merged_length row i j (slice_get row i) (slice_get row j)
  performed_length (Flush i) recs row = cleared_length row i (slice_get row i)
  performed_length (Finish i) recs row = cleared_length row i (slice_get row i)
  performed_length (Reset i) recs row = cleared_length row i (slice_get row i)

  ran_length : (page : List (Line C S A)) (recs : List Statistics) (row : List (Accumulator V O P S A)) → length (ran m mean page recs row).row ≡ length row
  ran_length [] recs row = refl
  ran_length (l ∷ ls) recs row = ran_length ls (performed m mean l.call recs row).records (performed m mean l.call recs row).row ∙ performed_length l.call recs row

-- ---- a site that is there, and one that is not

site_reads : {V O P S A : Type 0} (m : Model O P S A) (o : O) (d : DType) (row : List (Accumulator V O P S A)) (n i : ℕ) (s : Sheet S) → length row ≡ site_count n → (site : Option (Accumulator V O P S A)) → slice_get row i ≡ site → ReadFrom m o d s (m.final o d) (site_answer m site) → SiteReads (λ t x. (p : P) × m.allowed o d t p × (x ≡ m.final o d p)) n i s (site_answer m site)
site_reads m o d row n i s e None f h = let past = is_past row i f in (refl, omega arith)
site_reads m o d row n i s e (Some a) f h = let there = slice_get_within row i a f in (omega arith, h)

module _ {C O P S A : Type 0} (V : Type 0) (m : Model O P S A) (laws : Lawful m) (mean : C → Meaning) (proper : (c : C) → Proper (mean c)) (n : ℕ) (o : O) (d : DType) where
  rows_new : Rows m o d (replicate (site_count n) []) (new_row {V = V} {A = A} n o d)
  rows_new = rw (← length_new V P S A n o d) (new_board V m n o d (new_row n o d) refl)

  pub every_call : (page : List (Line C S A)) (recs : List Statistics) → EveryCall V m mean n o d page recs
  every_call page recs = every_call_keeps m laws mean proper page recs (new_row n o d) o d (replicate (site_count n) []) rows_new

  pub answer_allowed : (page : List (Line C S A)) (recs : List Statistics) (page' : List (Line C S A)) (i : ℕ) (r : Result A Refusal) → page' ≡ (on_new_board V m mean n o d page recs).page → r ≡ answer_after V m mean n o d page recs i → AnswerAllowed V m mean n o d page recs page' i r
  answer_allowed page recs page' i r e f truth =
      let z = on_new_board V m mean n o d page recs in
      let ss = sheets_page mean d z.page (replicate (site_count n) []) in
      let rows = sites_keep m laws mean proper page recs (new_row n o d) z refl o d (replicate (site_count n) []) rows_new truth in
      let read = answer_read m laws z.row i (answer_after V m mean n o d page recs i) refl o d ss rows in
      rw (e, f) (site_reads m o d z.row n i (sheet_at ss i) (ran_length m mean page recs (new_row n o d) ∙ length_new V P S A n o d) (slice_get z.row i) refl read)
