-- Lists of calls: what each call answers and leaves. Assumes nothing.
use Rattle.std.specs.Prelude.{◌≡◌, ℕ, List, [], ◌∷◌, ◌++◌, Some, Ok, Err, Result, slice_index_or, slice_set, refl}
use Rattle.std.specs.List.{slice_get}
use Rattle.dtype.specs.declared.precision.Precision.TheVariants.{Absent}
use Rattle.dtype.specs.declared.refusal.Refusal.{Refusal}
use Rattle.dtype.specs.declared.statistics.Statistics.{Statistics}
use Rattle.columns.specs.Columns.{Meaning}
use Rattle.aggregates.specs.Model.{Model}
use Rattle.accumulators.specs.declared.accumulator.Accumulator.{Accumulator}
use Rattle.accumulators.specs.Accumulators.{Ran}
use Rattle.accumulators.specs.Boards.{board_accumulated, board_combined, board_merged, board_cleared, site_reset, site_scalar, site_answer}
use Rattle.runs.specs.declared.call.Call.{Call}
use Rattle.runs.specs.declared.call.Call.TheVariants.{Accumulate, Combine, Merge, Flush, Finish, Reset}
use Rattle.runs.specs.declared.call.Line.{Line}
use Rattle.runs.specs.declared.call.Outcome.{Outcome}
use Rattle.runs.specs.declared.call.Outcome.TheVariants.{Done, Flushed, Finished}

-- a record that says nothing
abbrev pub blank_statistics : Statistics
blank_statistics = record { sum = Absent; nan_count = Absent; ok = refl }

-- the record at a place of the table, and a blank one past its end
abbrev pub statistics_at : List Statistics → ℕ → Statistics
statistics_at recs k = slice_index_or recs k blank_statistics

-- What a call answers and leaves, in the table of records and in the row.
pub record Performed (V O P S A : Type 0) : Type 0 where
  pub answer : Result (Outcome S A) Refusal
  pub records : List Statistics
  pub row : List (Accumulator V O P S A)

-- an accumulate with the record at a place of the table, which is written back
abbrev pub Recorded : {X : Type 0} → Ran X → List Statistics → ℕ → Result (Unit {0}) Refusal → List Statistics → X → Type 0
Recorded z recs k r recs' after = (z.answer ≡ r) × (slice_set recs k z.stats ≡ recs') × (z.after ≡ after)

-- an accepted answer in other words
abbrev pub answered_by : {X Y : Type 0} → (X → Y) → Result X Refusal → Result Y Refusal
answered_by f (Ok x) = Ok (f x)
answered_by f (Err e) = Err e

module _ {C V O P S A : Type 0} (m : Model O P S A) (mean : C → Meaning) where
  -- the record handed in is written back
  abbrev pub performed : Call C S → List Statistics → List (Accumulator V O P S A) → Performed V O P S A
  performed (Accumulate i c k) recs row = record { answer = answered_by (λ u. Done) (board_accumulated m (mean c) (statistics_at recs k) row i (slice_get row i)).answer; records = slice_set recs k (board_accumulated m (mean c) (statistics_at recs k) row i (slice_get row i)).stats; row = (board_accumulated m (mean c) (statistics_at recs k) row i (slice_get row i)).after }
  performed (Combine i x) recs row = record { answer = answered_by (λ u. Done) (board_combined m x row i (slice_get row i)).answer; records = recs; row = (board_combined m x row i (slice_get row i)).after }
  performed (Merge i j) recs row = record { answer = answered_by (λ u. Done) (board_merged m row i j (slice_get row i) (slice_get row j)).answer; records = recs; row = (board_merged m row i j (slice_get row i) (slice_get row j)).after }
  performed (Flush i) recs row = record { answer = answered_by Flushed (site_scalar m (slice_get row i)); records = recs; row = board_cleared row i (slice_get row i) }
  performed (Finish i) recs row = record { answer = answered_by Finished (site_answer m (slice_get row i)); records = recs; row = board_cleared row i (slice_get row i) }
  performed (Reset i) recs row = record { answer = answered_by (λ u. Done) (site_reset (slice_get row i)); records = recs; row = board_cleared row i (slice_get row i) }

-- ---- lists of calls

-- A page is a list of lines; a line has a call, and its answer once the call was made.
-- What the calls of a page leave: the page with each answer, the table of records and the row.
pub record RanPage (C V O P S A : Type 0) : Type 0 where
  pub page : List (Line C S A)
  pub records : List Statistics
  pub row : List (Accumulator V O P S A)

-- lines in front of a page that ran
abbrev pub more : {C V O P S A : Type 0} → List (Line C S A) → RanPage C V O P S A → RanPage C V O P S A
more ls z = record { page = ls ++ z.page; records = z.records; row = z.row }

abbrev pub answered : {C S A : Type 0} → Line C S A → Result (Outcome S A) Refusal → Line C S A
answered l r = record { call = l.call; answer = Some r }

-- the calls of a page in their order, whatever they answer
abbrev pub ran : {C V O P S A : Type 0} → Model O P S A → (C → Meaning) → List (Line C S A) → List Statistics → List (Accumulator V O P S A) → RanPage C V O P S A
ran m mean [] recs row = record { page = []; records = recs; row = row }
ran m mean (l ∷ ls) recs row = more (answered l (performed m mean l.call recs row).answer ∷ []) (ran m mean ls (performed m mean l.call recs row).records (performed m mean l.call recs row).row)
