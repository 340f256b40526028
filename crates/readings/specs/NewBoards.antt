-- A new board and a list of calls on it: the sheet that a site then has, and what it reads. Assumes nothing.
use Rattle.std.specs.Prelude.{◌≡◌, ℕ, ◌<◌, ◌≤◌, cond, List, [], replicate, Result, MatchResult}
use Rattle.std.specs.List.{slice_get}
use Rattle.dtype.specs.declared.ptype.DType.{DType}
use Rattle.dtype.specs.declared.refusal.Refusal.{Refusal}
use Rattle.dtype.specs.declared.refusal.Refusal.TheVariants.{NoSuchSite}
use Rattle.dtype.specs.declared.statistics.Statistics.{Statistics}
use Rattle.columns.specs.Columns.{Meaning}
use Rattle.aggregates.specs.Model.{Model}
use Rattle.aggregates.specs.Sheets.{Sheet}
use Rattle.accumulators.specs.Boards.{is_board_size, new_row, site_answer}
use Rattle.accumulators.specs.BoardSheets.{sheet_at}
use Rattle.runs.specs.declared.call.Line.{Line}
use Rattle.runs.specs.Calls.{RanPage, ran}
use Rattle.runs.specs.Laws.{PageKept, PageTruthful, sheets_page}

-- how many sites a board over a row of n accumulators has
abbrev pub site_count : ℕ → ℕ
site_count n = cond (is_board_size n) n 0

-- the sheet of a site after the calls and the answers that stand on a page, on a new board
abbrev pub sheet_after : {C S A : Type 0} → (C → Meaning) → ℕ → DType → List (Line C S A) → ℕ → Sheet S
sheet_after mean n d page i = sheet_at (sheets_page mean d page (replicate (site_count n) [])) i

-- what a page of calls leaves, from a new board
abbrev pub on_new_board : {C O P S A : Type 0} → (V : Type 0) → Model O P S A → (C → Meaning) → ℕ → O → DType → List (Line C S A) → List Statistics → RanPage C V O P S A
on_new_board V m mean n o d page recs = ran m mean page recs (new_row n o d)

-- what a site then reads
abbrev pub answer_after : {C O P S A : Type 0} → (V : Type 0) → Model O P S A → (C → Meaning) → ℕ → O → DType → List (Line C S A) → List Statistics → ℕ → Result A Refusal
answer_after V m mean n o d page recs i = site_answer m (slice_get (on_new_board V m mean n o d page recs).row i)

-- every record is truthful of its column as it is handed in
abbrev pub HandedInTruth : {C O P S A : Type 0} → Type 0 → Model O P S A → (C → Meaning) → ℕ → O → DType → List (Line C S A) → List Statistics → Type 0
HandedInTruth {C} {O} {P} {S} {A} V m mean n o d page recs = PageTruthful {V = V} m mean page recs (new_row n o d)

-- every call of the page keeps the law, from a new board whose sheets are empty
abbrev pub EveryCall : {C O P S A : Type 0} → Type 0 → Model O P S A → (C → Meaning) → ℕ → O → DType → List (Line C S A) → List Statistics → Type 0
EveryCall V m mean n o d page recs = PageKept {V = V} m mean o d page recs (new_row n o d) (replicate (site_count n) [])

-- What was called and read: the answer, each line of the page with its answer, and the table of records are those of the calls
-- on a new board, and every call keeps the law.
pub record CalledAndRead {C O P S A : Type 0} (V : Type 0) (m : Model O P S A) (mean : C → Meaning) (n : ℕ) (o : O) (d : DType) (lines : List (Line C S A)) (recs : List Statistics) (lines' : List (Line C S A)) (recs' : List Statistics) (i : ℕ) (r : Result A Refusal) : Type 0 where
  pub answer : r ≡ answer_after V m mean n o d lines recs i
  pub page : lines' ≡ (on_new_board V m mean n o d lines recs).page
  pub records : recs' ≡ (on_new_board V m mean n o d lines recs).records
  pub each : EveryCall V m mean n o d lines recs

-- The site is there and its answer has a property of its sheet, or it is refused since no such site is there.
abbrev pub SiteReads : {X S : Type 0} → (Sheet S → X → Type 0) → ℕ → ℕ → Sheet S → Result X Refusal → Type 0
SiteReads F n i s r = MatchResult r (λ x. (i < site_count n) × F s x) (λ e. (e ≡ NoSuchSite) × (site_count n ≤ i))

-- With records that are truthful as they are handed in, the answer is that of a partial allowed for the site's sheet.
abbrev pub AnswerAllowed : {C O P S A : Type 0} → Type 0 → Model O P S A → (C → Meaning) → ℕ → O → DType → List (Line C S A) → List Statistics → List (Line C S A) → ℕ → Result A Refusal → Type 0
AnswerAllowed {C} {O} {P} V m mean n o d page recs page' i r =
    HandedInTruth V m mean n o d page recs → SiteReads (λ s x. (p : P) × m.allowed o d s p × (x ≡ m.final o d p)) n i (sheet_after mean n d page' i) r
