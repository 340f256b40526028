-- The law over lists of calls, in the words of the sheets. Assumes nothing.
use Rattle.std.specs.Prelude.{◌≡◌, ℕ, ◌<◌, ◌⊎◌, List, [], ◌∷◌, length, IfOk, Some, None, Option, Result, ◌≢◌}
use Rattle.std.specs.List.{slice_get}
use Rattle.dtype.specs.declared.ptype.DType.{DType}
use Rattle.dtype.specs.declared.refusal.Refusal.{Refusal}
use Rattle.dtype.specs.declared.statistics.Statistics.{Statistics}
use Rattle.columns.specs.Columns.{Meaning}
use Rattle.column_sums.specs.Records.{Truthful}
use Rattle.aggregates.specs.Model.{Model}
use Rattle.aggregates.specs.Sheets.{Sheet}
use Rattle.accumulators.specs.declared.accumulator.Accumulator.{Accumulator}
use Rattle.accumulators.specs.BoardSheets.{Rows, sheet_at, sheets_accumulated, sheets_combined, sheets_merged, sheets_cleared, TakesColumn, RefusesColumn, TakesScalar, RefusesScalar, TwoSites, NotTwoSites, NoSite, Kept, RecordKept}
use Rattle.runs.specs.declared.call.Call.{Call}
use Rattle.runs.specs.declared.call.Call.TheVariants.{Accumulate, Combine, Merge, Flush, Finish, Reset}
use Rattle.runs.specs.declared.call.Line.{Line}
use Rattle.runs.specs.declared.call.Outcome.{Outcome}
use Rattle.runs.specs.declared.call.Outcome.TheVariants.{Done, Flushed, Finished}
use Rattle.runs.specs.Calls.{statistics_at, Performed, performed}

-- the sites that a call names
abbrev pub Named : {C S : Type 0} → Call C S → ℕ → Type 0
Named (Accumulate i c k) n = n ≡ i
Named (Combine i x) n = n ≡ i
Named (Merge i j) n = (n ≡ i) ⊎ (n ≡ j)
Named (Flush i) n = n ≡ i
Named (Finish i) n = n ≡ i
Named (Reset i) n = n ≡ i

-- The record of a call is truthful of its column as it is handed in.
abbrev pub HandedTruthful : {C S : Type 0} → (C → Meaning) → Call C S → List Statistics → Type 0
HandedTruthful mean (Accumulate i c k) recs = Truthful (mean c) (statistics_at recs k)
HandedTruthful mean (Combine i x) recs = Unit {0}
HandedTruthful mean (Merge i j) recs = Unit {0}
HandedTruthful mean (Flush i) recs = Unit {0}
HandedTruthful mean (Finish i) recs = Unit {0}
HandedTruthful mean (Reset i) recs = Unit {0}

-- the sheets after a call, from its arguments and its refusal alone
abbrev pub sheets_after : {C S X : Type 0} → (C → Meaning) → DType → Call C S → List (Sheet S) → Result X Refusal → List (Sheet S)
sheets_after mean d (Accumulate i c k) ss r = sheets_accumulated d (mean c) i ss r
sheets_after mean d (Combine i x) ss r = sheets_combined x i ss r
sheets_after mean d (Merge i j) ss r = sheets_merged i j ss r
sheets_after mean d (Flush i) ss r = sheets_cleared i ss r
sheets_after mean d (Finish i) ss r = sheets_cleared i ss r
sheets_after mean d (Reset i) ss r = sheets_cleared i ss r

-- The record handed in stays truthful and gains at most its column's sum, and no other record changes.
abbrev pub RecordsKept : {C S X : Type 0} → (C → Meaning) → Call C S → List Statistics → Result X Refusal → List Statistics → Type 0
RecordsKept mean (Accumulate i c k) recs r recs' = RecordKept (mean c) (statistics_at recs k) r (statistics_at recs' k) × ((n : ℕ) → (n ≢ k) → slice_get recs' n ≡ slice_get recs n)
RecordsKept mean (Combine i x) recs r recs' = recs' ≡ recs
RecordsKept mean (Merge i j) recs r recs' = recs' ≡ recs
RecordsKept mean (Flush i) recs r recs' = recs' ≡ recs
RecordsKept mean (Finish i) recs r recs' = recs' ≡ recs
RecordsKept mean (Reset i) recs r recs' = recs' ≡ recs

-- Flush answers the partial scalar, and finish the final answer, of a partial allowed for the sheet just before the call.
abbrev pub AnswersFrom : {C O P S A : Type 0} → Model O P S A → O → DType → Call C S → List (Sheet S) → Result (Outcome S A) Refusal → Type 0
AnswersFrom {C} {O} {P} m o d (Accumulate i c k) ss r = IfOk r (λ x. x ≡ Done)
AnswersFrom {C} {O} {P} m o d (Combine i y) ss r = IfOk r (λ x. x ≡ Done)
AnswersFrom {C} {O} {P} m o d (Merge i j) ss r = IfOk r (λ x. x ≡ Done)
AnswersFrom {C} {O} {P} m o d (Flush i) ss r = IfOk r (λ x. (p : P) × m.allowed o d (sheet_at ss i) p × (x ≡ Flushed (m.reads o d p)))
AnswersFrom {C} {O} {P} m o d (Finish i) ss r = IfOk r (λ x. (p : P) × m.allowed o d (sheet_at ss i) p × (x ≡ Finished (m.final o d p)))
AnswersFrom {C} {O} {P} m o d (Reset i) ss r = IfOk r (λ x. x ≡ Done)

module _ {C V O P S A : Type 0} (m : Model O P S A) (mean : C → Meaning) (o : O) (d : DType) where
  -- when a call is accepted
  abbrev pub Takes : Call C S → List (Accumulator V O P S A) → Type 0
  Takes (Accumulate i c k) row = TakesColumn m d (mean c) i row
  Takes (Combine i x) row = TakesScalar m o d x i row
  Takes (Merge i j) row = TwoSites i j row
  Takes (Flush i) row = i < length row
  Takes (Finish i) row = i < length row
  Takes (Reset i) row = i < length row

  -- by which refusal it is refused otherwise
  abbrev pub Refuses : Call C S → List (Accumulator V O P S A) → Refusal → Type 0
  Refuses (Accumulate i c k) row e = RefusesColumn m d (mean c) i row e
  Refuses (Combine i x) row e = RefusesScalar m o d x i row e
  Refuses (Merge i j) row e = NotTwoSites i j row e
  Refuses (Flush i) row e = NoSite i row e
  Refuses (Finish i) row e = NoSite i row e
  Refuses (Reset i) row e = NoSite i row e

  -- One call: refused exactly as the rules say, each site allowed for its sheet after it, sites and records that it does
  -- not name unchanged, its answer read from what is allowed.
  pub record CallKept (x : Call C S) (recs : List Statistics) (row : List (Accumulator V O P S A)) (ss : List (Sheet S)) (z : Performed V O P S A) : Type 0 where
    pub board : Kept m o d row (Named x) (Takes x row) (Refuses x row) (sheets_after mean d x ss) z.answer z.row
    pub records : RecordsKept mean x recs z.answer z.records
    pub answers : AnswersFrom m o d x ss z.answer

  -- Every call of a page, each from the sheets, the records and the row that the calls before it left. A call is spoken of
  -- where its record and those of the calls before it were truthful as they were handed in.
  abbrev pub PageKept : List (Line C S A) → List Statistics → List (Accumulator V O P S A) → List (Sheet S) → Type 0
  PageKept [] recs row ss = Unit {0}
  PageKept (l ∷ ls) recs row ss =
      HandedTruthful mean l.call recs
      → CallKept l.call recs row ss (performed m mean l.call recs row)
      × PageKept ls (performed m mean l.call recs row).records (performed m mean l.call recs row).row (sheets_after mean d l.call ss (performed m mean l.call recs row).answer)

-- every record of the page's calls is truthful as it is handed in
abbrev pub PageTruthful : {C V O P S A : Type 0} → Model O P S A → (C → Meaning) → List (Line C S A) → List Statistics → List (Accumulator V O P S A) → Type 0
PageTruthful m mean [] recs row = Unit {0}
PageTruthful m mean (l ∷ ls) recs row = HandedTruthful mean l.call recs × PageTruthful m mean ls (performed m mean l.call recs row).records (performed m mean l.call recs row).row

-- the sheets after a page, from the calls and the answers that stand on it
abbrev pub sheets_line : {C S A : Type 0} → (C → Meaning) → DType → Call C S → List (Sheet S) → Option (Result (Outcome S A) Refusal) → List (Sheet S)
sheets_line mean d x ss None = ss
sheets_line mean d x ss (Some r) = sheets_after mean d x ss r

abbrev pub sheets_page : {C S A : Type 0} → (C → Meaning) → DType → List (Line C S A) → List (Sheet S) → List (Sheet S)
sheets_page mean d [] ss = ss
sheets_page mean d (l ∷ ls) ss = sheets_page mean d ls (sheets_line mean d l.call ss l.answer)

-- ---- the clauses: for whatever sheets the row was allowed

abbrev pub CallKeeps : {C V O P S A : Type 0} → Model O P S A → (C → Meaning) → Call C S → List Statistics → List (Accumulator V O P S A) → Performed V O P S A → Type 0
CallKeeps {C} {V} {O} {P} {S} m mean x recs row z = (o : O) (d : DType) (ss : List (Sheet S)) → Rows m o d ss row → HandedTruthful mean x recs → CallKept m mean o d x recs row ss z

-- every call of the page keeps the law, from any row that is allowed for its sheets
abbrev pub EveryCallKeeps : {C V O P S A : Type 0} → Model O P S A → (C → Meaning) → List (Line C S A) → List Statistics → List (Accumulator V O P S A) → Type 0
EveryCallKeeps {C} {V} {O} {P} {S} m mean page recs row = (o : O) (d : DType) (ss : List (Sheet S)) → Rows m o d ss row → PageKept m mean o d page recs row ss

-- after the page each site is allowed for the sheet that the page gives it
abbrev pub SitesKeep : {C V O P S A : Type 0} → Model O P S A → (C → Meaning) → List (Line C S A) → List Statistics → List (Accumulator V O P S A) → List (Line C S A) → List (Accumulator V O P S A) → Type 0
SitesKeep {C} {V} {O} {P} {S} m mean page recs row page' row' = (o : O) (d : DType) (ss : List (Sheet S)) → Rows m o d ss row → PageTruthful m mean page recs row → Rows m o d (sheets_page mean d page' ss) row'
