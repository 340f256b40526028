-- The sheets of a board, and what its calls keep in the words of the sheets. Assumes nothing.
use Rattle.std.specs.Prelude.{◌≡◌, ℕ, ◌<◌, ◌≤◌, Bool, true, false, cond, ◌⊎◌, List, [], ◌∷◌, ◌++◌, length, replicate, IfOk, Ok, Err, Result, MatchResult, ◌≢◌, slice_index_or, slice_set}
use Rattle.std.specs.List.{slice_get}
use Rattle.dtype.specs.declared.ptype.DType.{DType}
use Rattle.dtype.specs.declared.refusal.Refusal.{Refusal}
use Rattle.dtype.specs.declared.refusal.Refusal.TheVariants.{ColumnDType, PartialDType, NoSuchSite, SameSite}
use Rattle.dtype.specs.declared.statistics.Statistics.{Statistics}
use Rattle.dtype.specs.Types.{has_same_type}
use Rattle.columns.specs.Columns.{Meaning}
use Rattle.column_sums.specs.Lots.{column_lots}
use Rattle.column_sums.specs.Records.{Truthful}
use Rattle.aggregates.specs.Model.{Model, Gains}
use Rattle.aggregates.specs.Sheets.{Sheet, handed, lots}
use Rattle.accumulators.specs.declared.accumulator.Accumulator.{Accumulator}
use Rattle.accumulators.specs.Accumulators.{Fits}
use Rattle.accumulators.specs.Boards.{site_saturated}

-- Each site has the board's options and dtype, and holds what is allowed for its own sheet.
abbrev pub Rows : {V O P S A : Type 0} → Model O P S A → O → DType → List (Sheet S) → List (Accumulator V O P S A) → Type 0
Rows m o d [] [] = Unit {0}
Rows m o d [] (a ∷ row) = ⊥
Rows m o d (s ∷ ss) [] = ⊥
Rows m o d (s ∷ ss) (a ∷ row) = Fits m o d s a × Rows m o d ss row

-- the sheet of a site
abbrev pub sheet_at : {S : Type 0} → List (Sheet S) → ℕ → Sheet S
sheet_at ss i = slice_index_or ss i []

-- ---- the sheets after a call, from its arguments and its refusal alone; a refused call moves no item

-- an accepted accumulate adds the column's lots where the column has the board's dtype
abbrev pub sheets_accumulated : {S X : Type 0} → DType → Meaning → ℕ → List (Sheet S) → Result X Refusal → List (Sheet S)
sheets_accumulated d c i ss (Ok u) = cond (has_same_type c.dtype d) (slice_set ss i (sheet_at ss i ++ lots (column_lots c))) ss
sheets_accumulated d c i ss (Err e) = ss

abbrev pub sheets_combined : {S X : Type 0} → S → ℕ → List (Sheet S) → Result X Refusal → List (Sheet S)
sheets_combined x i ss (Ok u) = slice_set ss i (sheet_at ss i ++ handed x ∷ [])
sheets_combined x i ss (Err e) = ss

-- every item of the merged site moves to the site merged into
abbrev pub sheets_merged : {S X : Type 0} → ℕ → ℕ → List (Sheet S) → Result X Refusal → List (Sheet S)
sheets_merged i j ss (Ok u) = slice_set (slice_set ss j []) i (sheet_at ss i ++ sheet_at ss j)
sheets_merged i j ss (Err e) = ss

-- flush, finish and reset
abbrev pub sheets_cleared : {S X : Type 0} → ℕ → List (Sheet S) → Result X Refusal → List (Sheet S)
sheets_cleared i ss (Ok u) = slice_set ss i []
sheets_cleared i ss (Err e) = ss

-- ---- when a call is accepted, and by which refusal it is refused otherwise

-- the site is saturated, or it is there and the column has its dtype
abbrev pub TakesColumn : {V O P S A : Type 0} → Model O P S A → DType → Meaning → ℕ → List (Accumulator V O P S A) → Type 0
TakesColumn m d c i row = (site_saturated m (slice_get row i) ≡ Ok true) ⊎ ((i < length row) × (c.dtype ≡ d))

-- no such site, or a site that is not saturated and has another dtype than the column
abbrev pub RefusesColumn : {V O P S A : Type 0} → Model O P S A → DType → Meaning → ℕ → List (Accumulator V O P S A) → Refusal → Type 0
RefusesColumn m d c i row e = ((e ≡ NoSuchSite) × (length row ≤ i)) ⊎ ((e ≡ ColumnDType) × (site_saturated m (slice_get row i) ≡ Ok false) × (c.dtype ≢ d))

abbrev pub TakesScalar : {V O P S A : Type 0} → Model O P S A → O → DType → S → ℕ → List (Accumulator V O P S A) → Type 0
TakesScalar m o d x i row = (i < length row) × (m.kind_of x ≡ m.partial_kind o d)

-- no such site, or a scalar of another dtype than the partial's
abbrev pub RefusesScalar : {V O P S A : Type 0} → Model O P S A → O → DType → S → ℕ → List (Accumulator V O P S A) → Refusal → Type 0
RefusesScalar m o d x i row e = ((e ≡ NoSuchSite) × (length row ≤ i)) ⊎ ((e ≡ PartialDType) × (i < length row) × (m.kind_of x ≢ m.partial_kind o d))

abbrev pub TwoSites : {X : Type 0} → ℕ → ℕ → List X → Type 0
TwoSites i j row = (i < length row) × (j < length row) × (i ≢ j)

-- no such site, or a site with itself
abbrev pub NotTwoSites : {X : Type 0} → ℕ → ℕ → List X → Refusal → Type 0
NotTwoSites i j row e = ((e ≡ NoSuchSite) × ((length row ≤ i) ⊎ (length row ≤ j))) ⊎ ((e ≡ SameSite) × (i < length row) × (j < length row) × (i ≡ j))

abbrev pub NoSite : {X : Type 0} → ℕ → List X → Refusal → Type 0
NoSite i row e = (e ≡ NoSuchSite) × (length row ≤ i)

-- ---- what a call keeps

-- A call that is accepted and refused exactly as said leaves each site allowed for its sheet after the call, changes no
-- site but those it names, and none where it is refused.
pub record Kept {V O P S A X : Type 0} (m : Model O P S A) (o : O) (d : DType) (row : List (Accumulator V O P S A)) (Named : ℕ → Type 0) (Takes : Type 0) (Refuses : Refusal → Type 0) (after : Result X Refusal → List (Sheet S)) (r : Result X Refusal) (row' : List (Accumulator V O P S A)) : Type 0 where
  pub refusals : MatchResult r (λ _. Takes) Refuses
  pub sheets : Rows m o d (after r) row'
  pub elsewhere : (k : ℕ) → (Named k → ⊥) → slice_get row' k ≡ slice_get row k
  pub refused_leaves : (e : Refusal) → r ≡ Err e → row' ≡ row

-- What a record keeps when it is handed in with a column: it stays truthful and gains at most the column's sum, and
-- nothing where the call is refused.
pub record RecordKept {X : Type 0} (c : Meaning) (k : Statistics) (r : Result X Refusal) (k' : Statistics) : Type 0 where
  pub truthful : Truthful c k'
  pub gains : Gains c k k'
  pub refused_leaves : (e : Refusal) → r ≡ Err e → k' ≡ k

-- An answer is read from a partial that is allowed for the sheet.
abbrev pub ReadFrom : {O P S A X : Type 0} → Model O P S A → O → DType → Sheet S → (P → X) → Result X Refusal → Type 0
ReadFrom {O} {P} m o d s f r = IfOk r (λ x. (p : P) × m.allowed o d s p × (x ≡ f p))

-- Every site of a new board has an empty sheet.
abbrev pub NewBoard : {V O P S A : Type 0} → Model O P S A → O → DType → List (Accumulator V O P S A) → Type 0
NewBoard m o d row = Rows m o d (replicate (length row) []) row

-- ---- the same of each call, for whatever sheets the row was allowed

module _ {V O P S A : Type 0} (m : Model O P S A) (row : List (Accumulator V O P S A)) where
  abbrev pub AccumulateKeeps : Meaning → Statistics → ℕ → Result (Unit {0}) Refusal → Statistics → List (Accumulator V O P S A) → Type 0
  AccumulateKeeps c k i r k' row' = (o : O) (d : DType) (ss : List (Sheet S)) → Rows m o d ss row → Truthful c k → Kept m o d row (λ n. n ≡ i) (TakesColumn m d c i row) (RefusesColumn m d c i row) (sheets_accumulated d c i ss) r row' × RecordKept c k r k'

  abbrev pub CombineKeeps : S → ℕ → Result (Unit {0}) Refusal → List (Accumulator V O P S A) → Type 0
  CombineKeeps x i r row' = (o : O) (d : DType) (ss : List (Sheet S)) → Rows m o d ss row → Kept m o d row (λ n. n ≡ i) (TakesScalar m o d x i row) (RefusesScalar m o d x i row) (sheets_combined x i ss) r row'

  abbrev pub MergeKeeps : ℕ → ℕ → Result (Unit {0}) Refusal → List (Accumulator V O P S A) → Type 0
  MergeKeeps i j r row' = (o : O) (d : DType) (ss : List (Sheet S)) → Rows m o d ss row → Kept m o d row (λ n. (n ≡ i) ⊎ (n ≡ j)) (TwoSites i j row) (NotTwoSites i j row) (sheets_merged i j ss) r row'

  abbrev pub ClearKeeps : {X : Type 0} → ℕ → Result X Refusal → List (Accumulator V O P S A) → Type 0
  ClearKeeps i r row' = (o : O) (d : DType) (ss : List (Sheet S)) → Rows m o d ss row → Kept m o d row (λ n. n ≡ i) (i < length row) (NoSite i row) (sheets_cleared i ss) r row'

  -- the partial scalar, the final answer and saturation are read from a partial allowed for the site's sheet
  abbrev pub ScalarRead : ℕ → Result S Refusal → Type 0
  ScalarRead i r = (o : O) (d : DType) (ss : List (Sheet S)) → Rows m o d ss row → ReadFrom m o d (sheet_at ss i) (m.reads o d) r

  abbrev pub AnswerRead : ℕ → Result A Refusal → Type 0
  AnswerRead i r = (o : O) (d : DType) (ss : List (Sheet S)) → Rows m o d ss row → ReadFrom m o d (sheet_at ss i) (m.final o d) r

  abbrev pub SaturationRead : ℕ → Result Bool Refusal → Type 0
  SaturationRead i r = (o : O) (d : DType) (ss : List (Sheet S)) → Rows m o d ss row → ReadFrom m o d (sheet_at ss i) (m.saturated o d) r
