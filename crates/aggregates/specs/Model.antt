-- What an aggregate is: its operations, the steps by which a column comes in, and the laws of both. Assumes nothing.
use Rattle.std.specs.Prelude.{◌≡◌, Bool, true, false, ◌⊎◌, List, [], ◌∷◌, ◌++◌, Some, None, Ok, Err, Option, Result}
use Rattle.dtype.specs.declared.ptype.DType.{DType}
use Rattle.dtype.specs.declared.precision.Precision.{Precision}
use Rattle.dtype.specs.declared.precision.Precision.TheVariants.{Exact, Inexact, Absent}
use Rattle.dtype.specs.declared.refusal.Refusal.{Refusal}
use Rattle.dtype.specs.declared.refusal.Refusal.TheVariants.{CachedSumType}
use Rattle.dtype.specs.declared.scalar.Scalar.{Scalar}
use Rattle.dtype.specs.declared.statistics.Statistics.{Statistics}
use Rattle.columns.specs.Columns.{Meaning, Proper}
use Rattle.column_sums.specs.Lots.{Lot, column_lots}
use Rattle.column_sums.specs.Records.{RightSum, Truthful}
use Rattle.aggregates.specs.Sheets.{Sheet, lots, handed, Reordered}

-- What adding a column to a partial answers and leaves.
pub record Batch (P : Type 0) : Type 0 where
  pub answer : Result (Unit {0}) Refusal
  pub stats : Statistics
  pub partial : P

-- What an accumulate answers and leaves, where there may be no partial.
pub record Step (P : Type 0) : Type 0 where
  pub answer : Result (Unit {0}) Refusal
  pub stats : Statistics
  pub partial : Option P

-- The operations, over options O, partials P, partial scalars S and answers A.
pub record Model (O P S A : Type 0) : Type 1 where
  -- the dtypes of partial scalars, that of a scalar, and the one that partials read as
  pub Kind : Type 0
  pub kind_of : S → Kind
  pub partial_kind : O → DType → Kind
  pub empty : O → DType → P
  -- a column added to a partial
  pub batch : O → DType → Meaning → Statistics → P → Batch P
  pub merged : O → DType → P → P → P
  -- whether a scalar is taken in, and as which partial
  pub takes : O → DType → S → Bool
  pub taken : O → DType → S → P
  -- the partial scalar, the final answer, and whether columns no longer matter
  pub reads : O → DType → P → S
  pub final : O → DType → P → A
  pub saturated : O → DType → P → Bool
  -- whether the column's own sum is cached, the partial of a cached sum (none where its type is another), and the record
  -- with the sum of a partial written to it
  pub caches : O → DType → Bool
  pub from_sum : O → DType → Scalar → Option P
  pub wrote : O → DType → P → Statistics → Statistics
  -- which partials can arise at these options and this dtype, and which are allowed for a sheet
  pub belongs : O → DType → P → Type 0
  pub allowed : O → DType → Sheet S → P → Type 0

-- ---- how a column comes in, once saturation and dtype are tested

module _ {O P S A : Type 0} (m : Model O P S A) (o : O) (d : DType) where
  -- where there is no partial it is the empty one
  abbrev pub started : Option P → P
  started None = m.empty o d
  started (Some p) = p

  -- where there is no partial, what merges in becomes it
  abbrev pub gathered : Option P → P → P
  gathered None q = q
  gathered (Some p) q = m.merged o d p q

  -- an exact cached sum is merged in, or refused for its type
  abbrev pub cached_step : Statistics → Option P → Option P → Step P
  cached_step k p None = record { answer = Err CachedSumType; stats = k; partial = p }
  cached_step k p (Some q) = record { answer = Ok tt; stats = k; partial = Some (gathered p q) }

  -- the column by itself: written to the record and merged in, unless it was refused
  abbrev pub fresh_step : Option P → Batch P → Result (Unit {0}) Refusal → Step P
  fresh_step p b (Ok u) = record { answer = Ok tt; stats = m.wrote o d b.partial b.stats; partial = Some (gathered p b.partial) }
  fresh_step p b (Err e) = record { answer = Err e; stats = b.stats; partial = p }

  abbrev pub fresh : Meaning → Statistics → Option P → Step P
  fresh c k p = fresh_step p (m.batch o d c k (m.empty o d)) (m.batch o d c k (m.empty o d)).answer

  abbrev pub through_cache : Meaning → Statistics → Option P → Precision Scalar → Step P
  through_cache c k p (Exact x) = cached_step k p (m.from_sum o d x)
  through_cache c k p (Inexact x) = fresh c k p
  through_cache c k p Absent = fresh c k p

  -- the column added straight to the running partial, with an empty one put first where there is none
  abbrev pub straight : Batch P → Step P
  straight b = record { answer = b.answer; stats = b.stats; partial = Some b.partial }

  abbrev pub step_by : Bool → Meaning → Statistics → Option P → Step P
  step_by true c k p = through_cache c k p k.sum
  step_by false c k p = straight (m.batch o d c k (started p))

  abbrev pub column_step : Meaning → Statistics → Option P → Step P
  column_step c k p = step_by (m.caches o d) c k p

-- An accumulator without a partial has an empty sheet.
abbrev pub Holds : {O P S A : Type 0} → Model O P S A → O → DType → Sheet S → Option P → Type 0
Holds m o d s None = s ≡ []
Holds m o d s (Some p) = m.allowed o d s p

-- The record gained at most the column's sum.
pub record Gains (c : Meaning) (k now : Statistics) : Type 0 where
  pub nans : now.nan_count ≡ k.nan_count
  pub sum : (now.sum ≡ k.sum) ⊎ ((x : Scalar) × (now.sum ≡ Exact x) × RightSum c x)

-- A step that is accepted: the record stays truthful and gains at most the column's sum, and what is held is allowed with
-- the column's lots added.
pub record Accepted {O P S A : Type 0} (m : Model O P S A) (o : O) (d : DType) (c : Meaning) (k : Statistics) (s : Sheet S) (r : Step P) : Type 0 where
  pub answered : r.answer ≡ Ok tt
  pub truthful : Truthful c r.stats
  pub gains : Gains c k r.stats
  pub after : P
  pub holds : r.partial ≡ Some after
  pub allowed : m.allowed o d (s ++ lots (column_lots c)) after

-- A partial read out and taken in again reads the same.
pub record ReadsAgain {O P S A : Type 0} (m : Model O P S A) (o : O) (d : DType) (p : P) : Type 0 where
  pub taken : m.takes o d (m.reads o d p) ≡ true
  pub scalar : m.reads o d (m.taken o d (m.reads o d p)) ≡ m.reads o d p
  pub answer : m.final o d (m.taken o d (m.reads o d p)) ≡ m.final o d p

pub record Lawful {O P S A : Type 0} (m : Model O P S A) : Type 0 where
  -- a scalar is taken in exactly where it has the partial's dtype
  pub takes_its_dtype : (o : O) (d : DType) (x : S) → m.kind_of x ≡ m.partial_kind o d → m.takes o d x ≡ true
  pub takes_no_other : (o : O) (d : DType) (x : S) → m.takes o d x ≡ true → m.kind_of x ≡ m.partial_kind o d
  pub allowed_belongs : (o : O) (d : DType) (s : Sheet S) (p : P) → m.allowed o d s p → m.belongs o d p
  pub empty_allowed : (o : O) (d : DType) → m.allowed o d [] (m.empty o d)
  pub empty_not_saturated : (o : O) (d : DType) → m.saturated o d (m.empty o d) ≡ false
  pub merging_adds_sheets : (o : O) (d : DType) (s t : Sheet S) (p q : P) → m.allowed o d s p → m.allowed o d t q → m.allowed o d (s ++ t) (m.merged o d p q)
  pub accumulating_adds_lots : (o : O) (d : DType) (c : Meaning) (k : Statistics) (s : Sheet S) (p : Option P) → c.dtype ≡ d → Proper c → Truthful c k → Holds m o d s p → Accepted m o d c k s (column_step m o d c k p)
  pub scalar_allowed : (o : O) (d : DType) (x : S) → m.takes o d x ≡ true → m.allowed o d (handed x ∷ []) (m.taken o d x)
  pub saturated_stays_allowed : (o : O) (d : DType) (s : Sheet S) (p : P) (ls : List Lot) → m.saturated o d p ≡ true → m.allowed o d s p → m.allowed o d (s ++ lots ls) p
  pub merging_saturates : (o : O) (d : DType) (p q : P) → m.belongs o d p → m.belongs o d q → (m.saturated o d p ≡ true) ⊎ (m.saturated o d q ≡ true) → m.saturated o d (m.merged o d p q) ≡ true
  pub reads_again : (o : O) (d : DType) (p : P) → m.belongs o d p → ReadsAgain m o d p
  pub order_does_not_count : (o : O) (d : DType) (s t : Sheet S) (p : P) → Reordered s t → m.allowed o d s p → m.allowed o d t p
