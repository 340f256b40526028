-- What each call on an accumulator answers and leaves. Assumes nothing.
use Rattle.std.specs.Prelude.{◌≡◌, Bool, false, cond, Some, None, Ok, Err, Option, Result}
use Rattle.dtype.specs.declared.ptype.DType.{DType}
use Rattle.dtype.specs.declared.refusal.Refusal.{Refusal}
use Rattle.dtype.specs.declared.refusal.Refusal.TheVariants.{ColumnDType, PartialDType}
use Rattle.dtype.specs.declared.statistics.Statistics.{Statistics}
use Rattle.dtype.specs.Types.{has_same_type}
use Rattle.columns.specs.Columns.{Meaning}
use Rattle.aggregates.specs.Model.{Model, Step, Holds, started, gathered, column_step}
use Rattle.aggregates.specs.Sheets.{Sheet}
use Rattle.accumulators.specs.declared.accumulator.Accumulator.{Accumulator}

-- What a call with a record answers and leaves, in the record and in the thing called.
pub record Ran (X : Type 0) : Type 0 where
  pub answer : Result (Unit {0}) Refusal
  pub stats : Statistics
  pub after : X

-- What a call without a record answers and leaves.
pub record Told (X : Type 0) : Type 0 where
  pub answer : Result (Unit {0}) Refusal
  pub after : X

abbrev pub with_partial : {V O P S A : Type 0} → Accumulator V O P S A → Option P → Accumulator V O P S A
with_partial a p = record { options = a.options; dtype = a.dtype; partial = p }

-- a new accumulator
abbrev pub unused : {V O P S A : Type 0} → O → DType → Accumulator V O P S A
unused o d = record { options = o; dtype = d; partial = None }

-- ---- the questions; without a partial an accumulator reads as the empty one, which is never saturated
abbrev pub saturated_by : {O P S A : Type 0} → Model O P S A → O → DType → Option P → Bool
saturated_by m o d None = false
saturated_by m o d (Some p) = m.saturated o d p

abbrev pub saturated_now : {V O P S A : Type 0} → Model O P S A → Accumulator V O P S A → Bool
saturated_now m a = saturated_by m a.options a.dtype a.partial

abbrev pub scalar_now : {V O P S A : Type 0} → Model O P S A → Accumulator V O P S A → S
scalar_now m a = m.reads a.options a.dtype (started m a.options a.dtype a.partial)

abbrev pub answer_now : {V O P S A : Type 0} → Model O P S A → Accumulator V O P S A → A
answer_now m a = m.final a.options a.dtype (started m a.options a.dtype a.partial)

-- ---- accumulate: saturation first, then the dtype, then the steps
abbrev pub stepped : {V O P S A : Type 0} → Accumulator V O P S A → Step P → Ran (Accumulator V O P S A)
stepped a r = record { answer = r.answer; stats = r.stats; after = with_partial a r.partial }

abbrev pub accumulated : {V O P S A : Type 0} → Model O P S A → Meaning → Statistics → Accumulator V O P S A → Ran (Accumulator V O P S A)
accumulated m c k a =
    cond (saturated_now m a) (record { answer = Ok tt; stats = k; after = a })
    (cond (has_same_type c.dtype a.dtype) (stepped a (column_step m a.options a.dtype c k a.partial))
    (record { answer = Err ColumnDType; stats = k; after = a }))

-- ---- combine and merge
abbrev pub folded : {V O P S A : Type 0} → Model O P S A → P → Accumulator V O P S A → Accumulator V O P S A
folded m q a = with_partial a (Some (gathered m a.options a.dtype a.partial q))

abbrev pub combined : {V O P S A : Type 0} → Model O P S A → S → Accumulator V O P S A → Told (Accumulator V O P S A)
combined m x a =
    cond (m.takes a.options a.dtype x)
    (record { answer = Ok tt; after = folded m (m.taken a.options a.dtype x) a })
    (record { answer = Err PartialDType; after = a })

-- what another accumulator held comes in, if it held anything
abbrev pub merged_into : {V O P S A : Type 0} → Model O P S A → Accumulator V O P S A → Option P → Accumulator V O P S A
merged_into m a None = a
merged_into m a (Some q) = folded m q a

-- The accumulator has these options and this dtype, and what it holds is allowed for the sheet.
pub record Fits {V O P S A : Type 0} (m : Model O P S A) (o : O) (d : DType) (s : Sheet S) (a : Accumulator V O P S A) : Type 0 where
  pub options : a.options ≡ o
  pub dtype : a.dtype ≡ d
  pub holds : Holds m o d s a.partial
