-- Sum: what each operation answers, and which partials are allowed for a sheet. Assumes nothing.
use Rattle.std.specs.Prelude.{◌≡◌, ℕ, zero, suc, ◌^◌, ◌<◌, ◌≤◌, Bool, true, false, cond, ◌⊎◌, is_some, Some, None, Ok, Err, Option, Result, refl}
use Rattle.std.specs.Option.{option_map}
use Rattle.dtype.specs.declared.ptype.DType.{DType}
use Rattle.dtype.specs.declared.ptype.Family.{Family}
use Rattle.dtype.specs.declared.ptype.Family.TheVariants as family
use Rattle.dtype.specs.declared.ptype.PType.TheVariants as p
use Rattle.dtype.specs.declared.precision.Precision.{Precision}
use Rattle.dtype.specs.declared.precision.Precision.TheVariants.{Exact, Inexact, Absent}
use Rattle.dtype.specs.declared.refusal.Refusal.{Refusal}
use Rattle.dtype.specs.declared.refusal.Refusal.TheVariants.{CachedSumType}
use Rattle.dtype.specs.declared.scalar.Scalar.{Scalar}
use Rattle.dtype.specs.declared.statistics.Statistics.{Statistics}
use Rattle.dtype.specs.declared.value.Value.TheVariants as v
use Rattle.dtype.specs.Types.{family_of, sum_ptype, dtype_of_sum, has_same_kind, has_same_type}
use Rattle.sums.specs.declared.state.SumState.{SumState}
use Rattle.sums.specs.declared.state.SumState.TheVariants.{Unsigned, Signed, Float as Floating}
use Rattle.sums.specs.Sums.{unsigned64, signed64, checked}
use Rattle.sums.specs.States.{held, kept, nan_pattern, zero_of}
use Rattle.columns.specs.Columns.{Meaning}
use Rattle.column_sums.specs.ColumnSums.{column_sum}
use Rattle.aggregates.specs.declared.sum_partial.SumPartial.{SumPartial}
use Rattle.aggregates.specs.declared.sum_partial.NumericalAggregateOpts.{NumericalAggregateOpts}
use Rattle.aggregates.specs.Sheets.{Sheet}
use Rattle.aggregates.specs.Model.{Model, Batch}
use Rattle.aggregates.specs.SumStates.{merged_states, taken_in, full}
use Rattle.aggregates.specs.Totals.{total, signed_total, positives, negatives, holds_null}

abbrev pub holding : Option SumState → SumPartial
holding q = record { current = q }

-- ---- what is read

-- a state as a scalar of the type of its family's sums
abbrev pub scalar_of_state : SumState → Scalar
scalar_of_state (Unsigned a) = record { dtype = record { ptype = p.U64; nullable = true }; value = Some (v.U64 a); ok = refl }
scalar_of_state (Signed a) = record { dtype = record { ptype = p.I64; nullable = true }; value = Some (v.I64 a); ok = refl }
scalar_of_state (Floating a) = record { dtype = record { ptype = p.F64; nullable = true }; value = Some (v.F64 (held a)); ok = refl }

abbrev pub scalar_of : DType → Option SumState → Scalar
scalar_of d None = record { dtype = dtype_of_sum d; value = None; ok = refl }
scalar_of d (Some st) = scalar_of_state st

pub state_filled : (st : SumState) → is_some (scalar_of_state st).value ≡ true
state_filled (Unsigned a) = refl
state_filled (Signed a) = refl
state_filled (Floating a) = refl

-- a sum that is not null is written to the record
abbrev pub wrote_state : Option SumState → Statistics → Statistics
wrote_state None k = k
wrote_state (Some st) k = record { sum = Exact (scalar_of_state st); nan_count = k.nan_count; ok = state_filled st }

-- a cached sum has the type of the column's sum; whether it is nullable does not matter
abbrev pub cached_sum_fits : DType → Scalar → Bool
cached_sum_fits d x = has_same_kind x.dtype.ptype (sum_ptype (family_of d.ptype))

abbrev pub from_cached : DType → Scalar → Option SumPartial
from_cached d x = cond (cached_sum_fits d x) (Some (holding (taken_in (family_of d.ptype) x.value))) None

-- ---- a column added to a state

abbrev pub accepts : Statistics → Option SumState → Batch SumPartial
accepts k q = record { answer = Ok tt; stats = k; partial = holding q }

abbrev pub refuses : Statistics → SumState → Batch SumPartial
refuses k st = record { answer = Err CachedSumType; stats = k; partial = holding (Some st) }

-- what an answer leaves of a state: the partial it gives, and the state where it is a refusal
abbrev pub ends : Statistics → SumState → Result SumPartial Refusal → Batch SumPartial
ends k st (Ok p) = accepts k p.current
ends k st (Err e) = record { answer = Err e; stats = k; partial = holding (Some st) }

-- the column is summed
abbrev pub summed : Bool → Meaning → Statistics → SumState → Batch SumPartial
summed skip c k st = accepts k (column_sum c skip st)

-- a column known to have no NaN: an exact cached sum is added in place of it
abbrev pub without_nans : DType → Meaning → Statistics → SumState → Precision Scalar → Batch SumPartial
without_nans d c k st (Exact x) = cond (cached_sum_fits d x) (accepts k (merged_states (Some st) (taken_in (family_of d.ptype) x.value))) (refuses k st)
without_nans d c k st (Inexact x) = summed false c k st
without_nans d c k st Absent = summed false c k st

-- a number of NaN entries above 0 makes the state NaN
abbrev pub with_nans : DType → Meaning → Statistics → SumState → ℕ → Batch SumPartial
with_nans d c k st zero = without_nans d c k st k.sum
with_nans d c k st (suc n) = accepts k (Some (Floating nan_pattern))

abbrev pub by_nan_count : DType → Meaning → Statistics → SumState → Precision ℕ → Batch SumPartial
by_nan_count d c k st (Exact n) = with_nans d c k st n
by_nan_count d c k st (Inexact n) = summed false c k st
by_nan_count d c k st Absent = summed false c k st

-- only a float sum that keeps NaNs looks at the record
abbrev pub keeping_nans : Family → DType → Meaning → Statistics → SumState → Batch SumPartial
keeping_nans family.Unsigned d c k st = summed false c k st
keeping_nans family.Signed d c k st = summed false c k st
keeping_nans family.Float d c k st = by_nan_count d c k st k.nan_count

abbrev pub state_batch : Bool → DType → Meaning → Statistics → SumState → Batch SumPartial
state_batch true d c k st = summed true c k st
state_batch false d c k st = keeping_nans (family_of d.ptype) d c k st

-- a null partial takes nothing from a column and stays null
abbrev pub sum_batch : Bool → DType → Meaning → Statistics → Option SumState → Batch SumPartial
sum_batch skip d c k None = accepts k None
sum_batch skip d c k (Some st) = state_batch skip d c k st

-- ---- which partials are allowed

-- An unsigned sum is null exactly where the sheet holds a null or the exact total exceeds 2^64 - 1, and else that total.
abbrev pub exactly : Sheet Scalar → Option SumState
exactly s = cond (holds_null s) None (option_map Unsigned (checked unsigned64 (total s)))

-- the positives exceed 2^63 - 1 or the negatives are below -2^63
abbrev pub Passed : Sheet Scalar → Type 0
Passed s = (2 ^ 63 ≤ positives s) ⊎ (2 ^ 63 < negatives s)

-- A signed sum that is a number is the exact total of a sheet without a null. Null comes only with a null on the sheet or
-- where the limits are passed.
abbrev pub SignedAllowed : Sheet Scalar → Option SumState → Type 0
SignedAllowed s None = (holds_null s ≡ true) ⊎ Passed s
SignedAllowed s (Some (Unsigned a)) = ⊥
SignedAllowed s (Some (Signed a)) = (holds_null s ≡ false) × (a ≡ signed_total s) × (signed64.fits a ≡ true)
SignedAllowed s (Some (Floating a)) = ⊥

-- null, or a state of the family: a number that 64 bits hold, or a float whose NaN has the one pattern
abbrev pub OfFamily : Family → Option SumState → Type 0
OfFamily g None = Unit {0}
OfFamily family.Unsigned (Some (Unsigned a)) = a < 2 ^ 64
OfFamily family.Unsigned (Some (Signed a)) = ⊥
OfFamily family.Unsigned (Some (Floating a)) = ⊥
OfFamily family.Signed (Some (Unsigned a)) = ⊥
OfFamily family.Signed (Some (Signed a)) = signed64.fits a ≡ true
OfFamily family.Signed (Some (Floating a)) = ⊥
OfFamily family.Float (Some (Unsigned a)) = ⊥
OfFamily family.Float (Some (Signed a)) = ⊥
OfFamily family.Float (Some (Floating a)) = kept (held a) ≡ a

abbrev pub Allowed : Family → Sheet Scalar → Option SumState → Type 0
Allowed family.Unsigned s q = q ≡ exactly s
Allowed family.Signed s q = SignedAllowed s q
Allowed family.Float s q = OfFamily family.Float q

abbrev pub sum_model : Model NumericalAggregateOpts SumPartial Scalar Scalar
sum_model = record {
  Kind = DType;
  kind_of = λ x. x.dtype;
  partial_kind = λ o d. dtype_of_sum d;
  empty = λ o d. holding (Some (zero_of (family_of d.ptype)));
  batch = λ o d c k q. sum_batch o.skip_nans d c k q.current;
  merged = λ o d q r. holding (merged_states q.current r.current);
  takes = λ o d x. has_same_type x.dtype (dtype_of_sum d);
  taken = λ o d x. holding (taken_in (family_of d.ptype) x.value);
  reads = λ o d q. scalar_of d q.current;
  final = λ o d q. scalar_of d q.current;
  saturated = λ o d q. full q.current;
  caches = λ o d. o.skip_nans;
  from_sum = λ o d x. from_cached d x;
  wrote = λ o d q k. wrote_state q.current k;
  belongs = λ o d q. OfFamily (family_of d.ptype) q.current;
  allowed = λ o d s q. Allowed (family_of d.ptype) s q.current;
}
