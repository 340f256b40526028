-- Count: what each operation answers, and which partials are allowed for a sheet. Assumes nothing.
use Rattle.std.specs.Prelude.{◌≡◌, ℕ, ◌^◌, ◌<◌, true, false, cond, Some, None, Ok, Option, refl}
use Rattle.dtype.specs.declared.ptype.DType.{DType}
use Rattle.dtype.specs.declared.ptype.PType.TheVariants as p
use Rattle.dtype.specs.declared.scalar.Scalar.{Scalar}
use Rattle.dtype.specs.declared.statistics.Statistics.{Statistics}
use Rattle.dtype.specs.declared.value.Value.{Value}
use Rattle.dtype.specs.declared.value.Value.TheVariants as v
use Rattle.dtype.specs.Types.{has_same_type}
use Rattle.dtype.specs.Values.{nat_of}
use Rattle.sums.specs.Sums.{unsigned64, checked, step}
use Rattle.columns.specs.Columns.{Meaning}
use Rattle.column_sums.specs.Counts.{column_count}
use Rattle.aggregates.specs.declared.count.CountPartial.{CountPartial}
use Rattle.aggregates.specs.Sheets.{Sheet}
use Rattle.aggregates.specs.Model.{Model, Batch}
use Rattle.aggregates.specs.SumStates.{is_null}
use Rattle.aggregates.specs.Totals.{count_total, holds_null}

abbrev pub counting : Option ℕ → CountPartial
counting q = record { current = q }

-- the dtype of every count
abbrev pub count_dtype : DType
count_dtype = record { ptype = p.U64; nullable = true }

abbrev pub scalar_of_count : Option ℕ → Scalar
scalar_of_count None = record { dtype = count_dtype; value = None; ok = refl }
scalar_of_count (Some n) = record { dtype = count_dtype; value = Some (v.U64 n); ok = refl }

-- null with anything is null
abbrev pub merged_counts : Option ℕ → Option ℕ → Option ℕ
merged_counts q None = None
merged_counts q (Some n) = step unsigned64 q n

-- A number that no 64 bits hold, which no value of the program has, gives none.
abbrev pub taken_count : Option Value → Option ℕ
taken_count None = None
taken_count (Some x) = checked unsigned64 (nat_of x)

-- The column's count is added. The record is not read and stays as it is.
abbrev pub count_batch : Meaning → Statistics → Option ℕ → Batch CountPartial
count_batch c k q = record { answer = Ok tt; stats = k; partial = counting (step unsigned64 q (column_count c)) }

-- A count is null exactly where the sheet holds a null or more than 2^64 - 1 were counted, and else it is their number.
abbrev pub exact_count : Sheet Scalar → Option ℕ
exact_count s = cond (holds_null s) None (checked unsigned64 (count_total s))

-- null, or a number that 64 bits hold
abbrev pub CountFits : Option ℕ → Type 0
CountFits None = Unit {0}
CountFits (Some n) = n < 2 ^ 64

abbrev pub count_model : Model (Unit {0}) CountPartial Scalar Scalar
count_model = record {
  Kind = DType;
  kind_of = λ x. x.dtype;
  partial_kind = λ o d. count_dtype;
  empty = λ o d. counting (Some 0);
  batch = λ o d c k q. count_batch c k q.current;
  merged = λ o d q r. counting (merged_counts q.current r.current);
  takes = λ o d x. has_same_type x.dtype count_dtype;
  taken = λ o d x. counting (taken_count x.value);
  reads = λ o d q. scalar_of_count q.current;
  final = λ o d q. scalar_of_count q.current;
  saturated = λ o d q. is_null q.current;
  caches = λ o d. false;
  from_sum = λ o d x. None;
  wrote = λ o d q k. k;
  belongs = λ o d q. CountFits q.current;
  allowed = λ o d s q. q.current ≡ exact_count s;
}
