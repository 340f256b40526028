-- Statistics records that tell the truth of a column. Assumes nothing.
use Rattle.std.specs.Prelude.{◌≡◌, ℕ, true, Some, Option}
use Rattle.std.specs.Option.{option_map}
use Rattle.dtype.specs.declared.ptype.Family.{Family}
use Rattle.dtype.specs.declared.ptype.Family.TheVariants as family
use Rattle.dtype.specs.declared.precision.Precision.TheVariants.{Exact}
use Rattle.dtype.specs.declared.scalar.Scalar.{Scalar}
use Rattle.dtype.specs.declared.statistics.Statistics.{Statistics}
use Rattle.dtype.specs.declared.value.Value.{Value}
use Rattle.dtype.specs.declared.value.Value.TheVariants as v
use Rattle.dtype.specs.Types.{family_of, sum_ptype}
use Rattle.sums.specs.States.{zero_of, value_of}
use Rattle.columns.specs.Columns.{Meaning}
use Rattle.column_sums.specs.ColumnSums.{column_sum}
use Rattle.column_sums.specs.Lots.{column_lots, nat_total, int_total, count_of_nans}

-- The right amount of a cached sum: for integers the exact total, which adding one by one may fail to reach; for floats
-- what the sum that skips NaNs reaches from 0.0.
abbrev pub RightAmount : Family → Meaning → Option Value → Type 0
RightAmount family.Unsigned c o = o ≡ Some (v.U64 (nat_total (column_lots c)))
RightAmount family.Signed c o = o ≡ Some (v.I64 (int_total (column_lots c)))
RightAmount family.Float c o = o ≡ option_map value_of (column_sum c true (zero_of family.Float))

-- the type of the column's sum, whether nullable or not, and the right amount
pub record RightSum (c : Meaning) (x : Scalar) : Type 0 where
  pub kind : x.dtype.ptype ≡ sum_ptype (family_of c.dtype.ptype)
  pub amount : RightAmount (family_of c.dtype.ptype) c x.value

-- A record is truthful of a column where its exact entries are right.
pub record Truthful (c : Meaning) (k : Statistics) : Type 0 where
  pub sum : (x : Scalar) → k.sum ≡ Exact x → RightSum c x
  pub nans : (n : ℕ) → k.nan_count ≡ Exact n → n ≡ count_of_nans c
