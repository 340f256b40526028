-- The exact totals of a sheet of scalars, and whether it holds a null. Assumes nothing.
use Rattle.std.specs.Prelude.{ℕ, Bool, true, false, cond, [], ◌∷◌, ℤ, pos, Some, None, sum_by, Option}
use Rattle.dtype.specs.declared.scalar.Scalar.{Scalar}
use Rattle.dtype.specs.declared.value.Value.{Value}
use Rattle.dtype.specs.Values.{nat_of, int_of}
use Rattle.sums.specs.Sums.{signed64, exact_total, above, below}
use Rattle.column_sums.specs.Lots.{nat_worth, int_worth}
use Rattle.aggregates.specs.Sheets.{Item, lot, handed, Sheet}
use Rattle.aggregates.specs.SumStates.{is_null}

-- what a handed-in scalar adds: its number, and nothing where it is null
abbrev pub nat_in : Option Value → ℕ
nat_in None = 0
nat_in (Some x) = nat_of x

abbrev pub int_in : Option Value → ℤ
int_in None = pos 0
int_in (Some x) = int_of x

-- what an item adds to an unsigned total, to a signed one, and to a count
abbrev pub nat_item : Item Scalar → ℕ
nat_item (lot l) = nat_worth l
nat_item (handed x) = nat_in x.value

abbrev pub int_item : Item Scalar → ℤ
int_item (lot l) = int_worth l
int_item (handed x) = int_in x.value

abbrev pub count_item : Item Scalar → ℕ
count_item (lot l) = l.times
count_item (handed x) = nat_in x.value

-- the exact totals, over the natural numbers and over the integers
abbrev pub total : Sheet Scalar → ℕ
total s = sum_by nat_item s

abbrev pub signed_total : Sheet Scalar → ℤ
signed_total s = exact_total signed64 int_item s

abbrev pub count_total : Sheet Scalar → ℕ
count_total s = sum_by count_item s

-- the items above 0 added up, and those below
abbrev pub positives : Sheet Scalar → ℕ
positives s = sum_by (λ x. above (int_item x)) s

abbrev pub negatives : Sheet Scalar → ℕ
negatives s = sum_by (λ x. below (int_item x)) s

-- a null scalar is among the items
abbrev pub null_item : Item Scalar → Bool
null_item (lot l) = false
null_item (handed x) = is_null x.value

abbrev pub holds_null : Sheet Scalar → Bool
holds_null [] = false
holds_null (x ∷ s) = cond (null_item x) true (holds_null s)
