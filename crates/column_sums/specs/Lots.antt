-- Lots: the valid entries of a column, as values and how often each stands there. Assumes nothing.
use Rattle.std.specs.Prelude.{ℕ, zero, suc, ◌*◌, Bool, true, false, cond, List, [], ◌∷◌, ℤ, pos, ◌*ℤ◌, Some, None, sum_by, Option, ◌==◌}
use Rattle.dtype.specs.declared.value.Value.{Value}
use Rattle.dtype.specs.Values.{nat_of, int_of, nan_value}
use Rattle.sums.specs.Sums.{signed64, exact_total}
use Rattle.columns.specs.Columns.{Meaning}

-- a value and how often it stands in a column
pub record Lot : Type 0 where
  pub value : Value
  pub times : ℕ

-- the valid entries among the n from i on
abbrev pub keep_entry : Option Value → List Value → List Value
keep_entry None xs = xs
keep_entry (Some x) xs = x ∷ xs

abbrev pub values_from : (ℕ → Option Value) → ℕ → ℕ → List Value
values_from entry i zero = []
values_from entry i (suc n) = keep_entry (entry i) (values_from entry (suc i) n)

-- a lot of 1 for each value
abbrev pub single : List Value → List Lot
single [] = []
single (x ∷ xs) = record { value = x; times = 1 } ∷ single xs

-- a constant as one lot, and none where it is null or has no entry
abbrev pub whole_lot : Option Value → ℕ → List Lot
whole_lot None n = []
whole_lot (Some x) n = cond (n == 0) [] (record { value = x; times = n } ∷ [])

-- The constant flag is matched on, so that a constant of any length never unrolls.
abbrev pub lots_by : Bool → Meaning → List Lot
lots_by true c = whole_lot (c.entry 0) c.len
lots_by false c = single (values_from c.entry 0 c.len)

abbrev pub column_lots : Meaning → List Lot
column_lots c = lots_by c.constant c

-- what a lot adds to an unsigned total, and to a signed one
abbrev pub nat_worth : Lot → ℕ
nat_worth l = nat_of l.value * l.times

abbrev pub int_worth : Lot → ℤ
int_worth l = int_of l.value *ℤ pos l.times

-- the exact totals of lots, over the natural numbers and over the integers
abbrev pub nat_total : List Lot → ℕ
nat_total ls = sum_by nat_worth ls

abbrev pub int_total : List Lot → ℤ
int_total ls = exact_total signed64 int_worth ls

-- how many entries are NaN
abbrev pub nan_worth : Lot → ℕ
nan_worth l = cond (nan_value l.value) l.times 0

abbrev pub count_of_nans : Meaning → ℕ
count_of_nans c = sum_by nan_worth (column_lots c)
