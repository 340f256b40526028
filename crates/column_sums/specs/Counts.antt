-- The number of valid entries of a column. Assumes nothing.
use Rattle.std.specs.Prelude.{ℕ, sum_by}
use Rattle.columns.specs.Columns.{Meaning}
use Rattle.column_sums.specs.Lots.{Lot, column_lots}

-- how many entries are valid, NaNs among them
abbrev pub column_count : Meaning → ℕ
column_count c = sum_by (λ (l : Lot). l.times) (column_lots c)
