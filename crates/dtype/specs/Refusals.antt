-- The number of each refusal. Assumes nothing.
use Rattle.std.specs.Prelude.{ℕ}
use Rattle.dtype.specs.declared.refusal.Refusal.{Refusal}
use Rattle.dtype.specs.declared.refusal.Refusal.TheVariants as r

abbrev pub number : Refusal → ℕ
number r.TypeCode = 1
number r.WrongValue = 2
number r.BitmapLength = 3
number r.ColumnDType = 4
number r.PartialDType = 5
number r.CachedSumType = 6
number r.BoardSize = 7
number r.NoSuchSite = 8
number r.SameSite = 9
number r.UnequalAccumulators = 10
