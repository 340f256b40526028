-- What the sum of a column says of its exact total. Assumes nothing.
use Rattle.std.specs.Prelude.{◌≡◌, ℕ, true, ℤ, is_some, Option}
use Rattle.std.specs.Option.{option_map}
use Rattle.dtype.specs.declared.ptype.Family.{Family}
use Rattle.dtype.specs.declared.ptype.Family.TheVariants as family
use Rattle.dtype.specs.Types.{family_of}
use Rattle.sums.specs.declared.state.SumState.{SumState}
use Rattle.sums.specs.declared.state.SumState.TheVariants.{Unsigned, Signed, Float as Floating}
use Rattle.sums.specs.Sums.{UnsignedTotal, SignedTotal}
use Rattle.columns.specs.Columns.{Meaning}
use Rattle.column_sums.specs.Lots.{column_lots, nat_worth, int_worth}

-- A sum from an unsigned state is the exact total, and there is none exactly where that passes 2^64 - 1.
abbrev pub UnsignedColumn : Meaning → SumState → Option SumState → Type 0
UnsignedColumn c (Unsigned a) r = (o : Option ℕ) × (r ≡ option_map Unsigned o) × UnsignedTotal nat_worth a (column_lots c) o
UnsignedColumn c (Signed a) r = Unit {0}
UnsignedColumn c (Floating a) r = Unit {0}

-- A sum from a signed state is the exact total, and there is none only where the positives pass 2^63 - 1 or the negatives pass -2^63.
abbrev pub SignedColumn : Meaning → SumState → Option SumState → Type 0
SignedColumn c (Unsigned a) r = Unit {0}
SignedColumn c (Signed a) r = (o : Option ℤ) × (r ≡ option_map Signed o) × SignedTotal int_worth a (column_lots c) o
SignedColumn c (Floating a) r = Unit {0}

-- A float sum never overflows.
abbrev pub FloatColumn : SumState → Option SumState → Type 0
FloatColumn (Unsigned a) r = Unit {0}
FloatColumn (Signed a) r = Unit {0}
FloatColumn (Floating a) r = is_some r ≡ true

-- by the column's family, for a state of that family
abbrev pub TotalBy : Family → Meaning → SumState → Option SumState → Type 0
TotalBy family.Unsigned c st r = UnsignedColumn c st r
TotalBy family.Signed c st r = SignedColumn c st r
TotalBy family.Float c st r = FloatColumn st r

abbrev pub ColumnTotal : Meaning → SumState → Option SumState → Type 0
ColumnTotal c st r = TotalBy (family_of c.dtype.ptype) c st r
