-- What a site of sums or counts reads, by the exact totals of its sheet alone. Assumes nothing.
use Rattle.std.specs.Prelude.{◌≡◌, ℕ, ◌^◌, ◌<◌, ◌≤◌, true, false, ◌⊎◌, ℤ, Some, None, Float}
use Rattle.dtype.specs.declared.ptype.DType.{DType}
use Rattle.dtype.specs.declared.ptype.Family.{Family}
use Rattle.dtype.specs.declared.ptype.Family.TheVariants as family
use Rattle.dtype.specs.declared.ptype.PType.{PType}
use Rattle.dtype.specs.declared.ptype.PType.TheVariants as p
use Rattle.dtype.specs.declared.scalar.Scalar.{Scalar}
use Rattle.dtype.specs.declared.value.Value.TheVariants as v
use Rattle.aggregates.specs.Sheets.{Sheet}
use Rattle.aggregates.specs.Totals.{total, signed_total, count_total, positives, negatives, holds_null}
use Rattle.pairs.specs.Pairs.{sheet_of}

abbrev pub nullable_of : PType → DType
nullable_of t = record { ptype = t; nullable = true }

-- The sheet holds a null or the total exceeds 2^64 - 1.
abbrev pub NullOrPast : Sheet Scalar → ℕ → Type 0
NullOrPast s n = (holds_null s ≡ true) ⊎ (2 ^ 64 ≤ n)

-- Null exactly where the sheet holds a null or the exact total exceeds 2^64 - 1, and that total otherwise.
pub record ReadsExactly (n : ℕ) (s : Sheet Scalar) (x : Scalar) : Type 0 where
  pub dtype : x.dtype ≡ nullable_of p.U64
  pub null_only : x.value ≡ None → NullOrPast s n
  pub null_always : NullOrPast s n → x.value ≡ None
  pub number : (NullOrPast s n → ⊥) → x.value ≡ Some (v.U64 n)

-- A number is the exact total of a sheet without a null. Null comes only with a null on the sheet, with positives above
-- 2^63 - 1 or with negatives below -2^63.
pub record ReadsSigned (s : Sheet Scalar) (x : Scalar) : Type 0 where
  pub dtype : x.dtype ≡ nullable_of p.I64
  pub either : (x.value ≡ None) ⊎ ((z : ℤ) × (x.value ≡ Some (v.I64 z)))
  pub number : (z : ℤ) → x.value ≡ Some (v.I64 z) → (holds_null s ≡ false) × (z ≡ signed_total s)
  pub null_only : x.value ≡ None → (holds_null s ≡ true) ⊎ ((2 ^ 63 ≤ positives s) ⊎ (2 ^ 63 < negatives s))

-- A float or null; which one is what the steps reach.
pub record ReadsFloat (x : Scalar) : Type 0 where
  pub dtype : x.dtype ≡ nullable_of p.F64
  pub either : (x.value ≡ None) ⊎ ((z : Float) × (x.value ≡ Some (v.F64 z)))

-- what a site of sums reads, by the family of its dtype
abbrev pub SumReads : Family → Sheet Scalar → Scalar → Type 0
SumReads family.Unsigned s x = ReadsExactly (total s) s x
SumReads family.Signed s x = ReadsSigned s x
SumReads family.Float s x = ReadsFloat x

-- what a site of counts reads
abbrev pub CountReads : Sheet Scalar → Scalar → Type 0
CountReads s x = ReadsExactly (count_total s) s x

-- Nothing was counted: no null was handed to the count, and its exact total is 0.
abbrev pub NothingCounted : Sheet Scalar → Type 0
NothingCounted s = (holds_null s ≡ false) × (count_total s ≡ 0)

-- What a site of `Reported` reads: null where nothing was counted, and what the sum reads otherwise. Each half has its own
-- field of what was handed in.
abbrev pub ReportedReads : Family → Sheet (Scalar × Scalar) → Scalar → Type 0
ReportedReads g s x = (NothingCounted (sheet_of (λ y. y.1) s) × (x.value ≡ None)) ⊎ ((NothingCounted (sheet_of (λ y. y.1) s) → ⊥) × SumReads g (sheet_of (λ y. y.0) s) x)
