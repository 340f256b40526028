-- Small columns, each with a record that is truthful of it and with others that are not. Assumes nothing.
use Rattle.std.specs.Prelude.{◌≡◌, ℕ, Bool, true, false, List, [], ◌∷◌, length, ℤ, pos, negsuc, Some, None, Option, slice_index_or, refl, Float}
use Rattle.std.specs.Float.{nan}
use Rattle.dtype.specs.declared.ptype.Family.TheVariants as family
use Rattle.dtype.specs.declared.ptype.PType.{PType}
use Rattle.dtype.specs.declared.ptype.PType.TheVariants as p
use Rattle.dtype.specs.declared.precision.Precision.{Precision}
use Rattle.dtype.specs.declared.precision.Precision.TheVariants.{Exact, Absent}
use Rattle.dtype.specs.declared.statistics.Statistics.{Statistics}
use Rattle.dtype.specs.declared.value.Value.{Value}
use Rattle.dtype.specs.declared.value.Value.TheVariants as v
use Rattle.sums.specs.States.{held, zero_of}
use Rattle.columns.specs.Columns.{Meaning, Proper}
use Rattle.column_sums.specs.ColumnSums.{column_sum}
use Rattle.column_sums.specs.Records.{Truthful}

-- a nullable column of the entries listed
abbrev pub listed : PType → List (Option Value) → Meaning
listed t xs = record { dtype = record { ptype = t; nullable = true }; len = length xs; entry = λ i. slice_index_or xs i None; constant = false }

-- records of an exact sum, by its family, and of the number of NaNs
abbrev pub unsigned_record : ℕ → Precision ℕ → Statistics
unsigned_record n q = record { sum = Exact (record { dtype = record { ptype = p.U64; nullable = true }; value = Some (v.U64 n); ok = refl }); nan_count = q; ok = refl }

abbrev pub signed_record : ℤ → Precision ℕ → Statistics
signed_record z q = record { sum = Exact (record { dtype = record { ptype = p.I64; nullable = true }; value = Some (v.I64 z); ok = refl }); nan_count = q; ok = refl }

abbrev pub float_record : Float → Precision ℕ → Statistics
float_record x q = record { sum = Exact (record { dtype = record { ptype = p.F64; nullable = true }; value = Some (v.F64 x); ok = refl }); nan_count = q; ok = refl }

-- 1 and 2 with a null between them
abbrev pub byte_entries : List (Option Value)
byte_entries = Some (v.U8 1) ∷ None ∷ Some (v.U8 2) ∷ []

abbrev pub bytes : Meaning
bytes = listed p.U8 byte_entries

abbrev pub UnsignedExample : Type 0
UnsignedExample = Proper bytes × Truthful bytes (unsigned_record 3 Absent) × (Truthful bytes (unsigned_record 4 Absent) → ⊥)

-- 2^63 - 1, then 1 and -1: the exact total is in range, and adding one by one overflows
abbrev pub long_entries : List (Option Value)
long_entries = Some (v.I64 (pos 0x7fff_ffff_ffff_ffff)) ∷ Some (v.I64 (pos 1)) ∷ Some (v.I64 (negsuc 0)) ∷ []

abbrev pub longs : Meaning
longs = listed p.I64 long_entries

abbrev pub SignedExample : Type 0
SignedExample =
    Proper longs
    × Truthful longs (signed_record (pos 0x7fff_ffff_ffff_ffff) Absent)
    × (Truthful longs (signed_record (pos 0x7fff_ffff_ffff_fffe) Absent) → ⊥)
    × ((skip : Bool) → column_sum longs skip (zero_of family.Signed) ≡ None)

-- 1.0, a NaN and 2.0
abbrev pub double_entries : List (Option Value)
double_entries = Some (v.F64 (held 0x3ff0_0000_0000_0000)) ∷ Some (v.F64 nan) ∷ Some (v.F64 (held 0x4000_0000_0000_0000)) ∷ []

abbrev pub doubles : Meaning
doubles = listed p.F64 double_entries

-- 3.0, and not 4.0; one NaN, and not none
abbrev pub FloatExample : Type 0
FloatExample =
    Proper doubles
    × Truthful doubles (float_record (held 0x4008_0000_0000_0000) (Exact 1))
    × (Truthful doubles (float_record (held 0x4010_0000_0000_0000) (Exact 1)) → ⊥)
    × (Truthful doubles (float_record (held 0x4008_0000_0000_0000) (Exact 0)) → ⊥)
