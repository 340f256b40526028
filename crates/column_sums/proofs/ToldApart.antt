-- Records that are truthful of a column, and records that are not. Assumes nothing.
use Rattle.std.proofs.Common.{◌≡◌, ℕ, zero, suc, ◌<◌, true, List, [], ◌∷◌, length, get_or, None, Option, unwrap_or, refl, ap, subst, arith}
use lib.Ieee.{add, mul, of_int, of_bits, to_bits, is_nan}
use Rattle.std.proofs.lemmas.Bool.{false≢true}
use Rattle.dtype.specs.declared.ptype.DType.{DType}
use Rattle.dtype.specs.declared.ptype.PType.{PType}
use Rattle.dtype.specs.declared.ptype.PType.TheVariants as p
use Rattle.dtype.specs.declared.precision.Precision.TheVariants.{Exact}
use Rattle.dtype.specs.declared.scalar.Scalar.{Scalar}
use Rattle.dtype.specs.declared.statistics.Statistics.{Statistics}
use Rattle.dtype.specs.declared.value.Value.{Value}
use Rattle.dtype.specs.declared.value.Value.TheVariants as v
use Rattle.dtype.specs.Values.{float_of, ValueOf}
use Rattle.sums.specs.States.{held, kept}
use Rattle.columns.specs.Columns.{Meaning, Proper}
use Rattle.column_sums.specs.Lots.{count_of_nans}
use Rattle.column_sums.specs.Records.{RightSum, Truthful}
use Rattle.column_sums.specs.Examples.{listed, double_entries, doubles, float_record, FloatExample}

-- entries that are all of a dtype
abbrev Typed : DType → List (Option Value) → Type 0
Typed d [] = Unit {0}
Typed d (o ∷ os) = ValueOf d o × Typed d os

typed_at : (d : DType) (os : List (Option Value)) → Typed d os → (i : ℕ) → i < length os → ValueOf d (get_or os i None)
typed_at d [] h i low = absurd (omega arith)
typed_at d (o ∷ os) h zero low = h.0
typed_at d (o ∷ os) h (suc i) low = typed_at d os h.1 i (omega arith)

listed_proper : (t : PType) (os : List (Option Value)) → Typed (record { ptype = t; nullable = true }) os → Proper (listed t os)
listed_proper t os h = record { typed = typed_at (record { ptype = t; nullable = true }) os h; same = λ k i low. absurd (false≢true k) }

-- a right sum and a right count of NaNs make a record truthful
sum_truthful : (c : Meaning) (k : Statistics) (x : Scalar) → k.sum ≡ Exact x → RightSum c x → ((n : ℕ) → k.nan_count ≡ Exact n → n ≡ count_of_nans c) → Truthful c k
sum_truthful c k x e h f = record { sum = λ y r. let same : x ≡ y = cc in subst (RightSum c) same h; nans = f }

-- the bits of a float sum
abbrev bits_of : Option Value → ℕ
bits_of o = kept (float_of (unwrap_or o (v.U8 0)))

pub float_told_apart : FloatExample
unfolding add mul of_int of_bits to_bits is_nan
float_told_apart = (
  listed_proper p.F64 double_entries (refl, (refl, (refl, tt))),
  sum_truthful doubles (float_record (held 0x4008_0000_0000_0000) (Exact 1)) _ refl (record { kind = refl; amount = refl }) (λ n e. cc),
  λ h. let z : ◌≡◌ {A = ℕ} 0x4010_0000_0000_0000 0x4008_0000_0000_0000 = ap bits_of (h.sum _ refl).amount in omega arith,
  λ h. let z : ◌≡◌ {A = ℕ} 0 1 = h.nans 0 refl in omega arith,
)
