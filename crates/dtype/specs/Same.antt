-- What passes a test of equality is equal, and records are equal where their fields are. Assumes nothing.
use Rattle.std.specs.Prelude.{◌≡◌, Bool, true, Some, None, Decides, Option, refl}
use Rattle.std.proofs.Common.{arith, eq-eqb}
use Rattle.std.proofs.Math.Bool.{Bool-set}
use mathlib.Core.HLevel.{is_prop→PathP}
use Rattle.std.proofs.lemmas.Bool.{and_parts}
use Rattle.std.proofs.lemmas.Bool.Decides.{same_from_decides}
use Rattle.dtype.specs.declared.ptype.PType.{PType}
use Rattle.dtype.specs.declared.ptype.DType.{DType}
use Rattle.dtype.specs.declared.value.Value.{Value}
use Rattle.dtype.specs.declared.scalar.Scalar.{Scalar}
use Rattle.dtype.specs.declared.statistics.Statistics.{Statistics}
use Rattle.dtype.specs.Types.{code_of, has_same_kind, has_same_flag, has_same_type}
use Rattle.dtype.specs.Values.{scalar_ok, ValueOf}
use Rattle.dtype.specs.Cached.{cached_ok}

pub same_kind : (a b : PType) → has_same_kind a b ≡ true → a ≡ b
same_kind a b h = grind arith

same_flag : (a b : Bool) → has_same_flag a b ≡ true → a ≡ b
same_flag a b h = grind arith

pub same_dtype : (a b : DType) → has_same_type a b ≡ true → a ≡ b
same_dtype a b h =
    let parts = and_parts _ _ h in
    λ i. record { ptype = same_kind a.ptype b.ptype parts.0 i; nullable = same_flag a.nullable b.nullable parts.1 i }

own_kind : (t : PType) → has_same_kind t t ≡ true
own_kind t = eq-eqb (code_of t) (code_of t) refl

own_flag : (b : Bool) → has_same_flag b b ≡ true
own_flag b = grind arith

pub type_same : (a b : DType) → a ≡ b → has_same_type a b ≡ true
type_same a b e = rw (← e, own_kind a.ptype, own_flag a.nullable) refl

-- an answer that tells equality is that of the test
pub told_by_test : (r : Bool) (a b : DType) → Decides r (a ≡ b) → r ≡ has_same_type a b
told_by_test r a b h = same_from_decides r (has_same_type a b) h (same_dtype a b, type_same a b)

-- what passes the test of a scalar is a value of its dtype
pub value_of_dtype : (d : DType) (o : Option Value) → scalar_ok d o ≡ true → ValueOf d o
value_of_dtype d None h = h
value_of_dtype d (Some x) h = same_kind _ d.ptype h

-- an invariant has one proof
pub scalar_same : (x y : Scalar) → x.dtype ≡ y.dtype → x.value ≡ y.value → x ≡ y
scalar_same x y d v =
    λ i. record {
      dtype = d i;
      value = v i;
      ok = is_prop→PathP (λ j. scalar_ok (d j) (v j) ≡ true) (λ j. Bool-set (scalar_ok (d j) (v j)) true) x.ok y.ok i;
    }

pub statistics_same : (x y : Statistics) → x.sum ≡ y.sum → x.nan_count ≡ y.nan_count → x ≡ y
statistics_same x y s n =
    λ i. record {
      sum = s i;
      nan_count = n i;
      ok = is_prop→PathP (λ j. cached_ok (s j) ≡ true) (λ j. Bool-set (cached_ok (s j)) true) x.ok y.ok i;
    }
