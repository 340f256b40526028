-- Values by their type and number, and which values a dtype takes. Assumes nothing.
use Rattle.std.specs.Prelude.{◌≡◌, ℕ, Bool, true, false, ℤ, pos, Some, None, Option, from_bits, is_nan, Float}
use Rattle.std.specs.Float.{binary64}
use Rattle.dtype.specs.declared.ptype.PType.{PType}
use Rattle.dtype.specs.declared.ptype.PType.TheVariants as p
use Rattle.dtype.specs.declared.ptype.DType.{DType}
use Rattle.dtype.specs.declared.value.Value.{Value}
use Rattle.dtype.specs.declared.value.Value.TheVariants as v
use Rattle.dtype.specs.Types.{has_same_kind}

abbrev pub kind_of : Value → PType
kind_of (v.U8 x) = p.U8
kind_of (v.U16 x) = p.U16
kind_of (v.U32 x) = p.U32
kind_of (v.U64 x) = p.U64
kind_of (v.I8 x) = p.I8
kind_of (v.I16 x) = p.I16
kind_of (v.I32 x) = p.I32
kind_of (v.I64 x) = p.I64
kind_of (v.F32 x) = p.F32
kind_of (v.F64 x) = p.F64

-- the number in a value of the unsigned family, and 0 for another's
abbrev pub nat_of : Value → ℕ
nat_of (v.U8 x) = x
nat_of (v.U16 x) = x
nat_of (v.U32 x) = x
nat_of (v.U64 x) = x
nat_of (v.I8 x) = 0
nat_of (v.I16 x) = 0
nat_of (v.I32 x) = 0
nat_of (v.I64 x) = 0
nat_of (v.F32 x) = 0
nat_of (v.F64 x) = 0

-- the same for the signed family
abbrev pub int_of : Value → ℤ
int_of (v.U8 x) = pos 0
int_of (v.U16 x) = pos 0
int_of (v.U32 x) = pos 0
int_of (v.U64 x) = pos 0
int_of (v.I8 x) = x
int_of (v.I16 x) = x
int_of (v.I32 x) = x
int_of (v.I64 x) = x
int_of (v.F32 x) = pos 0
int_of (v.F64 x) = pos 0

abbrev pub zero_float : Float
zero_float = from_bits binary64 0

-- the same for the float family, where another's is 0.0
abbrev pub float_of : Value → Float
float_of (v.U8 x) = zero_float
float_of (v.U16 x) = zero_float
float_of (v.U32 x) = zero_float
float_of (v.U64 x) = zero_float
float_of (v.I8 x) = zero_float
float_of (v.I16 x) = zero_float
float_of (v.I32 x) = zero_float
float_of (v.I64 x) = zero_float
float_of (v.F32 x) = x
float_of (v.F64 x) = x

abbrev pub nan_value : Value → Bool
nan_value (v.U8 x) = false
nan_value (v.U16 x) = false
nan_value (v.U32 x) = false
nan_value (v.U64 x) = false
nan_value (v.I8 x) = false
nan_value (v.I16 x) = false
nan_value (v.I32 x) = false
nan_value (v.I64 x) = false
nan_value (v.F32 x) = is_nan x
nan_value (v.F64 x) = is_nan x

-- null where the flag is set, or a value of the type
abbrev pub ValueOf : DType → Option Value → Type 0
ValueOf d None = d.nullable ≡ true
ValueOf d (Some x) = kind_of x ≡ d.ptype

-- the same as a test
abbrev pub scalar_ok : DType → Option Value → Bool
scalar_ok d None = d.nullable
scalar_ok d (Some x) = has_same_kind (kind_of x) d.ptype
