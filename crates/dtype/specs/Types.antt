-- The ten number types: their codes, families and widths. Assumes nothing.
use Rattle.std.specs.Prelude.{◌≡◌, ℕ, Bool, true, false, not, ◌&&◌, Result, MatchResult, ◌==◌, ◌≢◌}
use Rattle.dtype.specs.declared.ptype.Family.{Family}
use Rattle.dtype.specs.declared.ptype.Family.TheVariants.{Unsigned as unsigned, Signed as signed, Float as floating}
use Rattle.dtype.specs.declared.ptype.PType.{PType}
use Rattle.dtype.specs.declared.ptype.PType.TheVariants as p
use Rattle.dtype.specs.declared.ptype.DType.{DType}
use Rattle.dtype.specs.declared.refusal.Refusal.{Refusal}
use Rattle.dtype.specs.declared.refusal.Refusal.TheVariants.{TypeCode}

abbrev pub code_of : PType → ℕ
code_of p.U8 = 0
code_of p.U16 = 1
code_of p.U32 = 2
code_of p.U64 = 3
code_of p.I8 = 4
code_of p.I16 = 5
code_of p.I32 = 6
code_of p.I64 = 7
code_of p.F32 = 9
code_of p.F64 = 10

-- the type that has this code, or a refusal where none has
abbrev pub Decodes : ℕ → Result PType Refusal → Type 0
Decodes code r = MatchResult r (λ t. code_of t ≡ code) (λ e. (e ≡ TypeCode) × ((t : PType) → code_of t ≢ code))

abbrev pub family_of : PType → Family
family_of p.U8 = unsigned
family_of p.U16 = unsigned
family_of p.U32 = unsigned
family_of p.U64 = unsigned
family_of p.I8 = signed
family_of p.I16 = signed
family_of p.I32 = signed
family_of p.I64 = signed
family_of p.F32 = floating
family_of p.F64 = floating

-- fewer than 64 bits
abbrev pub narrow : PType → Bool
narrow p.U8 = true
narrow p.U16 = true
narrow p.U32 = true
narrow p.U64 = false
narrow p.I8 = true
narrow p.I16 = true
narrow p.I32 = true
narrow p.I64 = false
narrow p.F32 = true
narrow p.F64 = false

-- the type of a family's sums, which are always nullable
abbrev pub sum_ptype : Family → PType
sum_ptype unsigned = p.U64
sum_ptype signed = p.I64
sum_ptype floating = p.F64

abbrev pub dtype_of_sum : DType → DType
dtype_of_sum d = record { ptype = sum_ptype (family_of d.ptype); nullable = true }

-- The tests of equality, as functions that a definition can go by; `specs/Same.antt` says that they tell equality.
abbrev pub has_same_flag : Bool → Bool → Bool
has_same_flag true b = b
has_same_flag false b = not b

abbrev pub has_same_kind : PType → PType → Bool
has_same_kind a b = code_of a == code_of b

abbrev pub has_same_type : DType → DType → Bool
has_same_type a b = has_same_kind a.ptype b.ptype && has_same_flag a.nullable b.nullable
