-- The state of a running sum, and the value that it reads. Assumes nothing.
use Rattle.std.specs.Prelude.{◌≡◌, ℕ, pos, Some, None, Option, Result, MatchResult, from_bits, to_bits, Float}
use Rattle.std.specs.Float.{binary64}
use Rattle.std.specs.Option.{option_map}
use Rattle.dtype.specs.declared.ptype.Family.{Family}
use Rattle.dtype.specs.declared.ptype.Family.TheVariants as family
use Rattle.dtype.specs.declared.refusal.Refusal.{Refusal}
use Rattle.dtype.specs.declared.refusal.Refusal.TheVariants.{WrongValue}
use Rattle.dtype.specs.declared.value.Value.{Value}
use Rattle.dtype.specs.declared.value.Value.TheVariants as v
use Rattle.sums.specs.declared.state.SumState.{SumState}
use Rattle.sums.specs.declared.state.SumState.TheVariants.{Unsigned, Signed, Float as Floating}
use Rattle.sums.specs.Sums.{unsigned64, signed64, checked}

-- the float of a state, and the bits that a float is kept as
abbrev pub held : ℕ → Float
held b = from_bits binary64 b

abbrev pub kept : Float → ℕ
kept x = to_bits binary64 x

-- the one pattern of a NaN
abbrev pub nan_pattern : ℕ
nan_pattern = 0x7ff8_0000_0000_0000

abbrev pub zero_of : Family → SumState
zero_of family.Unsigned = Unsigned 0
zero_of family.Signed = Signed (pos 0)
zero_of family.Float = Floating 0

abbrev pub value_of : SumState → Value
value_of (Unsigned n) = v.U64 n
value_of (Signed z) = v.I64 z
value_of (Floating b) = v.F64 (held b)

-- The state that a value stands for. A number that no 64 bits hold, which no value of the program has, stands for none.
abbrev pub state_of : Value → Option SumState
state_of (v.U8 n) = None
state_of (v.U16 n) = None
state_of (v.U32 n) = None
state_of (v.U64 n) = option_map Unsigned (checked unsigned64 n)
state_of (v.I8 z) = None
state_of (v.I16 z) = None
state_of (v.I32 z) = None
state_of (v.I64 z) = option_map Signed (checked signed64 z)
state_of (v.F32 x) = None
state_of (v.F64 x) = Some (Floating (kept x))

-- the state that a value stands for, or a refusal where it stands for none
abbrev pub StandsFor : Value → Result SumState Refusal → Type 0
StandsFor x r = MatchResult r (λ s. state_of x ≡ Some s) (λ e. (e ≡ WrongValue) × (state_of x ≡ None))
