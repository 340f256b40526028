-- States of sums: merged, taken in from a value, and saturated. Assumes nothing.
use Rattle.std.specs.Prelude.{Bool, true, false, Some, None, Option, is_nan}
use Rattle.std.specs.Float.{binary64}
use Rattle.std.specs.Float.Ieee.{add}
use Rattle.std.specs.Option.{option_map}
use Rattle.dtype.specs.declared.ptype.Family.{Family}
use Rattle.dtype.specs.declared.ptype.Family.TheVariants as family
use Rattle.dtype.specs.declared.value.Value.{Value}
use Rattle.dtype.specs.Values.{nat_of, int_of, float_of}
use Rattle.sums.specs.declared.state.SumState.{SumState}
use Rattle.sums.specs.declared.state.SumState.TheVariants.{Unsigned, Signed, Float as Floating}
use Rattle.sums.specs.Sums.{unsigned64, signed64, checked, step}
use Rattle.sums.specs.States.{held, kept}

-- Two states added: integers with a check, floats once. States of two families, which do not meet, give none.
abbrev pub joined : SumState → SumState → Option SumState
joined (Unsigned a) (Unsigned b) = option_map Unsigned (step unsigned64 (Some a) b)
joined (Unsigned a) (Signed b) = None
joined (Unsigned a) (Floating b) = None
joined (Signed a) (Unsigned b) = None
joined (Signed a) (Signed b) = option_map Signed (step signed64 (Some a) b)
joined (Signed a) (Floating b) = None
joined (Floating a) (Unsigned b) = None
joined (Floating a) (Signed b) = None
joined (Floating a) (Floating b) = Some (Floating (kept (add binary64 (held a) (held b))))

-- null with anything is null
abbrev pub merged_states : Option SumState → Option SumState → Option SumState
merged_states None q = None
merged_states (Some a) None = None
merged_states (Some a) (Some b) = joined a b

-- A value as a state of a family. A number that no 64 bits hold, which no value of the program has, gives none, and a
-- float is first brought to the format.
abbrev pub state_as : Family → Value → Option SumState
state_as family.Unsigned x = option_map Unsigned (checked unsigned64 (nat_of x))
state_as family.Signed x = option_map Signed (checked signed64 (int_of x))
state_as family.Float x = Some (Floating (kept (held (kept (float_of x)))))

abbrev pub taken_in : Family → Option Value → Option SumState
taken_in g None = None
taken_in g (Some x) = state_as g x

abbrev pub is_null : {X : Type 0} → Option X → Bool
is_null None = true
is_null (Some x) = false

-- a NaN state no longer changes
abbrev pub nan_state : SumState → Bool
nan_state (Unsigned a) = false
nan_state (Signed a) = false
nan_state (Floating a) = is_nan (held a)

abbrev pub full : Option SumState → Bool
full None = true
full (Some st) = nan_state st
