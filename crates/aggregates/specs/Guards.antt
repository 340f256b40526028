-- What the guard of a sum leaves. Assumes nothing.
use Rattle.std.specs.Prelude.{Some, None, Option}
use Rattle.sums.specs.declared.state.SumState.{SumState}
use Rattle.aggregates.specs.declared.guard.Slot.{Slot}

-- the state is put back unless the guard was told of an overflow, which leaves none
abbrev pub put_back : Option SumState → Slot → Slot
put_back None s = s
put_back (Some st) s = record s { partial = record { current = Some st } }
