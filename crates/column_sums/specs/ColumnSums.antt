-- The sum of a column. Assumes nothing.
use Rattle.std.specs.Prelude.{ℕ, zero, suc, ◌-◌, Bool, true, false, Some, Option}
use Rattle.dtype.specs.declared.ptype.Family.{Family}
use Rattle.dtype.specs.Types.{family_of, narrow}
use Rattle.sums.specs.declared.state.SumState.{SumState}
use Rattle.columns.specs.States.{add_stretches, onto}
use Rattle.columns.specs.Columns.{Meaning, whole_sum, stretches_from}

-- The family, the width and the constant flag are matched on, so that a constant of any length never unrolls.
abbrev pub column_sum_by : Family → Bool → Bool → Meaning → Bool → SumState → Option SumState
column_sum_by g small true c skip st = whole_sum g skip (c.entry 0) c.len st
column_sum_by g small false c skip st = add_stretches g small skip (stretches_from c.entry 0 c.len) (Some st)

-- the column added to a state: a constant as one step, another stretch by stretch; none after an overflow
abbrev pub column_sum : Meaning → Bool → SumState → Option SumState
column_sum c skip st = column_sum_by (family_of c.dtype.ptype) (narrow c.dtype.ptype) c.constant c skip st

-- what a loop over the stretches has still to add from an entry on
abbrev pub add_from_by : Bool → Meaning → Bool → ℕ → Option SumState → Option SumState
add_from_by true c skip zero o = onto (whole_sum (family_of c.dtype.ptype) skip (c.entry 0) c.len) o
add_from_by true c skip (suc i) o = o
add_from_by false c skip from o =
    add_stretches (family_of c.dtype.ptype) (narrow c.dtype.ptype) skip (stretches_from c.entry from (c.len - from)) o

abbrev pub add_from : Meaning → Bool → ℕ → Option SumState → Option SumState
add_from c skip from o = add_from_by c.constant c skip from o
