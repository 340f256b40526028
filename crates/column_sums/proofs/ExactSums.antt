-- What a column's sum says of its exact total, by the family. Assumes nothing.
use Rattle.std.proofs.Common.{◌≡◌, ◌+◌, ◌^◌, ◌<◌, Bool, true, is_some, Option, sym, ap, ◌∙◌, subst}
use Rattle.dtype.specs.declared.ptype.Family.{Family}
use Rattle.dtype.specs.declared.ptype.Family.TheVariants as family
use Rattle.dtype.specs.Types.{family_of, narrow}
use Rattle.sums.specs.declared.state.SumState.{SumState}
use Rattle.sums.specs.declared.state.SumState.TheVariants.{Unsigned, Signed, Float as Floating}
use Rattle.sums.specs.Sums.{unsigned64, signed64, checked, above, below}
use Rattle.sums.proofs.SignedTotals.{within, out_total}
use Rattle.sums.proofs.UnsignedTotals.{checked_total}
use Rattle.columns.specs.States.{onto}
use Rattle.columns.specs.Columns.{Meaning}
use Rattle.column_sums.specs.ColumnSums.{column_sum, column_sum_by}
use Rattle.column_sums.specs.ColumnTotals.{TotalBy, ColumnTotal}
use Rattle.column_sums.specs.Lots.{column_lots, nat_total}
use Rattle.column_sums.proofs.UnsignedColumns.{capped_within, column_adds_unsigned}
use Rattle.column_sums.proofs.SignedColumns.{column_adds_signed}
use Rattle.column_sums.proofs.FloatColumns.{column_adds_floats}

-- the number of an integer state fits 64 bits
abbrev pub StateFits : SumState → Type 0
StateFits (Unsigned a) = a < 2 ^ 64
StateFits (Signed a) = signed64.fits a ≡ true
StateFits (Floating a) = Unit {0}

total_by : (g : Family) (small skip : Bool) (c : Meaning) (st : SumState) → StateFits st → TotalBy g c st (column_sum_by g small c.constant c skip st)
total_by family.Unsigned small skip c (Unsigned a) f = (
  checked unsigned64 (a + nat_total (column_lots c)),
  ap (onto (column_sum_by family.Unsigned small c.constant c skip)) (sym (capped_within a f)) ∙ column_adds_unsigned small c.constant skip c a,
  checked_total (a + nat_total (column_lots c)),
)
total_by family.Unsigned small skip c (Signed a) f = tt
total_by family.Unsigned small skip c (Floating a) f = tt
total_by family.Signed small skip c (Unsigned a) f = tt
total_by family.Signed small skip c (Signed a) f =
    let r = column_adds_signed small c.constant skip c (above a) (below a) a a (within a f) in
    (r.now, r.is, out_total _ _ _ r.now r.inside.out)
total_by family.Signed small skip c (Floating a) f = tt
total_by family.Float small skip c (Unsigned a) f = tt
total_by family.Float small skip c (Signed a) f = tt
total_by family.Float small skip c (Floating a) f = ap is_some (column_adds_floats small c.constant skip c a).1

-- what the contract says of the answer
pub column_total : (c : Meaning) (skip : Bool) (st : SumState) (r : Option SumState) → StateFits st → r ≡ column_sum c skip st → ColumnTotal c st r
column_total c skip st r f e = subst (ColumnTotal c st) (sym e) (total_by (family_of c.dtype.ptype) (narrow c.dtype.ptype) skip c st f)
