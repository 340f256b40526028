use Rattle.std.proofs.Common.{◌≡◌, length}
use Rattle.dtype.specs.Types.{family_of}
use Rattle.readings.specs.NewBoards.{sheet_after}
use Rattle.readings.proofs.SiteReading.{site_reads_more}
use Rattle.readings.proofs.totals.total_after.Goals as goal

pub returns-clause-totals : goal.returns-clause-totals
returns-clause-totals g c h =
    let m = g.V.AggregateFn.model in
    let reads = g.V.PlainTotals.reads (family_of c.args.dtype.ptype) in
    let s = sheet_after g.C.Column.meaning (length c.args.row.now) c.args.dtype c.read_after.new.page c.args.site in
    site_reads_more (λ t x. (p : _) × m.allowed c.args.options c.args.dtype t p × (x ≡ m.final c.args.options c.args.dtype p)) reads (length c.args.row.now) c.args.site s c.read_after.result
    (λ x y. rw y.2 (g.met.V.PlainTotals.totals c.args.options c.args.dtype s y.0 y.1)) (c.read_after.ensures.reads h)
