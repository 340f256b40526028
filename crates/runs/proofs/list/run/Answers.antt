use Rattle.std.proofs.Common.{sym, ◌∙◌, arith, length-set}
use Rattle.runs.proofs.Pages.{page_step, page_end}
use Rattle.runs.proofs.Running.{every_call_keeps, sites_keep}
use Rattle.runs.proofs.list.run.Goals as goal

pub loop-line-preserved : goal.loop-line-preserved
loop-line-preserved g c = (
  simp length-set (omega arith),
  page_step g.V.AggregateFn.model g.C.Column.meaning c.loop-line.page c.loop-line.line-index c.line-item.result c.loop-line.records c.loop-line.board _ (omega arith) c.perform-answer.ensures.exact
      ∙ c.loop-line.invariant.1,
)

pub returns : goal.returns
returns g c =
    let m = g.V.AggregateFn.model in
    let laws = g.met.V.AggregateFn.lawful in
    let mean = g.C.Column.meaning in
    let page = c.args.page.now in
    let recs = c.args.records.now in
    let row = c.args.board.now in
    let e = sym c.loop-line.invariant.1 ∙ page_end m mean c.loop-line.page c.loop-line.line-index c.loop-line.records c.loop-line.board (omega arith) in
    record { exact = e; each = every_call_keeps m laws mean g.C.Column.proper page recs row; after = sites_keep m laws mean g.C.Column.proper page recs row _ e }
