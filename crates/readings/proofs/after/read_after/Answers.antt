use Rattle.std.proofs.Common.{length, sym, ap, ◌∙◌}
use Rattle.std.specs.List.{slice_get}
use Rattle.accumulators.specs.Boards.{site_answer}
use Rattle.runs.specs.Calls.{ran}
use Rattle.readings.proofs.NewBoardReads.{every_call, answer_allowed}
use Rattle.readings.proofs.after.read_after.Goals as goal

pub returns : goal.returns
returns g c =
    let m = g.V.AggregateFn.model in
    let mean = g.C.Column.meaning in
    let n = length c.args.row.now in
    let page = c.args.page.now in
    let recs = c.args.records.now in
    let z = ap (ran m mean page recs) (sym c.new-board.ensures.exact) ∙ c.run.ensures.exact in
    let lines = sym (ap (λ t. t.page) z) in
    let answer = c.final_scalar.ensures.exact ∙ sym (ap (λ t. site_answer m (slice_get t.row c.args.site)) z) in
    record {
      calls = record {
        answer = answer;
        page = lines;
        records = sym (ap (λ t. t.records) z);
        each = every_call g.row.V.Denot m g.met.V.AggregateFn.lawful mean g.C.Column.proper n c.args.options c.args.dtype page recs;
      };
      reads = answer_allowed g.row.V.Denot m g.met.V.AggregateFn.lawful mean g.C.Column.proper n c.args.options c.args.dtype page recs c.run.new.page c.args.site c.final_scalar.result lines answer;
    }
