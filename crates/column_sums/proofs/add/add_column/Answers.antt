use Rattle.std.proofs.Common.{◌≡◌, Some, None, refl, ap, arith, rules}
use Rattle.columns.specs.Columns.{valid}
use Rattle.columns.specs.Stretches.{NoneFrom, Found}
use Rattle.column_sums.specs.ColumnSums.{column_sum, add_from}
use Rattle.column_sums.proofs.Walks.{add_next, add_none, overflow_stays, add_start, fresh_end}
use Rattle.column_sums.proofs.ExactSums.{StateFits, column_total}
use Rattle.column_sums.proofs.add.add_column.Goals as goal

pub loop-stretch-init : goal.loop-stretch-init
loop-stretch-init g c =
    let m = g.C.Column.meaning c.args.column.now in
    let it = c.into_iter-stretch-iterator.result in
    let same : it ≡ c.new-stretch-items.result = c.into_iter-stretch-iterator.ensures.into_iter_gives in
    let zero : it.from ≡ 0 = cc in
    record {
      can = tt;
      finite = tt;
      same = cc;
      fresh = λ low h t. absurd (omega arith);
      whole = ap (λ k. add_from m c.args.skip_nans k (Some c.args.state)) zero;
    }

pub loop-stretch-preserved : goal.loop-stretch-preserved
loop-stretch-preserved g c =
    let m = g.C.Column.meaning c.args.column.now in
    let good = g.C.Column.proper c.args.column.now in
    let skip = c.args.skip_nans in
    let from = c.loop-stretch.stretch-iterator.from in
    let i = c.loop-stretch.invariant in
    let s = c.in-Some.stretch in
    let f : Found (valid m) m.len from s =
    rw (← i.same) c.in-Some.ensures.steps.1.0 in
    let to : c.next.new.self.from ≡ s.end = c.in-Some.ensures.steps.1.1 in
    record {
      can = tt;
      finite = tt;
      same = cc;
      fresh = rw to (fresh_end m skip good s.start s.end f.run);
      whole = rw (to, c.in-Some-add_stretch.ensures, ← add_next m skip good from s c.loop-stretch.total i.fresh f) i.whole;
    }

pub returns-in_default : goal.returns-in_default
returns-in_default g c =
    let m = g.C.Column.meaning c.args.column.now in
    let good = g.C.Column.proper c.args.column.now in
    let skip = c.args.skip_nans in
    let from = c.loop-stretch.stretch-iterator.from in
    let i = c.loop-stretch.invariant in
    let s = c.in-Some.stretch in
    let f : Found (valid m) m.len from s =
    rw (← i.same) c.in-Some.ensures.steps.1.0 in
    let fits : StateFits c.args.state = search rules in
    let e : None ≡ column_sum m skip c.args.state =
    rw (← add_start m skip good c.args.state, ← i.whole, add_next m skip good from s c.loop-stretch.total i.fresh f, ← c.in_default.ensures, overflow_stays m skip good s.end) refl in
    record { steps = e; exact = column_total m skip c.args.state None fits e }

pub returns-in-None : goal.returns-in-None
returns-in-None g c =
    let m = g.C.Column.meaning c.args.column.now in
    let good = g.C.Column.proper c.args.column.now in
    let skip = c.args.skip_nans in
    let from = c.loop-stretch.stretch-iterator.from in
    let i = c.loop-stretch.invariant in
    let none : NoneFrom (valid m) from m.len =
    rw (← i.same) c.in-None.ensures.steps.1.0 in
    let fits : StateFits c.args.state = search rules in
    let e : Some c.loop-stretch.total ≡ column_sum m skip c.args.state =
    let left = add_none m skip good from c.loop-stretch.total i.fresh none in
    let start = add_start m skip good c.args.state in
    cc in
    record { steps = e; exact = column_total m skip c.args.state (Some c.loop-stretch.total) fits e }
