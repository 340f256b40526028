use Rattle.std.proofs.Common.{◌≡◌, true, ap, arith}
use Rattle.columns.specs.Columns.{valid}
use Rattle.columns.specs.Stretches.{NoneFrom, Found}
use Rattle.column_sums.proofs.Counting.{count_from, count_next, count_none, count_start}
use Rattle.column_sums.proofs.Walks.{fresh_end}
use Rattle.column_sums.proofs.count.count_column.Goals as goal

pub loop-stretch-init : goal.loop-stretch-init
loop-stretch-init g c =
    let m = g.C.Column.meaning c.args.column.now in
    let it = c.into_iter-stretch-iterator.result in
    let same : it ≡ c.new-stretch-items.result = c.into_iter-stretch-iterator.ensures.into_iter_gives in
    let zero : it.from ≡ 0 = cc in
    record {
      can = tt;
      finite = tt;
      same = cc;
      fresh = λ low h t. absurd (omega arith);
      low = omega arith;
      whole = omega (arith, ap (count_from m) zero, count_start m);
    }

pub loop-stretch-preserved : goal.loop-stretch-preserved
loop-stretch-preserved g c =
    let m = g.C.Column.meaning c.args.column.now in
    let good = g.C.Column.proper c.args.column.now in
    let from = c.loop-stretch.stretch-iterator.from in
    let i = c.loop-stretch.invariant in
    let s = c.in-Some.stretch in
    let f : Found (valid m) m.len from s =
    rw (← i.same) c.in-Some.ensures.steps.1.0 in
    let to : c.next.new.self.from ≡ s.end = c.in-Some.ensures.steps.1.1 in
    let late = f.late in
    let less = f.run.some in
    record {
      can = tt;
      finite = tt;
      same = cc;
      fresh = rw to (fresh_end m true good s.start s.end f.run);
      low = omega (arith, i.low);
      whole = omega (arith, count_next m good from s i.fresh f, ap (count_from m) to, i.whole);
    }

pub returns : goal.returns
returns g c =
    let m = g.C.Column.meaning c.args.column.now in
    let good = g.C.Column.proper c.args.column.now in
    let from = c.loop-stretch.stretch-iterator.from in
    let i = c.loop-stretch.invariant in
    let none : NoneFrom (valid m) from m.len =
    rw (← i.same) c.in-None.ensures.steps.1.0 in
    omega (arith, count_none m good from i.fresh none, i.whole)
