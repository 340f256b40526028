use Rattle.std.proofs.Common.{◌≡◌, ◌<◌, Some}
use Rattle.columns.specs.Columns.{valid}
use Rattle.column_sums.specs.ColumnSums.{add_from}
use Rattle.column_sums.proofs.Walks.{Fresh}
use Rattle.column_sums.proofs.add.add_column.Given as goal

-- what is left gives what the whole gives
abbrev pub invariant-loop-stretch : goal.invariant-loop-stretch
invariant-loop-stretch g l =
    let m = g.C.Column.meaning l.column in
    let from = l.stretch-iterator.from in
    record {
      can : (goal.iterator-loop-stretch g).can_next l.stretch-iterator;
      finite : (goal.iterator-loop-stretch g).is_finite l.stretch-iterator;
      same : l.stretch-iterator.column.now ≡ l.column;
      fresh : from < m.len → Fresh (valid m) from;
      whole : add_from m l.skip_nans from (Some l.total) ≡ add_from m l.skip_nans 0 (Some l.fn.state);
    }
