use Rattle.std.proofs.Common.{◌≡◌, ◌+◌, ◌<◌, ◌≤◌}
use Rattle.columns.specs.Columns.{valid}
use Rattle.column_sums.specs.Counts.{column_count}
use Rattle.column_sums.proofs.Counting.{count_from}
use Rattle.column_sums.proofs.Walks.{Fresh}
use Rattle.column_sums.proofs.count.count_column.Given as goal

-- what is counted and what is left give the whole, and no more is counted than was passed
abbrev pub invariant-loop-stretch : goal.invariant-loop-stretch
invariant-loop-stretch g l =
    let m = g.C.Column.meaning l.column in
    let from = l.stretch-iterator.from in
    record {
      can : (goal.iterator-loop-stretch g).can_next l.stretch-iterator;
      finite : (goal.iterator-loop-stretch g).is_finite l.stretch-iterator;
      same : l.stretch-iterator.column.now ≡ l.column;
      fresh : from < m.len → Fresh (valid m) from;
      low : l.total ≤ from;
      whole : l.total + count_from m from ≡ column_count m;
    }
