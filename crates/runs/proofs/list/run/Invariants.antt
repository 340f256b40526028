use Rattle.std.proofs.Common.{◌≡◌, ◌≤◌, length, take, drop}
use Rattle.runs.specs.Calls.{ran, more}
use Rattle.runs.proofs.list.run.Given as goal

abbrev pub invariant-loop-line : goal.invariant-loop-line
invariant-loop-line g l = (l.line-index ≤ length l.page) × (more (take l.line-index l.page) (ran g.V.AggregateFn.model g.C.Column.meaning (drop l.line-index l.page) l.records l.board) ≡ ran g.V.AggregateFn.model g.C.Column.meaning l.initial.page l.initial.records l.initial.board)
