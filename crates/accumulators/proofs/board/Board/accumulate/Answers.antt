use Rattle.std.proofs.Common.{rules}
use Rattle.accumulators.proofs.Boarding.{accumulate_keeps}
use Rattle.accumulators.proofs.board.Board.accumulate.Goals as goal

pub returns-clause-keeps : goal.returns-clause-keeps
returns-clause-keeps g c = accumulate_keeps _ g.met.V.AggregateFn.lawful _ _ _ _ _ _ _ (g.C.Column.proper c.args.column.now) (search rules)
