use Rattle.std.proofs.Common.{rules}
use Rattle.accumulators.proofs.Boarding.{merge_keeps}
use Rattle.accumulators.proofs.board.Board.merge.Goals as goal

pub returns-clause-keeps : goal.returns-clause-keeps
returns-clause-keeps g c = merge_keeps _ g.met.V.AggregateFn.lawful _ _ _ _ _ (search rules)
