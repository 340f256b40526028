use Rattle.std.proofs.Common.{rules}
use Rattle.accumulators.proofs.Boarding.{combine_keeps}
use Rattle.accumulators.proofs.board.Board.combine_partials.Goals as goal

pub returns-clause-keeps : goal.returns-clause-keeps
returns-clause-keeps g c = combine_keeps _ g.met.V.AggregateFn.lawful _ _ _ _ _ (search rules)
