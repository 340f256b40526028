use Rattle.std.proofs.Common.{rules}
use Rattle.accumulators.proofs.Boarding.{clear_keeps}
use Rattle.accumulators.proofs.board.Board.reset.Goals as goal

pub returns-clause-keeps : goal.returns-clause-keeps
returns-clause-keeps g c = clear_keeps _ g.met.V.AggregateFn.lawful _ (λ a. tt) _ _ _ (search rules) (search rules)
