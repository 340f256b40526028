use Rattle.std.proofs.Common.{rules}
use Rattle.accumulators.specs.Accumulators.{scalar_now}
use Rattle.accumulators.proofs.Boarding.{clear_keeps, scalar_read}
use Rattle.accumulators.proofs.board.Board.flush.Goals as goal

pub returns-clause-reads : goal.returns-clause-reads
returns-clause-reads g c = scalar_read _ g.met.V.AggregateFn.lawful _ _ _ (search rules)

pub returns-clause-keeps : goal.returns-clause-keeps
returns-clause-keeps g c = clear_keeps _ g.met.V.AggregateFn.lawful _ (scalar_now g.V.AggregateFn.model) _ _ _ (search rules) (search rules)
