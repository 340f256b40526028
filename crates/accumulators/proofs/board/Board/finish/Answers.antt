use Rattle.std.proofs.Common.{rules}
use Rattle.accumulators.specs.Accumulators.{answer_now}
use Rattle.accumulators.proofs.Boarding.{clear_keeps, answer_read}
use Rattle.accumulators.proofs.board.Board.finish.Goals as goal

pub returns-clause-reads : goal.returns-clause-reads
returns-clause-reads g c = answer_read _ g.met.V.AggregateFn.lawful _ _ _ (search rules)

pub returns-clause-keeps : goal.returns-clause-keeps
returns-clause-keeps g c = clear_keeps _ g.met.V.AggregateFn.lawful _ (answer_now g.V.AggregateFn.model) _ _ _ (search rules) (search rules)
