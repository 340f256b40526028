use Rattle.std.proofs.Common.{rules, arith}
use Rattle.std.proofs.lemmas.Grind.{common_steps}
use Rattle.accumulators.proofs.Boarding.{answer_read}
use Rattle.accumulators.proofs.Lookups.{set_there}
use Rattle.accumulators.proofs.board.Board.final_scalar.Goals as goal

pub returns-clause-same : goal.returns-clause-same
returns-clause-same g c = grind (arith, common_steps, set_there)

pub returns-clause-reads : goal.returns-clause-reads
returns-clause-reads g c = answer_read _ g.met.V.AggregateFn.lawful _ _ _ (search rules)
