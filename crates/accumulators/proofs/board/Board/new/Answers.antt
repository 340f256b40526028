use Rattle.std.proofs.Common.{length, rules}
use Rattle.accumulators.proofs.Boarding.{new_board}
use Rattle.accumulators.proofs.board.Board.new.Goals as goal

pub returns-clause-empty : goal.returns-clause-empty
returns-clause-empty g c = new_board _ _ (length c.args.row.now) _ _ _ (search rules)
