use Rattle.accumulators.proofs.accumulator.Accumulator.read.Goals as goal

pub returns-in-Some : goal.returns-in-Some
returns-in-Some g c = (_, c.question.ensures, rw c.in-Some.is)

pub returns-in-None : goal.returns-in-None
returns-in-None g c = (_, c.question-in-None.ensures, rw c.in-None.is c.empty_partial.ensures)
