use Rattle.column_sums.proofs.ToldApart.{float_told_apart}
use Rattle.column_sums.proofs.laws.records_are_told_apart.Goals as goal

pub returns-clause-float : goal.returns-clause-float
returns-clause-float c = float_told_apart
