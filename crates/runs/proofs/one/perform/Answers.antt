use Rattle.runs.proofs.Running.{call_keeps}
use Rattle.runs.proofs.one.perform.Goals as goal

pub returns-clause-keeps : goal.returns-clause-keeps
returns-clause-keeps g c = call_keeps g.V.AggregateFn.model g.met.V.AggregateFn.lawful g.C.Column.meaning g.C.Column.proper c.args.call.now c.args.records.now c.args.board.now _ c.call_board.ensures
