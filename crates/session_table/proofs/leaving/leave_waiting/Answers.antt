use Rattle.session_table.proofs.Ending.{cancel_reaches, then_ended}
use Rattle.session_table.proofs.leaving.leave_waiting.Goals as goal

pub end_open-requires-clause-engine : goal.end_open-requires-clause-engine
end_open-requires-clause-engine g c = cancel_reaches c.args.session c.requires.engine c.cancel.ensures

pub returns : goal.returns
returns g c = then_ended (g.S.Stepper.stands c.args.engine.now) c.args.session c.cancel.ensures c.end_open.ensures
