use Rattle.script_law.proofs.Leaving.{end_law}
use Rattle.script_law.proofs.end_law.Goals as goal

pub returns : goal.returns
returns g c = λ programs tell. end_law g.E.Engine.view g.E.Engine.does g.E.Engine.stands g.E.Engine.halts programs tell
