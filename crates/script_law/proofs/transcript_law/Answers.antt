use Rattle.script_law.proofs.Running.{transcript_law}
use Rattle.script_law.proofs.transcript_law.Goals as goal

pub returns : goal.returns
returns g c = λ programs tell. transcript_law g.E.Engine.view g.E.Engine.does g.E.Engine.stands g.E.Engine.halts programs tell
