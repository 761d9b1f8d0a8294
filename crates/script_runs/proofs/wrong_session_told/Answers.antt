use Rattle.script_runs.proofs.MissedTelling.{wrong_session_told}
use Rattle.script_runs.proofs.wrong_session_told.Goals as goal

pub returns : goal.returns
returns c = wrong_session_told
