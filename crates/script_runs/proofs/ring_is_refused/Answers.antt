use Rattle.script_runs.proofs.Worked.{ring_is_refused}
use Rattle.script_runs.proofs.ring_is_refused.Goals as goal

pub returns : goal.returns
returns c = ring_is_refused
