use Rattle.script_runs.proofs.Missed.{two_steps_at_once}
use Rattle.script_runs.proofs.two_steps_at_once.Goals as goal

pub returns : goal.returns
returns c = two_steps_at_once
