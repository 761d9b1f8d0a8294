use Rattle.script_runs.proofs.MissedRetries.{not_tried_again}
use Rattle.script_runs.proofs.not_tried_again.Goals as goal

pub returns : goal.returns
returns c = not_tried_again
