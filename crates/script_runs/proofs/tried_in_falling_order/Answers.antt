use Rattle.script_runs.proofs.MissedRetries.{tried_in_falling_order}
use Rattle.script_runs.proofs.tried_in_falling_order.Goals as goal

pub returns : goal.returns
returns c = tried_in_falling_order
