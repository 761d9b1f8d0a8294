use Rattle.script_runs.proofs.Worked.{sales_are_shown}
use Rattle.script_runs.proofs.sales_are_shown.Goals as goal

pub returns : goal.returns
returns c = sales_are_shown
