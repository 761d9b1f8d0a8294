use Rattle.script_runs.proofs.MissedCleaning.{cleaned_of_none}
use Rattle.script_runs.proofs.cleaned_of_none.Goals as goal

pub returns : goal.returns
returns c = cleaned_of_none
