use Rattle.script_runs.proofs.MissedCleaning.{cleaned_twice}
use Rattle.script_runs.proofs.cleaned_twice.Goals as goal

pub returns : goal.returns
returns c = cleaned_twice
