use Rattle.script_law.proofs.Cleaning.{clean_law}
use Rattle.script_law.proofs.clean_law.Goals as goal

pub returns : goal.returns
returns c = clean_law
