use Rattle.saved_pages.proofs.Bearing.{bears}
use Rattle.saved_pages.proofs.laws.bears_law.Goals as goal

pub returns : goal.returns
returns c = bears
