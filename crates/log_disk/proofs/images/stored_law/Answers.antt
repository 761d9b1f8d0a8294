use Rattle.log_disk.proofs.Storing.{are_stored}
use Rattle.log_disk.proofs.images.stored_law.Goals as goal

pub returns : goal.returns
returns c = are_stored
