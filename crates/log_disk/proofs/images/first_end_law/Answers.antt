use Rattle.log_disk.proofs.Living.{first_ends}
use Rattle.log_disk.proofs.images.first_end_law.Goals as goal

pub returns : goal.returns
returns c = first_ends
