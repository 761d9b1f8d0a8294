use Rattle.log_disk.proofs.Lying.{records_lie}
use Rattle.log_disk.proofs.images.records_lie_law.Goals as goal

pub returns : goal.returns
returns c = records_lie
