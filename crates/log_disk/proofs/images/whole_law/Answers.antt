use Rattle.log_disk.proofs.Whole.{whole}
use Rattle.log_disk.proofs.images.whole_law.Goals as goal

pub returns : goal.returns
returns c = whole
