use Rattle.log_disk.proofs.Living.{header_lives}
use Rattle.log_disk.proofs.images.live_law.Goals as goal

pub returns : goal.returns
returns c = header_lives
