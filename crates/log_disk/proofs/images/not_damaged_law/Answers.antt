use Rattle.log_disk.proofs.Sound.{not_damaged}
use Rattle.log_disk.proofs.images.not_damaged_law.Goals as goal

pub returns : goal.returns
returns c = not_damaged
