use Rattle.log_disk.proofs.Tying.{placed_image}
use Rattle.log_disk.proofs.images.placed_law.Goals as goal

pub returns : goal.returns
returns c = placed_image
