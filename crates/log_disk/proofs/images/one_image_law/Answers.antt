use Rattle.log_disk.proofs.Borne.{one_image}
use Rattle.log_disk.proofs.images.one_image_law.Goals as goal

pub returns : goal.returns
returns c = one_image
