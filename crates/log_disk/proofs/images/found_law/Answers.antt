use Rattle.log_disk.proofs.Finding.{all_are_found}
use Rattle.log_disk.proofs.images.found_law.Goals as goal

pub returns : goal.returns
returns c = all_are_found
