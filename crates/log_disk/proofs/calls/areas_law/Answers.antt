use Rattle.log_disk.proofs.Areas.{areas}
use Rattle.log_disk.proofs.calls.areas_law.Goals as goal

pub returns : goal.returns
returns c = areas
