use Rattle.log_disk.proofs.Laying.{placed_there}
use Rattle.log_disk.proofs.WorkedPlaces.{worked_are_placed}
use Rattle.log_disk.proofs.images.placed_there_law.Goals as goal

pub returns-clause-there : goal.returns-clause-there
returns-clause-there c = placed_there

pub returns-clause-worked : goal.returns-clause-worked
returns-clause-worked c = worked_are_placed
