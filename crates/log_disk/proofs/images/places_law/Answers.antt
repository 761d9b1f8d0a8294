use Rattle.log_disk.proofs.Placing.{places, gates}
use Rattle.log_disk.proofs.Breaking.{breaks}
use Rattle.log_disk.proofs.images.places_law.Goals as goal

pub returns-clause-found : goal.returns-clause-found
returns-clause-found c = places

pub returns-clause-gates : goal.returns-clause-gates
returns-clause-gates c = gates

pub returns-clause-breaks : goal.returns-clause-breaks
returns-clause-breaks c = breaks
