use Rattle.spare_map.proofs.Maps.{nothing}
use Rattle.spare_map.proofs.map.SpareMap.new.Goals as goal

pub returns-clause-entries : goal.returns-clause-entries
returns-clause-entries g c = nothing
