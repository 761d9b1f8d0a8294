use Rattle.data_room.proofs.Used as laws
use Rattle.data_room.proofs.law.used_law.Goals as goal

pub returns : goal.returns
returns c = laws.used_is
