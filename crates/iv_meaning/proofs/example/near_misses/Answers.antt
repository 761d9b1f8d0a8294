use Rattle.iv_meaning.proofs.SerialMisses.{near_misses}
use Rattle.iv_meaning.proofs.example.near_misses.Goals as goal

pub returns : goal.returns
returns c = near_misses
