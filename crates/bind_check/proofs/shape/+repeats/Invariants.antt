use Rattle.std.proofs.Common.{length}
use Rattle.bind_check.proofs.shape.+repeats.Given as goal

abbrev pub decreases-repeats : goal.decreases-repeats
decreases-repeats g l = length l.items.now
