use Rattle.std.proofs.Common.{length}
use Rattle.group_replay.proofs.numbers.+stay_in_range.Given as goal

abbrev pub decreases-stay_in_range : goal.decreases-stay_in_range
decreases-stay_in_range l = length l.stored.now
