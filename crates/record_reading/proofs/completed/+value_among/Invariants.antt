use Rattle.std.proofs.Common.{length}
use Rattle.record_reading.proofs.completed.+value_among.Given as goal

abbrev pub decreases-value_among : goal.decreases-value_among
decreases-value_among l = length l.places.now
