use Rattle.std.proofs.Common.{length}
use Rattle.ghost_rows.proofs.SeatLemmas.{AreSettling}
use Rattle.ghost_rows.proofs.settling.settle_each.Given as goal

abbrev pub invariant-loop-seat : goal.invariant-loop-seat
invariant-loop-seat l = AreSettling l.session l.initial.left l.left l.initial.rows l.rows l.initial.candidates l.candidates

abbrev pub decreases-loop-seat : goal.decreases-loop-seat
decreases-loop-seat l = length l.left
