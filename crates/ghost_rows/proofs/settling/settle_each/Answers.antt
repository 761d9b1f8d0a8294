use Rattle.ghost_rows.proofs.SeatLemmas.{settling_more}
use Rattle.ghost_rows.proofs.settling.settle_each.Goals as goal

pub loop-seat-preserved : goal.loop-seat-preserved
loop-seat-preserved c =
    settling_more c.args.session c.args.seats c.loop-seat.left c.pop.new.self c.in-Some.seat c.args.rows.now c.loop-seat.rows c.settle_seat.new.rows c.args.candidates.now c.loop-seat.candidates c.settle_seat.new.candidates
    c.in-Some.ensures.rest c.loop-seat.invariant c.settle_seat.ensures.here c.settle_seat.ensures.others c.settle_seat.ensures.candidates
