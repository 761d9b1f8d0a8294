use Rattle.std.proofs.Common.{refl}
use Rattle.session_table.proofs.Opening.{new_pushed}
use Rattle.session_table.proofs.table.new_slots.Goals as goal

pub loop-place-preserved : goal.loop-place-preserved
loop-place-preserved c =
    let p = new_pushed c.loop-place.slots.items c.push.new.self.items c.loop-place.place _ c.in_ok-push.ensures.items c.loop-place.invariant.count c.loop-place.invariant.new
    (record { number_is = c.new.ensures.number; line_is = refl; is_idle = c.new.ensures.idle; stands_is = c.new.ensures.stands; within = c.new.ensures.within }) in
    record { count = p.0; new = p.1 }
