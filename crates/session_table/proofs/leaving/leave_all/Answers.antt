use Rattle.std.specs.Prelude.{◌≡◌, Some, length, slice_get}
use Rattle.std.proofs.Common.{refl, arith}
use Rattle.std.proofs.lemmas.Option.{slice_get_read}
use Rattle.session_table.proofs.Ending.{left_none, left_needs, left_more, left_all}
use Rattle.session_table.proofs.leaving.leave_all.Goals as goal

pub loop-slot-init : goal.loop-slot-init
loop-slot-init g c = left_none (g.S.Stepper.stands c.args.engine.now) c.args.slots.now

pub leave_slot-requires-clause-session : goal.leave_slot-requires-clause-session
leave_slot-requires-clause-session g c =
    let at : slice_get c.args.slots.now c.loop-slot.slot-index ≡ Some c.slot-item.result = slice_get_read c.args.slots.now (length c.args.slots.now) c.loop-slot.slot-index c.slot-item.result refl c.loop-slot-test.true c.slot-item.is in
    let n = (c.requires.slots c.loop-slot.slot-index c.slot-item.result at).number_is in
    (omega (arith, n), omega (arith, n, c.requires.count, c.loop-slot-test.true))

pub leave_slot-requires-clause-fits : goal.leave_slot-requires-clause-fits
leave_slot-requires-clause-fits g c =
    let at : slice_get c.args.slots.now c.loop-slot.slot-index ≡ Some c.slot-item.result = slice_get_read c.args.slots.now (length c.args.slots.now) c.loop-slot.slot-index c.slot-item.result refl c.loop-slot-test.true c.slot-item.is in
    (c.requires.slots c.loop-slot.slot-index c.slot-item.result at).fits

pub leave_slot-requires-clause-engine : goal.leave_slot-requires-clause-engine
leave_slot-requires-clause-engine g c = left_needs (g.S.Stepper.stands c.args.engine.now) c.args.slots.now c.loop-slot.slot-index c.requires.engine c.loop-slot.invariant

pub loop-slot-preserved : goal.loop-slot-preserved
loop-slot-preserved g c =
    let at : slice_get c.args.slots.now c.loop-slot.slot-index ≡ Some c.slot-item.result = slice_get_read c.args.slots.now (length c.args.slots.now) c.loop-slot.slot-index c.slot-item.result refl c.loop-slot-test.true c.slot-item.is in
    left_more (g.S.Stepper.stands c.args.engine.now) c.args.slots.now c.loop-slot.slot-index c.slot-item.result c.loop-slot-test.true at c.requires.slots c.loop-slot.invariant c.leave_slot.ensures

pub returns : goal.returns
returns g c = left_all (g.S.Stepper.stands c.args.engine.now) c.args.slots.now c.loop-slot.slot-index c.requires.count c.loop-slot-test.false c.loop-slot.invariant
