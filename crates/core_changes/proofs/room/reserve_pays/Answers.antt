use Rattle.std.proofs.Common.{sym, subst, arith, rules, take_all}
use Rattle.std.specs.List.{Contains}
use Rattle.iv_types.specs.declared.lock.GroupDelta.{GroupDelta}
use Rattle.ghost_rows.specs.State.{HasSeat}
use Rattle.txn_machine.specs.Deltas.{place_of}
use Rattle.core_changes.proofs.Walked.{item_in, each_next}
use Rattle.core_changes.proofs.room.reserve_pays.Goals as goal

pub reserve_one-requires-clause-held : goal.reserve_one-requires-clause-held
reserve_one-requires-clause-held g c κs within =
    let h = c.requires.held in
    (h.0, h.1, h.2, c.loop-delta.invariant.holds h.0 h.1 h.2 h.4 h.3, h.4 c.delta-item.result (item_in c.args.owed.now c.loop-delta.delta-index c.delta-item.result c.loop-delta-test.true c.delta-item.is))

pub returns-in_err-reserve_one-clause-holds : goal.returns-in_err-reserve_one-clause-holds
returns-in_err-reserve_one-clause-holds g c = λ s l texts are h.
    c.reserve_one.ensures.holds s l texts (are c.delta-item.result (item_in c.args.owed.now c.loop-delta.delta-index c.delta-item.result c.loop-delta-test.true c.delta-item.is)) (c.loop-delta.invariant.holds s l texts are h)

pub loop-delta-preserved : goal.loop-delta-preserved
loop-delta-preserved g c = record {
  seats = each_next c.args.owed.now c.loop-delta.delta-index c.delta-item.result c.loop-delta-test.true c.delta-item.is (λ (d : GroupDelta). HasSeat c.reserve_one.new.core.store.views (place_of d) c.args.session)
      (λ d has. c.reserve_one.ensures.seats c.args.session (place_of d) (c.loop-delta.invariant.seats d has)) c.in_ok-reserve_one.ensures.seat;
  room = λ some. c.in_ok-reserve_one.ensures.room;
  rooms = λ j. let one = c.loop-delta.invariant.rooms j in let two = c.reserve_one.ensures.rooms j in omega (arith, one, two);
  holds = λ s l texts are h.
      c.reserve_one.ensures.holds s l texts (are c.delta-item.result (item_in c.args.owed.now c.loop-delta.delta-index c.delta-item.result c.loop-delta-test.true c.delta-item.is)) (c.loop-delta.invariant.holds s l texts are h);
  rest = search rules;
}

pub returns-clause-seats : goal.returns-clause-seats
returns-clause-seats g c = λ d has. c.loop-delta.invariant.seats d (subst (λ xs. Contains xs d) (sym (take_all c.loop-delta.delta-index c.args.owed.now c.loop-delta-test.false)) has)
