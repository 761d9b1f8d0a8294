use Rattle.std.specs.Prelude.{◌≡◌, ◌+◌, ◌-◌, ◌≤◌, ◌<◌, ℕ, Bool, List, Some, length, slice_get, slice_index_or}
use mathlib.Core.Path.{subst}
use Rattle.std.proofs.Common.{arith}
use Rattle.std.proofs.Math.ListN.{length-set}
use Rattle.session_table.specs.declared.slot.Slot.{Slot}
use Rattle.std.proofs.lemmas.Option.{slice_get-get_or}
use Rattle.txn_machine.specs.State.{State}
use Rattle.txn_machine.specs.Alone.{Story}
use Rattle.session_table.specs.Going.{StandsIn}
use Rattle.session_table.specs.Slots.{AreSlots, AllGo}
use Rattle.session_table.specs.Trying.{NoneWaits, Passed}
use Rattle.session_table.proofs.Seating.{pass_over_all, slot_needs, seats_kept, try_needs, pass_done, pass_none}
use Rattle.session_table.proofs.Losing.{lost_so, slot_lost, more_lost}
use Rattle.session_table.proofs.trying.+pass_from.Goals as goal

-- what is known from the first that waits on is known from the place on
from_place : (St0 St1 : State → Type 0) (place at : ℕ) (slots slots'' : List Slot) → AreSlots slots → (out out'' : List ℕ) (more : Bool) → place ≤ at → at ≤ length slots → NoneWaits place (at - place) slots
    → ((s : Story) → St0 s.state → AllGo slots s → StandsIn St1 (Passed at s slots out more slots'' out''))
    → (s : Story) → St0 s.state → AllGo slots s → StandsIn St1 (Passed place s slots out more slots'' out'')
from_place St0 St1 place at slots slots'' are out out'' more from inside none passed =
    let whole : at ≡ place + (at - place) = omega arith in
    pass_over_all St0 St1 (at - place) place slots slots'' are out out'' more (omega arith) none
    (λ s st go. subst (λ (n : ℕ). StandsIn St1 (Passed n s slots out more slots'' out'')) whole (passed s st go))

pub returns-then-at-slots-clause-passed : goal.returns-then-at-slots-clause-passed
returns-then-at-slots-clause-passed g t c =
    let past : length c.args.slots.now ≤ c.next_waiting-at.result = omega arith in
    from_place (g.S.Stepper.stands c.args.engine.now) _ c.args.place c.next_waiting-at.result c.args.slots.now _ c.requires.slots c.args.text.now.items _ _ c.next_waiting-at.ensures.from c.next_waiting-at.ensures.inside c.next_waiting-at.ensures.none
    (pass_none (g.S.Stepper.stands c.args.engine.now) c.next_waiting-at.result c.args.slots.now c.args.text.now.items past)

pub try_slot-requires-clause-fits : goal.try_slot-requires-clause-fits
try_slot-requires-clause-fits g t c =
    let lt : c.next_waiting-at.result < length c.args.slots.now = omega arith in
    let slot = slice_index_or c.args.slots.now c.next_waiting-at.result c.index-slots-at.result in
    let at : slice_get c.args.slots.now c.next_waiting-at.result ≡ Some slot = slice_get-get_or c.args.slots.now c.next_waiting-at.result c.index-slots-at.result lt in
    (c.requires.slots c.next_waiting-at.result slot at).fits

pub try_slot-requires-clause-engine : goal.try_slot-requires-clause-engine
try_slot-requires-clause-engine g t c =
    let lt : c.next_waiting-at.result < length c.args.slots.now = omega arith in
    let slot = slice_index_or c.args.slots.now c.next_waiting-at.result c.index-slots-at.result in
    let at : slice_get c.args.slots.now c.next_waiting-at.result ≡ Some slot = slice_get-get_or c.args.slots.now c.next_waiting-at.result c.index-slots-at.result lt in
    slot_needs c.next_waiting-at.result c.args.slots.now slot at c.requires.engine

pub returns-in_err-first-clause-lost : goal.returns-in_err-first-clause-lost
returns-in_err-first-clause-lost g t c =
    let lt : c.next_waiting-at.result < length c.args.slots.now = omega arith in
    let slot = slice_index_or c.args.slots.now c.next_waiting-at.result c.index-slots-at.result in
    let at : slice_get c.args.slots.now c.next_waiting-at.result ≡ Some slot = slice_get-get_or c.args.slots.now c.next_waiting-at.result c.index-slots-at.result lt in
    lost_so c.from_residual.result (slot_lost (g.S.Stepper.stands c.args.engine.now) c.next_waiting-at.result c.args.slots.now slot at c.in_err-first.ensures.lost)

pub returns-in_err-first-clause-slots : goal.returns-in_err-first-clause-slots
returns-in_err-first-clause-slots g t c =
    let lt : c.next_waiting-at.result < length c.args.slots.now = omega arith in
    let slot = slice_index_or c.args.slots.now c.next_waiting-at.result c.index-slots-at.result in
    let at : slice_get c.args.slots.now c.next_waiting-at.result ≡ Some slot = slice_get-get_or c.args.slots.now c.next_waiting-at.result c.index-slots-at.result lt in
    seats_kept c.next_waiting-at.result c.args.slots.now slot c.try_slot.new.slot at c.requires.slots c.try_slot.ensures.number c.try_slot.ensures.fits

pub pass_from-requires : goal.pass_from-requires
pass_from-requires g t c κs within =
    let lt : c.next_waiting-at.result < length c.args.slots.now = omega arith in
    let slot = slice_index_or c.args.slots.now c.next_waiting-at.result c.index-slots-at.result in
    let at : slice_get c.args.slots.now c.next_waiting-at.result ≡ Some slot = slice_get-get_or c.args.slots.now c.next_waiting-at.result c.index-slots-at.result lt in (
      omega (arith, length-set {A = Slot}),
      (
        within,
        (
          omega (arith, length-set {A = Slot}),
          (
            seats_kept c.next_waiting-at.result c.args.slots.now slot c.try_slot.new.slot at c.requires.slots c.try_slot.ensures.number c.try_slot.ensures.fits,
            try_needs c.next_waiting-at.result c.args.slots.now slot c.try_slot.new.slot at c.requires.slots c.args.text.now.items c.try_slot.new.text.items c.in_ok-first.first c.requires.engine c.in_ok-first.ensures.tried,
          ),
        ),
      ),
    )

pub returns-in_err-more-clause-lost : goal.returns-in_err-more-clause-lost
returns-in_err-more-clause-lost g t c =
    let lt : c.next_waiting-at.result < length c.args.slots.now = omega arith in
    let slot = slice_index_or c.args.slots.now c.next_waiting-at.result c.index-slots-at.result in
    let at : slice_get c.args.slots.now c.next_waiting-at.result ≡ Some slot = slice_get-get_or c.args.slots.now c.next_waiting-at.result c.index-slots-at.result lt in
    lost_so c.from_residual-in_err-more.result (more_lost (g.S.Stepper.stands c.args.engine.now) c.next_waiting-at.result c.args.slots.now slot c.try_slot.new.slot at c.requires.slots c.args.text.now.items c.try_slot.new.text.items c.in_ok-first.first c.in_ok-first.ensures.tried c.in_err-more.ensures.lost)

pub returns-clause-passed : goal.returns-clause-passed
returns-clause-passed g t c =
    let lt : c.next_waiting-at.result < length c.args.slots.now = omega arith in
    let slot = slice_index_or c.args.slots.now c.next_waiting-at.result c.index-slots-at.result in
    let at : slice_get c.args.slots.now c.next_waiting-at.result ≡ Some slot = slice_get-get_or c.args.slots.now c.next_waiting-at.result c.index-slots-at.result lt in
    from_place (g.S.Stepper.stands c.args.engine.now) _ c.args.place c.next_waiting-at.result c.args.slots.now _ c.requires.slots c.args.text.now.items _ _ c.next_waiting-at.ensures.from c.next_waiting-at.ensures.inside c.next_waiting-at.ensures.none
    (pass_done c.next_waiting-at.result c.args.slots.now slot c.try_slot.new.slot at c.requires.slots c.args.text.now.items c.try_slot.new.text.items c.in_ok-first.first (g.S.Stepper.stands c.args.engine.now) c.pass_from.new.slots c.pass_from.new.text.items c.in_ok-more.more lt c.in_ok-first.ensures.tried c.in_ok-more.ensures.passed)
