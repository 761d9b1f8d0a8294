use Rattle.std.proofs.Common.{◌<◌, ◌≤◌, sym, ap, ◌∙◌, arith}
use Rattle.std.specs.Option.{option_map}
use Rattle.txn_machine.specs.State as machine
use Rattle.txn_book.specs.Acts.{last_refusal}
use Rattle.core_state.specs.declared.seat.Seat.{Seat}
use Rattle.engine_core.proofs.Seats.{none_told}
use Rattle.engine_core.proofs.engine.refused_in.Goals as goal

pub returns-then-session-ge-SEATS : goal.returns-then-session-ge-SEATS
returns-then-session-ge-SEATS g c = λ s h.
    let many : 64 < c.args.session = omega (arith, c.if-session-ge-SEATS.true) in
    sym (none_told s h.reached c.args.session many)

pub returns : goal.returns
returns g c = λ s h.
    let few : c.args.session ≤ 64 = omega (arith, c.if-session-ge-SEATS.false) in
    ap (λ (x : Seat). option_map last_refusal x.refused) c.get.ensures ∙ ap (λ (x : machine.Seat). x.refused) (h.counts.seats c.args.session few)
