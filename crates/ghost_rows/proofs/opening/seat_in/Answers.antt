use Rattle.std.proofs.Common.{sym, ap, ◌∙◌, List, ℕ, IsSome}
use Rattle.iv_types.specs.declared.lock.GroupDelta.{GroupDelta}
use Rattle.txn_machine.specs.Deltas.{place_of}
use Rattle.ghost_rows.specs.Kept.{width}
use Rattle.ghost_rows.specs.State.{stored_at}
use Rattle.ghost_rows.specs.Rows.{row_at}
use Rattle.ghost_rows.proofs.StateLemmas.{some_of, kept_state, copied_there, given_at}
use Rattle.ghost_rows.proofs.SeatLemmas.{gives_kept}
use Rattle.ghost_rows.proofs.opening.seat_in.Goals as goal

pub returns-then-is_some-clause-kept : goal.returns-then-is_some-clause-kept
returns-then-is_some-clause-kept g c = λ pays kept.
    let d : GroupDelta = c.args.delta.now in
    let there : IsSome (row_at c.args.rows.now (place_of d)) =
    copied_there c.get.result _ (c.get.ensures ∙ ap (λ (k : List ℕ). row_at c.args.rows.now (d.view, k)) c.as_slice-group.ensures) (sym c.if-is_some.ensures) in
    let seat = some_of (row_at c.args.rows.now (place_of d)) there in
    let told = given_at c.args.rows.now c.reserve.new.self d c.as_slice-group.result.now c.args.session seat.0 c.as_slice-group.ensures c.reserve.ensures.keeps seat.1 in
    kept_state c.args.rows.now c.reserve.new.self (place_of d) (stored_at (g.M.SortedMaps.maps c.args.maps.now) (place_of d)) (width d) c.args.session seat.0 told.0 pays seat.1 told.1 told.2 kept

pub returns-then-is_some-clause-room : goal.returns-then-is_some-clause-room
returns-then-is_some-clause-room g c =
    let d : GroupDelta = c.args.delta.now in
    let there : IsSome (row_at c.args.rows.now (place_of d)) =
    copied_there c.get.result _ (c.get.ensures ∙ ap (λ (k : List ℕ). row_at c.args.rows.now (d.view, k)) c.as_slice-group.ensures) (sym c.if-is_some.ensures) in
    let seat = some_of (row_at c.args.rows.now (place_of d)) there in
    let told = given_at c.args.rows.now c.reserve.new.self d c.as_slice-group.result.now c.args.session seat.0 c.as_slice-group.ensures c.reserve.ensures.keeps seat.1 in
    gives_kept c.args.session (place_of d) seat.0 told.0 c.args.rows.now c.reserve.new.self seat.1 told.1 told.2
