use Rattle.std.proofs.Common.{rules, length, ◌<◌, FitsSigned, ◌≡◌, sym, ap, subst, ◌∙◌}
use Rattle.std.proofs.lemmas.Int.{to_z-of_z}
use Rattle.std.specs.Int.{w128}
use Rattle.std.specs.FinMap.{get}
use Rattle.iv_types.specs.declared.lock.GroupDelta.{GroupDelta}
use Rattle.txn_machine.specs.Deltas.{place_of}
use Rattle.ghost_rows.specs.Rows.{OpenRows, row_at, AreOpen, AreSeated}
use Rattle.table_laws.proofs.SetPlaces.{set_length}
use Rattle.ghost_rows.proofs.SeatLemmas.{still_open, still_seated}
use Rattle.ghost_rows.proofs.ListedLemmas.{moved_listed}
use Rattle.ghost_rows.specs.State.{State, stored_at}
use Rattle.ghost_rows.proofs.StateLemmas.{some_of, some_there, row_of, paid_can, paid_state, paid_stores, copied_some, told_at, refusal_at, refusal_as}
use Rattle.ghost_rows.proofs.view_rows.ViewRows.pay.Goals as goal

pub store_moved-requires-clause-stored : goal.store_moved-requires-clause-stored
store_moved-requires-clause-stored g c κs within =
    let d : GroupDelta = c.args.delta.now in
    let maps = g.M.SortedMaps.maps c.args.maps.now in
    let rows : c.self.inside.rows ≡ c.args.self.now.rows = ap (λ (s : State). s.rows) c.self.view_is in
    let seat = some_of (row_at c.args.self.now.rows (place_of d)) c.requires.ready.seat.1 in
    let told = told_at c.self.inside.rows c.args.self.now.rows c.pay.new.self d c.as_slice-group.result.now c.args.session c.in-Ok.before seat.0 rows c.as_slice-group.ensures c.in-Ok.ensures.paid seat.1 in
    paid_can d c.args.session c.in-Ok.before (row_at c.args.self.now.rows (place_of d)) (stored_at maps (place_of d)) seat.0 told.0 c.requires.kept.0 seat.1 c.requires.kept.1
    (copied_some c.get.result (stored_at maps (place_of d)) (c.get.ensures ∙ ap (get (maps d.view)) c.as_slice.ensures) c.if-is_none.ensures) told.2

pub returns-in-Ok-clause-paid : goal.returns-in-Ok-clause-paid
returns-in-Ok-clause-paid g c = λ pays kept.
    let d : GroupDelta = c.args.delta.now in
    let maps = g.M.SortedMaps.maps c.args.maps.now in
    let rows : c.self.inside.rows ≡ c.args.self.now.rows = ap (λ (s : State). s.rows) c.self.view_is in
    let seat = some_of (row_at c.args.self.now.rows (place_of d)) c.requires.ready.seat.1 in
    let told = told_at c.self.inside.rows c.args.self.now.rows c.pay.new.self d c.as_slice-group.result.now c.args.session c.in-Ok.before seat.0 rows c.as_slice-group.ensures c.in-Ok.ensures.paid seat.1 in
    paid_state d c.args.session c.in-Ok.before c.args.self.now.rows c.pay.new.self (place_of d) (stored_at maps (place_of d)) (stored_at (g.M.SortedMaps.maps c.store_moved.new.maps) (place_of d)) seat.0 told.0 pays seat.1 kept
    (copied_some c.get.result (stored_at maps (place_of d)) (c.get.ensures ∙ ap (get (maps d.view)) c.as_slice.ensures) c.if-is_none.ensures) told.1 told.2 c.store_moved.ensures.entry

pub returns-in-Ok-clause-value : goal.returns-in-Ok-clause-value
returns-in-Ok-clause-value g c = λ pays kept.
    let d : GroupDelta = c.args.delta.now in
    let maps = g.M.SortedMaps.maps c.args.maps.now in
    let rows : c.self.inside.rows ≡ c.args.self.now.rows = ap (λ (s : State). s.rows) c.self.view_is in
    let seat = some_of (row_at c.args.self.now.rows (place_of d)) c.requires.ready.seat.1 in
    let told = told_at c.self.inside.rows c.args.self.now.rows c.pay.new.self d c.as_slice-group.result.now c.args.session c.in-Ok.before seat.0 rows c.as_slice-group.ensures c.in-Ok.ensures.paid seat.1 in
    paid_stores d c.args.session c.in-Ok.before (row_at c.args.self.now.rows (place_of d)) maps (g.M.SortedMaps.maps c.store_moved.new.maps) (place_of d) seat.0 told.0 pays kept seat.1
    (copied_some c.get.result (stored_at maps (place_of d)) (c.get.ensures ∙ ap (get (maps d.view)) c.as_slice.ensures) c.if-is_none.ensures) told.2 c.store_moved.ensures.entry

pub returns-in-Ok-clause-allowed : goal.returns-in-Ok-clause-allowed
returns-in-Ok-clause-allowed g c = λ pays row kept there.
    let d : GroupDelta = c.args.delta.now in
    let rows : c.self.inside.rows ≡ c.args.self.now.rows = ap (λ (s : State). s.rows) c.self.view_is in
    let told = told_at c.self.inside.rows c.args.self.now.rows c.pay.new.self d c.as_slice-group.result.now c.args.session c.in-Ok.before row rows c.as_slice-group.ensures c.in-Ok.ensures.paid there in
    λ at lt. told.2.allowed kept.numbers pays (row_of (row_at c.args.self.now.rows (place_of d)) row kept.numbers pays there kept.row) at (subst (λ n. at < n) (sym kept.has.many) lt)

pub returns-in-Err-clause-escrow : goal.returns-in-Err-clause-escrow
returns-in-Err-clause-escrow g c = λ pays row kept there.
    let d : GroupDelta = c.args.delta.now in
    let rows : c.self.inside.rows ≡ c.args.self.now.rows = ap (λ (s : State). s.rows) c.self.view_is in
    let inf : FitsSigned w128 c.in-Err.range.inf = search rules in
    let sup : FitsSigned w128 c.in-Err.range.sup = search rules in
    let told = refusal_at c.self.inside.rows c.args.self.now.rows d c.as_slice-group.result.now c.args.session row c.in-Err.column c.in-Err.range.inf c.in-Err.range.sup rows c.as_slice-group.ensures c.in-Err.ensures.refused there in
    refusal_as row pays c.args.session d c.in-Err.column _ _ c.in-Err.range.inf c.in-Err.range.sup (to_z-of_z w128 c.in-Err.range.inf inf) (to_z-of_z w128 c.in-Err.range.sup sup)
    (told kept.numbers pays kept.has.many (row_of (row_at c.args.self.now.rows (place_of d)) row kept.numbers pays there kept.row))

pub invariant_of-self : goal.invariant_of-self
invariant_of-self g c =
    let d : GroupDelta = c.args.delta.now in
    let rows : c.self.inside.rows ≡ c.args.self.now.rows = ap (λ (s : State). s.rows) c.self.view_is in
    let seat = some_of (row_at c.args.self.now.rows (place_of d)) c.requires.ready.seat.1 in
    let told = told_at c.self.inside.rows c.args.self.now.rows c.pay.new.self d c.as_slice-group.result.now c.args.session c.in-Ok.before seat.0 rows c.as_slice-group.ensures c.in-Ok.ensures.paid seat.1 in
    let open_before : AreOpen c.args.self.now.rows = subst AreOpen rows c.self.invariant.2 in
    let seated_before : AreSeated c.args.self.now.rows c.self.inside.seats.items = subst (λ (l : OpenRows). AreSeated l c.self.inside.seats.items) rows c.self.invariant.3 in (
      set_length c.self.inside.pools.items c.args.session c.take-buffer.new.self ∙ c.self.invariant.0,
      c.self.invariant.1,
      still_open (place_of d) seat.0 told.0 c.args.self.now.rows c.pay.new.self seat.1 told.1 told.2.same open_before,
      still_seated (place_of d) seat.0 told.0 c.args.self.now.rows c.pay.new.self seat.1 told.1 told.2.same c.self.inside.seats.items seated_before,
    )

pub returns-in-Ok-clause-listed : goal.returns-in-Ok-clause-listed
returns-in-Ok-clause-listed g c =
    let d : GroupDelta = c.args.delta.now in
    let maps = g.M.SortedMaps.maps c.args.maps.now in
    let rows : c.self.inside.rows ≡ c.args.self.now.rows = ap (λ (s : State). s.rows) c.self.view_is in
    let seat = some_of (row_at c.args.self.now.rows (place_of d)) c.requires.ready.seat.1 in
    let told = told_at c.self.inside.rows c.args.self.now.rows c.pay.new.self d c.as_slice-group.result.now c.args.session c.in-Ok.before seat.0 rows c.as_slice-group.ensures c.in-Ok.ensures.paid seat.1 in
    moved_listed (place_of d) c.args.self.now.rows c.pay.new.self maps (g.M.SortedMaps.maps c.store_moved.new.maps) c.args.self.now.candidates c.self.inside.candidates seat.0 told.0 (length d.sums) c.requires.kept.0
    (ap (λ (s : State). s.candidates) c.self.view_is) seat.1 told.1 told.2.same.committed
    (some_there (stored_at maps (place_of d)) (copied_some c.get.result (stored_at maps (place_of d)) (c.get.ensures ∙ ap (get (maps d.view)) c.as_slice.ensures) c.if-is_none.ensures))
    c.requires.kept.1 c.store_moved.ensures.others
