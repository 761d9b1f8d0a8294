use Rattle.std.proofs.Common.{◌≡◌, length, ap, subst, ◌∙◌}
use Rattle.iv_types.specs.declared.lock.GroupDelta.{GroupDelta}
use Rattle.txn_machine.specs.Deltas.{place_of}
use Rattle.ghost_rows.specs.Rows.{OpenRows, row_at, AreOpen, AreSeated}
use Rattle.table_laws.proofs.SetPlaces.{set_length}
use Rattle.ghost_rows.proofs.SeatLemmas.{still_open, still_seated}
use Rattle.ghost_rows.proofs.ListedLemmas.{moved_listed}
use Rattle.ghost_rows.specs.Kept.{width}
use Rattle.ghost_rows.specs.State.{State, stored_at}
use Rattle.ghost_rows.proofs.StateLemmas.{some_of, some_there, paid_here, row_there, taken_can, taken_state, taken_stores, taken_at}
use Rattle.ghost_rows.proofs.view_rows.ViewRows.take_back.Goals as goal

pub store_moved-requires-clause-stored : goal.store_moved-requires-clause-stored
store_moved-requires-clause-stored g c κs within =
    let d : GroupDelta = c.args.delta.now in
    let maps = g.M.SortedMaps.maps c.args.maps.now in
    let rows : c.self.inside.rows ≡ c.args.self.now.rows = ap (λ (s : State). s.rows) c.self.view_is in
    let pays = c.requires.kept.0 in
    let kept = c.requires.kept.1 in
    let last = c.requires.kept.2 in
    let seat = some_of (row_at c.args.self.now.rows (place_of d)) (row_there (row_at c.args.self.now.rows (place_of d)) (stored_at maps (place_of d)) (width d) pays c.args.session d last.earlier kept last.latest) in
    let told = taken_at c.self.inside.rows c.args.self.now.rows c.take_back.new.self d c.as_slice-group.result.now c.args.session c.args.before.now seat.0 rows c.as_slice-group.ensures c.take_back.ensures seat.1 in
    taken_can d c.args.session c.args.before.now (row_at c.args.self.now.rows (place_of d)) (stored_at maps (place_of d)) seat.0 told.0 pays last.earlier seat.1 kept last.latest last.prefixes told.2

pub returns-clause-taken : goal.returns-clause-taken
returns-clause-taken g c = λ pays earlier kept latest prefixes.
    let d : GroupDelta = c.args.delta.now in
    let maps = g.M.SortedMaps.maps c.args.maps.now in
    let rows : c.self.inside.rows ≡ c.args.self.now.rows = ap (λ (s : State). s.rows) c.self.view_is in
    let seat = some_of (row_at c.args.self.now.rows (place_of d)) (row_there (row_at c.args.self.now.rows (place_of d)) (stored_at maps (place_of d)) (width d) pays c.args.session d earlier kept latest) in
    let told = taken_at c.self.inside.rows c.args.self.now.rows c.take_back.new.self d c.as_slice-group.result.now c.args.session c.args.before.now seat.0 rows c.as_slice-group.ensures c.take_back.ensures seat.1 in
    taken_state d c.args.session c.args.before.now c.args.self.now.rows c.take_back.new.self (place_of d) (stored_at maps (place_of d)) (stored_at (g.M.SortedMaps.maps c.store_moved.new.maps) (place_of d)) seat.0 told.0 pays earlier seat.1 kept
    latest prefixes told.1 told.2 c.store_moved.ensures.entry

pub returns-clause-value : goal.returns-clause-value
returns-clause-value g c = λ pays earlier kept latest prefixes.
    let d : GroupDelta = c.args.delta.now in
    let maps = g.M.SortedMaps.maps c.args.maps.now in
    let rows : c.self.inside.rows ≡ c.args.self.now.rows = ap (λ (s : State). s.rows) c.self.view_is in
    let seat = some_of (row_at c.args.self.now.rows (place_of d)) (row_there (row_at c.args.self.now.rows (place_of d)) (stored_at maps (place_of d)) (width d) pays c.args.session d earlier kept latest) in
    let told = taken_at c.self.inside.rows c.args.self.now.rows c.take_back.new.self d c.as_slice-group.result.now c.args.session c.args.before.now seat.0 rows c.as_slice-group.ensures c.take_back.ensures seat.1 in
    taken_stores d c.args.session c.args.before.now (row_at c.args.self.now.rows (place_of d)) maps (g.M.SortedMaps.maps c.store_moved.new.maps) (place_of d) seat.0 told.0 pays earlier kept seat.1 latest prefixes told.2 c.store_moved.ensures.entry

pub invariant_of-self : goal.invariant_of-self
invariant_of-self g c =
    let d : GroupDelta = c.args.delta.now in
    let maps = g.M.SortedMaps.maps c.args.maps.now in
    let rows : c.self.inside.rows ≡ c.args.self.now.rows = ap (λ (s : State). s.rows) c.self.view_is in
    let pays = c.requires.kept.0 in
    let kept = c.requires.kept.1 in
    let last = c.requires.kept.2 in
    let seat = some_of (row_at c.args.self.now.rows (place_of d)) (row_there (row_at c.args.self.now.rows (place_of d)) (stored_at maps (place_of d)) (width d) pays c.args.session d last.earlier kept last.latest) in
    let told = taken_at c.self.inside.rows c.args.self.now.rows c.take_back.new.self d c.as_slice-group.result.now c.args.session c.args.before.now seat.0 rows c.as_slice-group.ensures c.take_back.ensures seat.1 in
    let open_before : AreOpen c.args.self.now.rows = subst AreOpen rows c.self.invariant.2 in
    let seated_before : AreSeated c.args.self.now.rows c.self.inside.seats.items = subst (λ (l : OpenRows). AreSeated l c.self.inside.seats.items) rows c.self.invariant.3 in (
      set_length c.self.inside.pools.items c.args.session c.take-buffer.new.self ∙ c.self.invariant.0,
      c.self.invariant.1,
      still_open (place_of d) seat.0 told.0 c.args.self.now.rows c.take_back.new.self seat.1 told.1 told.2.same open_before,
      still_seated (place_of d) seat.0 told.0 c.args.self.now.rows c.take_back.new.self seat.1 told.1 told.2.same c.self.inside.seats.items seated_before,
    )

pub returns-clause-listed : goal.returns-clause-listed
returns-clause-listed g c =
    let d : GroupDelta = c.args.delta.now in
    let maps = g.M.SortedMaps.maps c.args.maps.now in
    let rows : c.self.inside.rows ≡ c.args.self.now.rows = ap (λ (s : State). s.rows) c.self.view_is in
    let pays = c.requires.kept.0 in
    let kept = c.requires.kept.1 in
    let last = c.requires.kept.2 in
    let seat = some_of (row_at c.args.self.now.rows (place_of d)) (row_there (row_at c.args.self.now.rows (place_of d)) (stored_at maps (place_of d)) (width d) pays c.args.session d last.earlier kept last.latest) in
    let told = taken_at c.self.inside.rows c.args.self.now.rows c.take_back.new.self d c.as_slice-group.result.now c.args.session c.args.before.now seat.0 rows c.as_slice-group.ensures c.take_back.ensures seat.1 in
    moved_listed (place_of d) c.args.self.now.rows c.take_back.new.self maps (g.M.SortedMaps.maps c.store_moved.new.maps) c.args.self.now.candidates c.self.inside.candidates seat.0 told.0 (length d.sums) pays
    (ap (λ (s : State). s.candidates) c.self.view_is) seat.1 told.1 told.2.same.committed
    (some_there (stored_at maps (place_of d)) (paid_here pays c.args.session d last.earlier (stored_at maps (place_of d)) last.latest kept.absent)) kept c.store_moved.ensures.others
