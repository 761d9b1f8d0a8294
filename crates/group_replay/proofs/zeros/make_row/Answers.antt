use Rattle.std.proofs.Common.{suc, Some, refl, sym, ◌∙◌, arith}
use Rattle.table_laws.specs.Place.{Place}
use Rattle.table_laws.specs.Table.{write}
use Rattle.iv_meaning.specs.Objects.{schema_of}
use Rattle.txn_machine.specs.Stored.{zeros}
use Rattle.group_replay.proofs.Rows.{few_sums, can_store, not_absent, found_absent, absent_row, stored_absent, has_absent, still_closed}
use Rattle.group_replay.proofs.zeros.make_row.Goals as goal

pub returns-then-is_some-clause-absent : goal.returns-then-is_some-clause-absent
returns-then-is_some-clause-absent g c = λ x k.
    let s = c.args.store.now in
    let place : Place = (c.args.view, c.args.group.now) in
    (λ h. absurd (cc h), λ none. absurd (not_absent g.M.SortedMaps.maps c.maps.result.now s.tables place c.maps.ensures c.get.result c.get.ensures (sym c.is_some.ensures ∙ c.if-is_some.true) (stored_absent s.catalog (g.M.SortedMaps.maps s.tables) s.views place c.requires.group.0 x k none)))

pub overflow_cast-sums : goal.overflow_cast-sums
overflow_cast-sums g c =
    let few = few_sums (schema_of c.args.store.now.catalog) (c.args.view, c.args.group.now) c.requires.limited c.requires.group.0 in
    let many = c.requires.group.1 in
    omega (arith, few, many)

pub make_ghost-requires-clause-held : goal.make_ghost-requires-clause-held
make_ghost-requires-clause-held g c κs within =
    let s = c.args.store.now in
    let place : Place = (c.args.view, c.args.group.now) in
    let q = c.requires.closed in
    let none = found_absent g.M.SortedMaps.maps c.maps.result.now s.tables place c.maps.ensures c.get.result c.get.ensures (sym c.is_some.ensures ∙ c.if-is_some.false) in
    (q.0, has_absent s.catalog (g.M.SortedMaps.maps s.tables) s.views place c.requires.group.0 q.0 q.1 c.args.sums c.requires.group.1 (absent_row s.catalog (g.M.SortedMaps.maps s.tables) s.views place c.requires.group.0 q.0 q.1 none))

pub make_ghost-requires-clause-sums : goal.make_ghost-requires-clause-sums
make_ghost-requires-clause-sums g c κs within =
    let few = few_sums (schema_of c.args.store.now.catalog) (c.args.view, c.args.group.now) c.requires.limited c.requires.group.0 in
    let many = c.requires.group.1 in
    omega (arith, few, many)

pub make_ghost-requires-clause-can : goal.make_ghost-requires-clause-can
make_ghost-requires-clause-can g c κs within =
    let s = c.args.store.now in
    can_store (schema_of s.catalog) (c.args.view, c.args.group.now) (g.M.SortedMaps.maps s.tables) (g.M.SortedMaps.limit s.tables) c.args.sums c.requires.limited c.requires.limit c.requires.group.0 c.requires.group.1

pub returns-clause-absent : goal.returns-clause-absent
returns-clause-absent g c = λ x k.
    let s = c.args.store.now in
    let place : Place = (c.args.view, c.args.group.now) in
    let none = found_absent g.M.SortedMaps.maps c.maps.result.now s.tables place c.maps.ensures c.get.result c.get.ensures (sym c.is_some.ensures ∙ c.if-is_some.false) in
    (λ h. absent_row s.catalog (g.M.SortedMaps.maps s.tables) s.views place c.requires.group.0 x k none, λ e. refl)

pub returns-clause-made : goal.returns-clause-made
returns-clause-made g c = λ t x k.
    let s = c.args.store.now in
    let new = c.make_ghost.new.store in
    let place : Place = (c.args.view, c.args.group.now) in
    let none = found_absent g.M.SortedMaps.maps c.maps.result.now s.tables place c.maps.ensures c.get.result c.get.ensures (sym c.is_some.ensures ∙ c.if-is_some.false) in
    still_closed s.catalog (g.M.SortedMaps.maps s.tables) s.views place c.requires.group.0 x k new.catalog (g.M.SortedMaps.maps new.tables) new.views (write x.view place (Some (zeros (suc c.args.sums)))) c.make_ghost.ensures.rows
    (c.in_ok-make_ghost.ensures.made x (has_absent s.catalog (g.M.SortedMaps.maps s.tables) s.views place c.requires.group.0 x k c.args.sums c.requires.group.1 (absent_row s.catalog (g.M.SortedMaps.maps s.tables) s.views place c.requires.group.0 x k none)))
