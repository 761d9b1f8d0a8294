use mathlib.Core.Path.{sym, ap, subst, ◌∙◌}
use Rattle.std.specs.Prelude.{List}
use Rattle.table_store.specs.Lists.{Listed, map_at}
use Rattle.table_store.specs.Stored.{Holds}
use Rattle.table_store.proofs.Staging.{hold_same}
use Rattle.store_cases.proofs.tables.prepare_back.Goals as goal

pub can_be_taken_back-requires-clause-held : goal.can_be_taken_back-requires-clause-held
can_be_taken_back-requires-clause-held c =
    let rows = c.requires.0 in
    let held = hold_same c.args.catalog.now rows (map_at c.args.tables.now) (map_at c.make_room.new.maps)
    (λ i. c.make_room.ensures.maps i ∙ ap (λ (maps : List Listed). map_at maps i) c.maps_mut.ensures.value) c.requires.1 in
    (rows, subst (λ (m : List Listed). Holds c.args.catalog.now rows (map_at m)) (sym c.maps.ensures) held)

pub returns-clause-held : goal.returns-clause-held
returns-clause-held c =
    let rows = c.requires.0 in (
      rows,
      hold_same c.args.catalog.now rows (map_at c.args.tables.now) (map_at c.make_room.new.maps)
          (λ i. c.make_room.ensures.maps i ∙ ap (λ (maps : List Listed). map_at maps i) c.maps_mut.ensures.value) c.requires.1,
    )
