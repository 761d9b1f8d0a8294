use Rattle.std.proofs.Common.{◌+◌, subst, arith}
use Rattle.table_store.specs.Readying.{HasPlaces}
use Rattle.table_store.specs.Stored.{OfTable}
use Rattle.core_effects.proofs.Results.{on_ok_as}
use Rattle.core_changes.proofs.Few.{few_changes}
use Rattle.core_changes.proofs.Roomier.{entries_holds}
use Rattle.core_changes.proofs.room.reserve_entries.Goals as goal

pub changes-requires : goal.changes-requires
changes-requires g c =
    let few = few_changes g.M.SortedMaps.maps g.M.SortedMaps.spare g.M.SortedMaps.limit c.args.core.now c.requires.held.0 c.requires.held.1 c.requires.held.2 c.requires.held.3 c.book_law.ensures in
    omega (arith, few)

pub overflow_cast-more : goal.overflow_cast-more
overflow_cast-more g c =
    let few = few_changes g.M.SortedMaps.maps g.M.SortedMaps.spare g.M.SortedMaps.limit c.args.core.now c.requires.held.0 c.requires.held.1 c.requires.held.2 c.requires.held.3 c.book_law.ensures in
    omega (arith, few, c.changes.ensures)

pub overflow_add-more : goal.overflow_add-more
overflow_add-more g c =
    let few = few_changes g.M.SortedMaps.maps g.M.SortedMaps.spare g.M.SortedMaps.limit c.args.core.now c.requires.held.0 c.requires.held.1 c.requires.held.2 c.requires.held.3 c.book_law.ensures in
    omega (arith, few, c.changes.ensures)

pub returns-clause-room : goal.returns-clause-room
returns-clause-room g c = on_ok_as c.reserve.result
    (λ room. subst (λ n. OfTable c.args.core.now.store.catalog c.args.table (HasPlaces c.args.core.now.store.catalog (n + 1) (g.M.SortedMaps.spare c.reserve.new.self))) c.changes.ensures room) c.reserve.ensures.room

pub returns-clause-holds : goal.returns-clause-holds
returns-clause-holds g c = λ s l texts h. entries_holds g.M.SortedMaps.maps g.M.SortedMaps.spare g.M.SortedMaps.limit c.args.core.now s l texts h c.reserve.new.self c.reserve.ensures.maps c.reserve.ensures.spare c.reserve.ensures.limit
