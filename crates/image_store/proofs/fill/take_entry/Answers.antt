use Rattle.table_laws.specs.Place.{Place}
use Rattle.image_store.proofs.Taking.{part_filled}
use Rattle.image_store.proofs.fill.take_entry.Goals as goal

pub returns-then-index-eq0-clause-filled : goal.returns-then-index-eq0-clause-filled
returns-then-index-eq0-clause-filled g c = λ done filled free.
    let place : Place = (c.args.index, c.args.key) in
    part_filled c.args.store.now.catalog (g.M.SortedMaps.maps c.args.store.now.tables) c.args.store.now.views done place c.args.entry filled free c.if-index-eq0.true
