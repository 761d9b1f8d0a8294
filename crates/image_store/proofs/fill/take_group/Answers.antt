use Rattle.std.proofs.Common.{sym, subst}
use Rattle.std.proofs.lemmas.Result.{on_ok_weaker}
use Rattle.std.specs.FinMap.{insert}
use Rattle.table_laws.specs.Place.{Place}
use Rattle.data_store.specs.Held.{IsHeld}
use Rattle.image_store.specs.Filled.{IsFilled, contents_of, with_group}
use Rattle.image_store.proofs.Entries.{total_stands}
use Rattle.image_store.proofs.Taking.{group_bytes, new_group, total_filled}
use Rattle.image_store.proofs.fill.take_group.Goals as goal

pub put_group-requires-clause-new : goal.put_group-requires-clause-new
put_group-requires-clause-new g c κs within =
    let ds = c.args.store.now.catalog in
    let maps = g.M.SortedMaps.maps c.args.store.now.tables in
    let place : Place = (c.args.view, c.args.key) in
    let q = c.requires.new in
    let is = total_stands ds place c.args.entry.value c.requires.table c.requires.some c.requires.stands in
    (contents_of q.1.pages, is.numbers, new_group ds maps c.args.store.now.views q.0 place c.args.entry q.1 q.2 is c.requires.some, group_bytes ds maps c.args.store.now.views q.0 place c.args.entry q.1 q.2 is c.requires.some)

pub returns-clause-filled : goal.returns-clause-filled
returns-clause-filled g c =
    let ds = c.args.store.now.catalog in
    let maps = g.M.SortedMaps.maps c.args.store.now.tables in
    let state = c.args.store.now.views in
    let place : Place = (c.args.view, c.args.key) in
    let is = total_stands ds place c.args.entry.value c.requires.table c.requires.some c.requires.stands in
    on_ok_weaker c.put_group.result (λ put done filled free.
    let held = put (contents_of filled.pages) is.numbers (new_group ds maps state done place c.args.entry filled free is c.requires.some) (group_bytes ds maps state done place c.args.entry filled free is c.requires.some) in
    subst (λ s. IsFilled (insert done place c.args.entry) s.catalog (g.M.SortedMaps.maps s.tables) s.views) (sym c.put_group.ensures.rest)
    (total_filled ds maps state done place c.args.entry filled free is c.requires.some (g.M.SortedMaps.maps c.put_group.new.store.tables) c.put_group.new.store.views c.put_group.ensures.rows
    (subst (λ s. IsHeld s.catalog (g.M.SortedMaps.maps s.tables) s.views (with_group (contents_of filled.pages) place is.numbers)) c.put_group.ensures.rest held)))
    c.put_group.ensures.put
