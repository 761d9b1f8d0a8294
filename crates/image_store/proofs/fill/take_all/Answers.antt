use Rattle.std.proofs.Common.{refl, sym, ap, subst, ◌∙◌}
use Rattle.iv_meaning.specs.Objects.{schema_of}
use Rattle.query_laws.specs.Limited.{IsLimited}
use Rattle.txn_log.specs.Damaged.{EntryStands}
use Rattle.data_store.specs.declared.store.DataStore.{DataStore}
use Rattle.image_store.proofs.Taking.{filling_begins, filling_done}
use Rattle.image_store.proofs.fill.take_all.Goals as goal

pub loop-init : goal.loop-init
loop-init g c = record {
  filling = filling_begins c.args.left.now.entries c.args.store.now.catalog (g.M.SortedMaps.maps c.args.store.now.tables) c.args.store.now.views c.requires.empty;
  limit = refl;
  rest = refl;
}

pub take_first-requires-clause-stand : goal.take_first-requires-clause-stand
take_first-requires-clause-stand g c κs within = λ p s there.
    subst (λ x. EntryStands (schema_of x.catalog) (p, s.value)) (sym c.loop.invariant.rest) (c.requires.stand p s (c.loop.invariant.filling.still p s there))

pub take_first-requires-clause-filling : goal.take_first-requires-clause-filling
take_first-requires-clause-filling g c κs within = (c.args.left.now.entries, c.loop.invariant.filling)

pub take_first-requires-clause-limited : goal.take_first-requires-clause-limited
take_first-requires-clause-limited g c κs within = subst (λ x. IsLimited (schema_of x.catalog)) (sym c.loop.invariant.rest) c.requires.limited

pub take_first-requires-clause-limit : goal.take_first-requires-clause-limit
take_first-requires-clause-limit g c κs within = c.loop.invariant.limit ∙ c.requires.limit

pub returns-in_err-take_first-clause-rest : goal.returns-in_err-take_first-clause-rest
returns-in_err-take_first-clause-rest g c =
    let left : DataStore g.row.M.Denot → DataStore g.row.M.Denot = λ x. record x { tables = c.take_first.new.store.tables; views = c.take_first.new.store.views } in
    c.take_first.ensures.rest ∙ ap left c.loop.invariant.rest

pub loop-preserved : goal.loop-preserved
loop-preserved g c = record {
  filling = c.in_ok-take_first.ensures.filling c.args.left.now.entries c.loop.invariant.filling;
  limit = c.take_first.ensures.limit ∙ c.loop.invariant.limit;
  rest =
      let left : DataStore g.row.M.Denot → DataStore g.row.M.Denot = λ x. record x { tables = c.take_first.new.store.tables; views = c.take_first.new.store.views } in
      c.take_first.ensures.rest ∙ ap left c.loop.invariant.rest;
}

pub returns-clause-rest : goal.returns-clause-rest
returns-clause-rest g c =
    let left : DataStore g.row.M.Denot → DataStore g.row.M.Denot = λ x. record x { tables = c.take_first.new.store.tables; views = c.take_first.new.store.views } in
    c.take_first.ensures.rest ∙ ap left c.loop.invariant.rest

pub returns-clause-filled : goal.returns-clause-filled
returns-clause-filled g c =
    filling_done c.args.left.now.entries c.take_first.new.left.entries c.take_first.new.store.catalog (g.M.SortedMaps.maps c.take_first.new.store.tables) c.take_first.new.store.views
    (c.in_ok-take_first.ensures.filling c.args.left.now.entries c.loop.invariant.filling) (c.in_ok-take_first.ensures.end c.if-branch.false)

pub loop-smaller : goal.loop-smaller
loop-smaller g c = c.in_ok-take_first.ensures.more c.if-branch.true
