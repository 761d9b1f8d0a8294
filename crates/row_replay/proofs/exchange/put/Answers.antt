use Rattle.std.proofs.Common.{◌≡◌, Some, sym, subst}
use Rattle.iv_types.specs.declared.lock.Change.{Change}
use Rattle.table_store.specs.Stored.{IsTableAnd, table_of}
use Rattle.table_store.specs.Changes.{IsChange, Sets, SetsRow}
use Rattle.row_replay.proofs.Standing.{is_change, put_held}
use Rattle.row_replay.proofs.exchange.put.Goals as goal

pub change-requires-clause-change : goal.change-requires-clause-change
change-requires-clause-change g c κs within =
    let ds = c.args.store.now.catalog in
    let maps = g.M.SortedMaps.maps c.args.store.now.tables in
    let limit = g.M.SortedMaps.limit c.args.store.now.tables in
    let q = c.requires.stands in
    let t = c.requires.under in
    subst (λ (x : Change). IsTableAnd ds x.table (IsChange ds x maps limit)) (sym c.in_ok-change.ensures)
    (is_change ds maps c.args.store.now.views q.0 q.1 c.number_law.ensures c.args.table c.args.key.now t.0 t.1 c.args.from.now c.args.to.now t.2 q.2 c.requires.differ c.requires.limited limit c.requires.limit)

pub returns-clause-put : goal.returns-clause-put
returns-clause-put g c = λ x held.
    let ds = c.args.store.now.catalog in
    let maps = g.M.SortedMaps.maps c.args.store.now.tables in
    let new = g.M.SortedMaps.maps c.change.new.self in
    let t = c.requires.under in
    let is = c.in_ok-change.ensures in
    put_held ds maps c.args.store.now.views x held c.number_law.ensures c.args.table c.args.key.now t.0 t.1 c.args.from.now c.args.to.now t.2 new
    (subst (λ (y : Change). SetsRow ds y.table y.key y.after maps new) is c.in_ok-kept.ensures.rows)
    (subst (λ (y : Change). Sets ds y.key y.before y.after maps new t.0) is (c.in_ok-kept.ensures.set t.0 (subst (λ (y : Change). table_of ds y.table ≡ Some t.0) (sym is) t.1)))
