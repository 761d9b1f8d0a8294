use Rattle.std.proofs.Common.{List, sym, subst, ◌∙◌}
use Rattle.iv_types.specs.declared.lock.IndexEntry.{IndexEntry}
use Rattle.iv_types.specs.declared.catalog.TableDef.{TableDef}
use Rattle.table_store.specs.Changes.{CanExchange, Exchanges, Sets}
use Rattle.table_store.specs.Readying.{IsReady}
use Rattle.table_store.proofs.Rows.{some_same}
use Rattle.table_store.proofs.Changing.{exchanged_sets, exchanged_rows}
use Rattle.table_store.proofs.Readying.{can_apply, applied}
use Rattle.table_store.proofs.tables.Tables.apply.Goals as goal

pub exchange-requires-after_bounds : goal.exchange-requires-after_bounds
exchange-requires-after_bounds g c κs within =
    let S = g.M.SortedMaps in
    let ds = c.args.catalog.now in
    let ready = c.args.ready in
    let t = c.requires.0 in
    let m = c.self.inside.maps in
    let r : IsReady ds ready (S.maps m) (S.spare m) (S.limit m) t = subst (λ x. IsReady ds ready (S.maps x) (S.spare x) (S.limit x) t) (sym c.self.view_is) c.requires.2 in
    subst (λ (l : List IndexEntry). CanExchange (S.maps m) (S.spare m) (S.limit m) l ready.coming) (sym c.as_slice.ensures)
    (can_apply ds ready t (S.maps m) (S.spare m) (S.limit m) r c.number_law.ensures c.requires.1 c.key_law.ensures.spelling)

pub returns-clause-set : goal.returns-clause-set
returns-clause-set g c = λ u found.
    let S = g.M.SortedMaps in
    let ds = c.args.catalog.now in
    let ready = c.args.ready in
    let change = ready.kept.change in
    let t = c.requires.0 in
    let old = c.args.self.now in
    let new = c.exchange.new.maps in
    let moved : Exchanges ready.kept.gone ready.coming (S.maps old) (S.maps new) =
    subst (λ x. Exchanges ready.kept.gone ready.coming (S.maps x) (S.maps new)) c.self.view_is (subst (λ (l : List IndexEntry). Exchanges l ready.coming (S.maps c.self.inside.maps) (S.maps new)) c.as_slice.ensures c.exchange.ensures.moved) in
    let sets : Sets ds change.key change.before change.after (S.maps old) (S.maps new) t =
    exchanged_sets ds change.table t c.number_law.ensures c.requires.1 c.key_law.ensures.spelling change.key change.before change.after (S.maps old) c.requires.2.change.there c.requires.2.change.row_after (S.maps new)
    (applied ds ready t (S.maps old) (S.spare old) (S.limit old) c.requires.2 (S.maps new) moved) in
    subst (λ (v : TableDef). Sets ds change.key change.before change.after (S.maps old) (S.maps new) v) (some_same t u (sym c.requires.1 ∙ found)) sets

pub returns-clause-rows : goal.returns-clause-rows
returns-clause-rows g c =
    let S = g.M.SortedMaps in
    let ds = c.args.catalog.now in
    let ready = c.args.ready in
    let change = ready.kept.change in
    let t = c.requires.0 in
    let old = c.args.self.now in
    let new = c.exchange.new.maps in
    let moved : Exchanges ready.kept.gone ready.coming (S.maps old) (S.maps new) =
    subst (λ x. Exchanges ready.kept.gone ready.coming (S.maps x) (S.maps new)) c.self.view_is (subst (λ (l : List IndexEntry). Exchanges l ready.coming (S.maps c.self.inside.maps) (S.maps new)) c.as_slice.ensures c.exchange.ensures.moved) in
    exchanged_rows ds change.table t c.number_law.ensures c.requires.1 c.key_law.ensures.spelling change.key change.before change.after (S.maps old) c.requires.2.change.there c.requires.2.change.row_after (S.maps new)
    (applied ds ready t (S.maps old) (S.spare old) (S.limit old) c.requires.2 (S.maps new) moved) c.row_law.ensures.spelling
