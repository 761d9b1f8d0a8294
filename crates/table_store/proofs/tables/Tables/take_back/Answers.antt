use Rattle.std.proofs.Common.{List, sym, ap, subst, ◌∙◌}
use Rattle.iv_types.specs.declared.lock.IndexEntry.{IndexEntry}
use Rattle.iv_types.specs.declared.catalog.TableDef.{TableDef}
use Rattle.table_store.specs.Changes.{own_entries, CanExchange, Exchanges, Sets}
use Rattle.table_store.proofs.Rows.{some_same}
use Rattle.table_store.proofs.Changing.{can_go_back, same_exchanges, exchanged_sets, exchanged_rows}
use Rattle.table_store.proofs.tables.Tables.take_back.Goals as goal

pub exchange-requires-after_bounds : goal.exchange-requires-after_bounds
exchange-requires-after_bounds g c κs within =
    let S = g.M.SortedMaps in
    let kept = c.args.kept in
    let m = c.args.self.now in
    let can : CanExchange (S.maps m) (S.spare m) (S.limit m) kept.made kept.gone =
    can_go_back c.args.catalog.now kept.change.table c.requires.0 c.number_law.ensures c.requires.1 c.key_law.ensures.spelling kept (S.maps m) (S.spare m) (S.limit m) c.requires.2 in
    subst (λ s. CanExchange (S.maps s) (S.spare s) (S.limit s) c.as_slice.result.now kept.gone) (sym c.self.view_is)
    (subst (λ (l : List IndexEntry). CanExchange (S.maps m) (S.spare m) (S.limit m) l kept.gone) (sym c.as_slice.ensures) can)

pub returns-clause-set : goal.returns-clause-set
returns-clause-set g c = λ t is.
    let S = g.M.SortedMaps in
    let kept = c.args.kept in
    let change = kept.change in
    let ds = c.args.catalog.now in
    let u = c.requires.0 in
    let can = c.requires.2 in
    let old = S.maps c.args.self.now in
    let new = S.maps c.exchange.new.maps in
    let moved : Exchanges (own_entries ds u change.key change.after change.before) (own_entries ds u change.key change.before change.after) old new =
    same_exchanges c.as_slice.result.now _ kept.gone _ (S.maps c.self.inside.maps) old new (c.as_slice.ensures ∙ can.is_kept.made) can.is_kept.removed (ap S.maps c.self.view_is) c.exchange.ensures.moved in
    let sets : Sets ds change.key change.after change.before old new u =
    exchanged_sets ds change.table u c.number_law.ensures c.requires.1 c.key_law.ensures.spelling change.key change.after change.before old can.there can.row_before new moved in
    subst (λ (v : TableDef). Sets ds change.key change.after change.before old new v) (some_same u t (sym c.requires.1 ∙ is)) sets

pub returns-clause-rows : goal.returns-clause-rows
returns-clause-rows g c =
    let S = g.M.SortedMaps in
    let kept = c.args.kept in
    let change = kept.change in
    let ds = c.args.catalog.now in
    let u = c.requires.0 in
    let can = c.requires.2 in
    let old = S.maps c.args.self.now in
    let new = S.maps c.exchange.new.maps in
    let moved : Exchanges (own_entries ds u change.key change.after change.before) (own_entries ds u change.key change.before change.after) old new =
    same_exchanges c.as_slice.result.now _ kept.gone _ (S.maps c.self.inside.maps) old new (c.as_slice.ensures ∙ can.is_kept.made) can.is_kept.removed (ap S.maps c.self.view_is) c.exchange.ensures.moved in
    exchanged_rows ds change.table u c.number_law.ensures c.requires.1 c.key_law.ensures.spelling change.key change.after change.before old can.there can.row_before new moved c.row_law.ensures.spelling
