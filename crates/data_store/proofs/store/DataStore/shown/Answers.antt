use Rattle.std.proofs.Common.{List, sym, subst, ◌∙◌}
use Rattle.iv_types.specs.declared.value.Kind.{Kind}
use Rattle.iv_meaning.specs.Schema.{group_kinds}
use Rattle.iv_meaning.specs.Objects.{schema_of, view_tree}
use Rattle.data_store.specs.Shown.{AreGroupRows}
use Rattle.data_store.proofs.store.DataStore.shown.Goals as goal

pub rows_shown-requires-after_bounds : goal.rows_shown-requires-after_bounds
rows_shown-requires-after_bounds g c κs within =
    let S = g.M.SortedMaps in
    let n = c.args.view.now.number in
    subst (λ (ks : List Kind). AreGroupRows ks (S.maps c.maps.result.now n)) (sym (c.as_slice.ensures ∙ c.in_ok-kinds.ensures))
    (subst (λ m. AreGroupRows (group_kinds (schema_of c.args.self.now.catalog) (view_tree c.args.view.now)) (S.maps m n)) (sym c.maps.ensures) c.requires)
