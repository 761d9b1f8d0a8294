use Rattle.std.proofs.Common.{arith, ◌≡◌, ◌<◌, ◌∙◌, refl, sym, ap, subst, length, slice_index_or}
use Rattle.std.proofs.lemmas.List.{get_or_default}
use Rattle.table_store.specs.Lists.{Listed, unheld}
use Rattle.tree_maps.specs.Holding.{AreMaps}
use Rattle.tree_maps.specs.declared.tree_maps.TreeMaps.TheInside.{Inside}
use Rattle.tree_maps.proofs.Holding.{roomier}
use Rattle.tree_maps.proofs.tree_maps.TreeMapsSortedMaps.reserve.Goals as goal
use Rattle.tree_maps.proofs.tree_maps.TreeMapsSortedMaps.reserve.Goals.{in-Some, in-None}

pub invariant_of-self : goal.invariant_of-self
invariant_of-self c = elim c.match-get_mut.branch [
  | in-Some w ↦
      let trees = c.self.inside.trees.items in
      let index = c.args.index in
      let lt = w.in-Some.ensures.variant.0 refl in
      let long = c.self.inside.trees.ok.0 in
      let inside : index < length trees = omega (arith, lt, long) in
      let old : w.in-Some.tree.now ≡ slice_index_or trees index unheld = w.in-Some.ensures.value ∙ get_or_default _ index _ unheld inside in
      subst (λ (x : Inside). AreMaps x.trees.items x.used) (sym w.self-inside-is)
      (roomier trees index w.reserve.new.self c.self.inside.used c.self.invariant inside (w.reserve.ensures.map ∙ ap (λ (l : Listed). l.map) old))
  | in-None w ↦ subst (λ (x : Inside). AreMaps x.trees.items x.used) (sym w.self-inside-is) c.self.invariant
]
