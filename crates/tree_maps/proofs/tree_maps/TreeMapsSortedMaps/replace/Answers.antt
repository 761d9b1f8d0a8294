use Rattle.std.proofs.Common.{arith, ◌≡◌, ◌+◌, ◌-◌, ◌<◌, ◌∙◌, ap, sym, subst, length, Some, slice_index_or}
use Rattle.std.specs.FinMap as map
use Rattle.std.proofs.lemmas.List.{get_or_default}
use Rattle.iv_types.specs.Maps.{Map, map_size}
use Rattle.iv_types.proofs.MapSizes.{size_replaced, size_remove}
use Rattle.table_store.specs.Lists.{Listed, map_at, unheld}
use Rattle.table_store.proofs.Counting.{counted_list, counted_few, counted_least}
use Rattle.tree_maps.proofs.Holding.{HoldsIn, held_list, held_put}
use Rattle.tree_maps.proofs.tree_maps.TreeMapsSortedMaps.replace.Goals as goal

pub overflow_add-self : goal.overflow_add-self
overflow_add-self c = omega (arith, counted_few c.self.inside.trees.items c.self.inside.used c.self.invariant.counted, ap length c.as_slice.ensures, c.entry_size-size.ensures, c.requires.held.of_key, c.requires.held.of_value)

pub overflow_sub-self : goal.overflow_sub-self
overflow_sub-self c =
    let trees = c.self.inside.trees.items in
    let index = c.args.index in
    let key = c.args.key.now in
    let was = c.replace-was.result in
    let inside : index < length trees = omega (arith, c.self.invariant.counted.all, c.requires.held.of_index) in
    let old : c.index_mut.result.now ≡ slice_index_or trees index unheld = c.index_mut.ensures.value ∙ get_or_default _ index _ unheld inside in
    let some : map.get (map_at trees index) key ≡ Some was = ap (λ (l : Listed). map.get l.map key) (sym old) ∙ c.replace-was.ensures.was in
    omega (arith, size_remove (map_at trees index) key was some, counted_least trees c.self.inside.used index c.self.invariant.counted inside, c.entry_size.ensures, ap length c.as_slice-2.ensures, ap length c.was.view_is)

pub invariant_of-self : goal.invariant_of-self
invariant_of-self c =
    let trees = c.self.inside.trees.items in
    let index = c.args.index in
    let key = c.args.key.now in
    let was = c.replace-was.result in
    let inside : index < length trees = omega (arith, c.self.invariant.counted.all, c.requires.held.of_index) in
    let old : c.index_mut.result.now ≡ slice_index_or trees index unheld = c.index_mut.ensures.value ∙ get_or_default _ index _ unheld inside in
    let some : map.get (map_at trees index) key ≡ Some was = ap (λ (l : Listed). map.get l.map key) (sym old) ∙ c.replace-was.ensures.was in
    let size : map_size c.replace-was.new.self.map + length was ≡ map_size (map_at trees index) + length c.args.value =
    ap (λ (m : Map). map_size m + length was) (c.replace-was.ensures.entry ∙ ap (λ (l : Listed). map.insert l.map key c.args.value) old)
    ∙ size_replaced (map_at trees index) key c.args.value was some in
    record {
      counted = counted_list trees index c.replace-was.new.self c.self.inside.used (c.self.inside.used + c.entry_size-size.result - c.entry_size.result) c.self.invariant.counted inside c.replace-was.ensures.most
          (omega (arith, size, c.entry_size-size.ensures, c.entry_size.ensures, ap length c.as_slice.ensures, ap length c.as_slice-2.ensures, ap length c.was.view_is, size_remove (map_at trees index) key was some, counted_least trees c.self.inside.used index c.self.invariant.counted inside));
      held = held_list trees index c.replace-was.new.self c.self.invariant.held inside (subst (HoldsIn index) (sym (c.replace-was.ensures.entry ∙ ap (λ (l : Listed). map.insert l.map key c.args.value) old)) (held_put index (map_at trees index) key (c.self.invariant.held index) c.args.value c.requires.held));
    }
