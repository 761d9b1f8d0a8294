use Rattle.std.proofs.Common.{arith, ◌≡◌, ◌+◌, ◌<◌, ◌∙◌, sym, ap, subst, List, length, None, slice_index_or}
use Rattle.std.specs.FinMap as map
use Rattle.std.proofs.lemmas.List.{get_or_default}
use Rattle.iv_types.specs.Maps.{map_size}
use Rattle.iv_types.proofs.MapSizes.{size_insert}
use Rattle.table_store.specs.Lists.{Listed, map_at, unheld}
use Rattle.table_store.proofs.Counting.{counted_list, counted_few}
use Rattle.tree_maps.proofs.Holding.{HoldsIn, held_list, held_put}
use Rattle.tree_maps.proofs.tree_maps.TreeMapsSortedMaps.insert.Goals as goal

pub overflow_add-self : goal.overflow_add-self
overflow_add-self c = omega (arith, counted_few c.self.inside.trees.items c.self.inside.used c.self.invariant.counted, ap length c.as_slice.ensures, ap length c.as_slice-2.ensures, c.entry_size-size.ensures, c.requires.held.of_key, c.requires.held.of_value)

pub invariant_of-self : goal.invariant_of-self
invariant_of-self c =
    let trees = c.self.inside.trees.items in
    let index = c.args.index in
    let inside : index < length trees = omega (arith, c.self.invariant.counted.all, c.requires.held.of_index) in
    let old : c.index_mut.result.now ≡ slice_index_or trees index unheld = c.index_mut.ensures.value ∙ get_or_default _ index _ unheld inside in
    let absent : map.get (map_at trees index) c.args.key ≡ None = ap (λ (l : List Listed). map.get (map_at l index) c.args.key) c.self.view_is ∙ c.requires.absent in
    let size : map_size c.insert.new.self.map ≡ map_size (map_at trees index) + (length c.args.key + length c.args.value + 8) =
    ap map_size (c.insert.ensures.entry ∙ ap (λ (l : Listed). map.insert l.map c.args.key c.args.value) old) ∙ size_insert (map_at trees index) c.args.key c.args.value absent in
    record {
      counted = counted_list trees index c.insert.new.self c.self.inside.used (c.self.inside.used + c.entry_size-size.result) c.self.invariant.counted inside c.insert.ensures.most
          (omega (arith, size, c.entry_size-size.ensures, ap length c.as_slice.ensures, ap length c.as_slice-2.ensures));
      held = held_list trees index c.insert.new.self c.self.invariant.held inside (subst (HoldsIn index) (sym (c.insert.ensures.entry ∙ ap (λ (l : Listed). map.insert l.map c.args.key c.args.value) old)) (held_put index (map_at trees index) c.args.key (c.self.invariant.held index) c.args.value c.requires.held));
    }
