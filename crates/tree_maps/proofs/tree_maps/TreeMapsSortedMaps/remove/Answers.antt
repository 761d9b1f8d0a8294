use Rattle.std.proofs.Common.{rules, arith, ◌≡◌, ◌+◌, ◌-◌, ◌≤◌, Some, ◌∙◌, ap, subst, sym, List, length, ◌<◌, IsSome, slice_index_or}
use Rattle.std.specs.FinMap as map
use Rattle.std.proofs.lemmas.List.{get_or_default, get_or-set_same}
use Rattle.iv_types.specs.Maps.{Map, map_size}
use Rattle.iv_types.proofs.MapSizes.{size_remove}
use Rattle.table_store.specs.Lists.{Listed, map_at, unheld}
use Rattle.table_store.proofs.Counting.{counted_list, counted_least}
use Rattle.table_store.proofs.Maps.{held_within}
use Rattle.tree_maps.proofs.Holding.{HoldsIn, held_list, held_left}
use Rattle.tree_maps.proofs.tree_maps.TreeMapsSortedMaps.remove.Goals as goal

pub index_mut-requires : goal.index_mut-requires
index_mut-requires c =
    let within = held_within c.args.self.now c.args.index c.args.key.now c.requires in
    let same = ap length c.self.view_is in
    search rules

pub remove-was-requires : goal.remove-was-requires
remove-was-requires c =
    let index = c.args.index in
    let key = c.args.key.now in
    let within = held_within c.args.self.now index key c.requires in
    let inside : index < length c.self.inside.trees.items = omega (arith, within, ap length c.self.view_is) in
    let old : c.index_mut.result.now ≡ slice_index_or c.args.self.now index unheld =
    c.index_mut.ensures.value ∙ (get_or_default _ index _ unheld inside ∙ ap (λ (trees : List Listed). slice_index_or trees index unheld) c.self.view_is) in
    subst (λ (l : Listed). IsSome (map.get l.map key)) (sym old) c.requires

pub returns-clause-entry : goal.returns-clause-entry
returns-clause-entry c =
    let index = c.args.index in
    let key = c.args.key.now in
    let within = held_within c.args.self.now index key c.requires in
    let inside : index < length c.self.inside.trees.items = omega (arith, within, ap length c.self.view_is) in
    let old : c.index_mut.result.now ≡ slice_index_or c.args.self.now index unheld =
    c.index_mut.ensures.value ∙ (get_or_default _ index _ unheld inside ∙ ap (λ (trees : List Listed). slice_index_or trees index unheld) c.self.view_is) in
    ap (λ (l : Listed). l.map) (get_or-set_same _ index _ unheld inside) ∙ (c.remove-was.ensures.entry ∙ ap (λ (l : Listed). map.remove l.map key) old)

pub returns-clause-spare : goal.returns-clause-spare
returns-clause-spare c =
    let index = c.args.index in
    let key = c.args.key.now in
    let within = held_within c.args.self.now index key c.requires in
    let inside : index < length c.self.inside.trees.items = omega (arith, within, ap length c.self.view_is) in
    let old : c.index_mut.result.now ≡ slice_index_or c.args.self.now index unheld =
    c.index_mut.ensures.value ∙ (get_or_default _ index _ unheld inside ∙ ap (λ (trees : List Listed). slice_index_or trees index unheld) c.self.view_is) in
    let new = c.remove-was.new.self in
    let spare = subst (λ (l : Listed). l.spare + 1 ≤ new.spare) old c.remove-was.ensures.spare in
    subst (λ (l : Listed). (slice_index_or c.args.self.now index unheld).spare + 1 ≤ l.spare) (sym (get_or-set_same _ index _ unheld inside)) spare

pub overflow_sub-self : goal.overflow_sub-self
overflow_sub-self c =
    let trees = c.self.inside.trees.items in
    let index = c.args.index in
    let key = c.args.key.now in
    let was = c.remove-was.result in
    let within = held_within c.args.self.now index key c.requires in
    let inside : index < length trees = omega (arith, within, ap length c.self.view_is) in
    let old : c.index_mut.result.now ≡ slice_index_or trees index unheld = c.index_mut.ensures.value ∙ get_or_default _ index _ unheld inside in
    let some : map.get (map_at trees index) key ≡ Some was = ap (λ (l : Listed). map.get l.map key) (sym old) ∙ c.remove-was.ensures.was in
    omega (arith, size_remove (map_at trees index) key was some, counted_least trees c.self.inside.used index c.self.invariant.counted inside, c.entry_size.ensures, ap length c.as_slice.ensures, ap length c.was.view_is)

pub invariant_of-self : goal.invariant_of-self
invariant_of-self c =
    let trees = c.self.inside.trees.items in
    let index = c.args.index in
    let key = c.args.key.now in
    let was = c.remove-was.result in
    let within = held_within c.args.self.now index key c.requires in
    let inside : index < length trees = omega (arith, within, ap length c.self.view_is) in
    let old : c.index_mut.result.now ≡ slice_index_or trees index unheld = c.index_mut.ensures.value ∙ get_or_default _ index _ unheld inside in
    let some : map.get (map_at trees index) key ≡ Some was = ap (λ (l : Listed). map.get l.map key) (sym old) ∙ c.remove-was.ensures.was in
    let size : map_size c.remove-was.new.self.map + (length key + length was + 8) ≡ map_size (map_at trees index) =
    ap (λ (m : Map). map_size m + (length key + length was + 8)) (c.remove-was.ensures.entry ∙ ap (λ (l : Listed). map.remove l.map key) old)
    ∙ size_remove (map_at trees index) key was some in
    record {
      counted = counted_list trees index c.remove-was.new.self c.self.inside.used (c.self.inside.used - c.entry_size.result) c.self.invariant.counted inside c.remove-was.ensures.most
          (omega (arith, size, c.entry_size.ensures, ap length c.as_slice.ensures, ap length c.was.view_is, counted_least trees c.self.inside.used index c.self.invariant.counted inside));
      held = held_list trees index c.remove-was.new.self c.self.invariant.held inside (subst (HoldsIn index) (sym (c.remove-was.ensures.entry ∙ ap (λ (l : Listed). map.remove l.map key) old)) (held_left index (map_at trees index) key (c.self.invariant.held index)));
    }
