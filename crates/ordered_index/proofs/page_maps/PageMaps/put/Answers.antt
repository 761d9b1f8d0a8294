use Rattle.std.proofs.Common.{ℕ, ◌≡◌, ◌+◌, ◌≤◌, List, None, length, sym, ap, ◌∙◌, subst, arith}
use Rattle.std.proofs.lemmas.List.{with_items_is}
use Rattle.std.specs.FinMap as map
use Rattle.iv_types.specs.Maps.{used, with_map}
use Rattle.ordered_index.specs.Flat.{counted, items}
use Rattle.ordered_index.specs.Tree.{Tree, IsTree, map_of, data_limit}
use Rattle.ordered_index.specs.Good.{tree_of, IsGood}
use Rattle.ordered_index.specs.declared.page_maps.PageMaps.TheInside.{Inside}
use Rattle.ordered_index.proofs.Flats.{pages_free}
use Rattle.ordered_index.proofs.Maps.{room_for, get_of, counted_more, top_more}
use Rattle.ordered_index.proofs.page_maps.PageMaps.put.Goals as goal

is_tree : (a : Inside) → IsGood a → IsTree (tree_of a)
is_tree a v = record { rising = v.forest.rising; top = v.top; within = v.within }

fits : (a : Inside) (t : Tree) (i : ℕ) (k w : List ℕ) → IsGood a → tree_of a ≡ t → i ≤ 192 → map.get (map_of t i) k ≡ None → used (with_map (map_of t) i (map.insert (map_of t i) k w)) ≤ data_limit t.pages → counted (items a.leaves.leaves) + (length k + length w + 8) ≤ data_limit a.leaves.pages
fits a t i k w v is le none within =
    room_for (tree_of a) i k w (is_tree a v) le (subst (λ (x : Tree). map.get (map_of x i) k ≡ None) (sym is) none) (subst (λ (x : Tree). used (with_map (map_of x) i (map.insert (map_of x i) k w)) ≤ data_limit x.pages) (sym is) within)

pub insert_and_settle-requires-clause-absent : goal.insert_and_settle-requires-clause-absent
unfolding map_of
insert_and_settle-requires-clause-absent c =
    sym (get_of c.args.index c.args.key.now (items c.self.inside.leaves.leaves) c.self.invariant.forest.rising) ∙ ap (λ (t : Tree). map.get (map_of t c.args.index) c.args.key.now) c.self.view_is ∙ c.requires.absent

pub insert_and_settle-requires-clause-pages : goal.insert_and_settle-requires-clause-pages
insert_and_settle-requires-clause-pages c =
    let a = c.self.inside in
    let v = c.self.invariant in
    let free = pages_free a.leaves.leaves a.leaves.pages v.forest v.tight v.top v.least v.within in
    omega arith

pub insert_and_settle-requires-clause-size : goal.insert_and_settle-requires-clause-size
insert_and_settle-requires-clause-size c = omega (arith, c.requires.held.of_key, c.requires.held.of_value)

pub overflow_add-self : goal.overflow_add-self
overflow_add-self c =
    let v = c.self.invariant in
    let f = fits c.self.inside c.args.self.now c.args.index c.args.key.now c.args.value.now v c.self.view_is c.requires.held.of_index c.requires.absent c.requires.within in
    omega (arith, v.sum, v.most)

pub invariant_of-self : goal.invariant_of-self
invariant_of-self c =
    let a = c.self.inside in
    let v = c.self.invariant in
    let e = c.insert_and_settle.ensures in
    let n : length c.insert_and_settle.new.buffer ≡ a.buffer.len = omega (arith, a.buffer.ok.0, c.deref_mut.ensures.len) in
    let b = with_items_is a.buffer c.insert_and_settle.new.buffer n in
    let more = counted_more (c.args.index, c.args.key.now) c.args.value.now _ _ e.items in
    let f = fits a c.args.self.now c.args.index c.args.key.now c.args.value.now v c.self.view_is c.requires.held.of_index c.requires.absent c.requires.within in
    record {
      forest = e.forest;
      tight = e.tight;
      top = top_more (c.args.index, c.args.key.now) c.args.value.now _ _ e.items c.requires.held.of_index v.top;
      sum = omega (arith, v.sum, more);
      within = subst (λ (p : ℕ). counted (items c.insert_and_settle.new.leaves.leaves) ≤ data_limit p) (sym e.pages) (omega (arith, more, f));
      least = omega (arith, v.least, e.pages);
      most = omega (arith, v.most, e.pages);
      indexes = v.indexes;
      buffer = ap length b ∙ omega (arith, n, a.buffer.ok.0, v.buffer);
    }

pub returns-clause-is : goal.returns-clause-is
returns-clause-is c =
    let a = c.self.inside in
    let v = c.self.invariant in
    let e = c.insert_and_settle.ensures in
    let more = counted_more (c.args.index, c.args.key.now) c.args.value.now _ _ e.items in
    let f = fits a c.args.self.now c.args.index c.args.key.now c.args.value.now v c.self.view_is c.requires.held.of_index c.requires.absent c.requires.within in
    record {
      rising = e.forest.rising;
      top = top_more (c.args.index, c.args.key.now) c.args.value.now _ _ e.items c.requires.held.of_index v.top;
      within = subst (λ (p : ℕ). counted (items c.insert_and_settle.new.leaves.leaves) ≤ data_limit p) (sym e.pages) (omega (arith, more, f));
    }
