use Rattle.std.proofs.Common.{ℕ, ◌≡◌, ◌≤◌, IsSome, length, sym, ap, ◌∙◌, subst, arith}
use Rattle.std.proofs.lemmas.List.{with_items_is}
use Rattle.std.specs.FinMap as map
use Rattle.ordered_index.specs.Flat.{counted, items}
use Rattle.ordered_index.specs.Tree.{Tree, map_of, data_limit}
use Rattle.ordered_index.proofs.Maps.{get_of, counted_more, top_less}
use Rattle.ordered_index.proofs.page_maps.PageMaps.take.Goals as goal

pub remove_and_settle-bytes-requires-clause-present : goal.remove_and_settle-bytes-requires-clause-present
unfolding map_of
remove_and_settle-bytes-requires-clause-present c =
    let back : map.get (map_of c.args.self.now c.args.index) c.args.key.now ≡ _ = sym (ap (λ (t : Tree). map.get (map_of t c.args.index) c.args.key.now) c.self.view_is) ∙ get_of c.args.index c.args.key.now (items c.self.inside.leaves.leaves) c.self.invariant.forest.rising in
    subst IsSome back c.requires

pub overflow_add-self : goal.overflow_add-self
overflow_add-self c =
    let v = c.self.invariant in
    let i = c.remove_and_settle-bytes.ensures.items in
    let more = counted_more (c.args.index, c.args.key.now) i.0 _ _ i.2 in
    omega (arith, v.within, v.most, i.1)

pub overflow_add-self-2 : goal.overflow_add-self-2
overflow_add-self-2 c =
    let v = c.self.invariant in
    let i = c.remove_and_settle-bytes.ensures.items in
    let more = counted_more (c.args.index, c.args.key.now) i.0 _ _ i.2 in
    omega (arith, v.within, v.most, i.1)

pub overflow_sub-self : goal.overflow_sub-self
overflow_sub-self c =
    let v = c.self.invariant in
    let i = c.remove_and_settle-bytes.ensures.items in
    let more = counted_more (c.args.index, c.args.key.now) i.0 _ _ i.2 in
    omega (arith, v.sum, i.1)

pub invariant_of-self : goal.invariant_of-self
invariant_of-self c =
    let a = c.self.inside in
    let v = c.self.invariant in
    let e = c.remove_and_settle-bytes.ensures in
    let n : length c.remove_and_settle-bytes.new.buffer ≡ a.buffer.len = omega (arith, a.buffer.ok.0, c.deref_mut.ensures.len) in
    let b = with_items_is a.buffer c.remove_and_settle-bytes.new.buffer n in
    let i = e.items in
    let more = counted_more (c.args.index, c.args.key.now) i.0 _ _ i.2 in
    record {
      forest = e.forest;
      tight = e.tight;
      top = top_less (c.args.index, c.args.key.now) i.0 _ _ i.2 v.top;
      sum = omega (arith, v.sum, i.1);
      within = subst (λ (p : ℕ). counted (items c.remove_and_settle-bytes.new.leaves.leaves) ≤ data_limit p) (sym e.pages) (omega (arith, more, v.within));
      least = omega (arith, v.least, e.pages);
      most = omega (arith, v.most, e.pages);
      indexes = v.indexes;
      buffer = ap length b ∙ omega (arith, n, a.buffer.ok.0, v.buffer);
    }

pub returns-clause-is : goal.returns-clause-is
returns-clause-is c =
    let v = c.self.invariant in
    let e = c.remove_and_settle-bytes.ensures in
    let i = e.items in
    let more = counted_more (c.args.index, c.args.key.now) i.0 _ _ i.2 in
    record {
      rising = e.forest.rising;
      top = top_less (c.args.index, c.args.key.now) i.0 _ _ i.2 v.top;
      within = subst (λ (p : ℕ). counted (items c.remove_and_settle-bytes.new.leaves.leaves) ≤ data_limit p) (sym e.pages) (omega (arith, more, v.within));
    }
