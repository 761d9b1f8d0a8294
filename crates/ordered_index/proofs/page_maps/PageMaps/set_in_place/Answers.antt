use Rattle.std.proofs.Common.{ℕ, ◌≡◌, ◌≤◌, Bool, true, false, IsSome, List, refl, sym, ap, ◌∙◌, subst, arith}
use Rattle.std.specs.FinMap as map
use Rattle.ordered_index.specs.Row.{Row}
use Rattle.ordered_index.specs.Flat.{Place, Item, IsSwapped, AllTop, counted, items}
use Rattle.ordered_index.specs.Tree.{Tree, map_of, data_limit}
use Rattle.ordered_index.proofs.Maps.{get_of, top_swapped, counted_swapped}
use Rattle.ordered_index.proofs.page_maps.PageMaps.set_in_place.Goals as goal

pub replace_value-requires-clause-present : goal.replace_value-requires-clause-present
unfolding map_of
replace_value-requires-clause-present c =
    let back : map.get (map_of c.args.self.now c.args.index) c.args.key.now ≡ _ = sym (ap (λ (t : Tree). map.get (map_of t c.args.index) c.args.key.now) c.self.view_is) ∙ get_of c.args.index c.args.key.now (items c.self.inside.leaves.leaves) c.self.invariant.forest.rising in
    subst IsSome back c.requires

-- whether the value was set or not, the entries are of indexes that there are, and count as before
record Stays (old new : List Item) : Type 0 where
  top : AllTop new
  counts : counted new ≡ counted old

stays_by : (q : Place) (v : List ℕ) (old new : Row) (b : Bool) → (b ≡ true → IsSwapped q v (items old.leaves) (items new.leaves)) → (b ≡ false → new ≡ old) → AllTop (items old.leaves) → Stays (items old.leaves) (items new.leaves)
stays_by q v old new true f g t = record { top = top_swapped q v _ _ (f refl) t; counts = counted_swapped q v _ _ (f refl) }
stays_by q v old new false f g t =
    let e = ap (λ (r : Row). items r.leaves) (g refl) in
    record { top = subst AllTop (sym e) t; counts = ap counted e }

pub invariant_of-self : goal.invariant_of-self
invariant_of-self c =
    let v = c.self.invariant in
    let e = c.replace_value.ensures in
    let s = stays_by (c.args.index, c.args.key.now) c.args.value.now c.self.inside.leaves c.replace_value.new.leaves c.replace_value.result e.items e.same v.top in
    record {
      forest = e.forest;
      tight = e.tight v.tight;
      top = s.top;
      sum = omega (arith, v.sum, s.counts);
      within = subst (λ (p : ℕ). counted (items c.replace_value.new.leaves.leaves) ≤ data_limit p) (sym e.pages) (omega (arith, s.counts, v.within));
      least = omega (arith, v.least, e.pages);
      most = omega (arith, v.most, e.pages);
      indexes = v.indexes;
      buffer = v.buffer;
    }

pub returns-clause-is : goal.returns-clause-is
returns-clause-is c =
    let v = c.self.invariant in
    let e = c.replace_value.ensures in
    let s = stays_by (c.args.index, c.args.key.now) c.args.value.now c.self.inside.leaves c.replace_value.new.leaves c.replace_value.result e.items e.same v.top in
    record {
      rising = e.forest.rising;
      top = s.top;
      within = subst (λ (p : ℕ). counted (items c.replace_value.new.leaves.leaves) ≤ data_limit p) (sym e.pages) (omega (arith, s.counts, v.within));
    }
