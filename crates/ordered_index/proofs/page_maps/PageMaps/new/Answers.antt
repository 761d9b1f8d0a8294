use Rattle.std.proofs.Common.{ℕ, ◌≡◌, List, [], length, sym, ap, ◌∙◌, subst, arith}
use Rattle.ordered_index.specs.Tree.{map_of}
use Rattle.ordered_index.specs.Row.{Leaf}
use Rattle.std.specs.FinMap.{from_sorted, entries-from_sorted, empty, empty_of_len, len-entries}
use Rattle.slot_page.specs.Order.{key_cmp}
use Rattle.ordered_index.specs.Flat.{items, IsForest, TightOutside, AllTop, counted, of_index}
use Rattle.ordered_index.proofs.page_maps.PageMaps.new.Goals as goal

no_forest : IsForest []
no_forest = record { some = λ j lt. absurd (omega arith); fits = λ j lt. absurd (omega arith); rising = tt }

no_pairs : TightOutside 0 0 []
no_pairs = record { each = λ j o lt e. absurd (omega arith) }

nothing_made : from_sorted {X = List ℕ} {R = key_cmp} [] ≡ empty
nothing_made = empty_of_len (from_sorted []) (len-entries (from_sorted []) ∙ ap length (entries-from_sorted key_cmp [] tt))

pub invariant_of-result : goal.invariant_of-result
invariant_of-result c =
    let e : c.in_ok-leaves.leaves.leaves ≡ [] = c.in_ok-leaves.ensures.1 in
    let p : c.in_ok-leaves.leaves.pages ≡ c.args.pages = c.in_ok-leaves.ensures.0 in
    let none : counted (items c.in_ok-leaves.leaves.leaves) ≡ 0 = ap (λ (x : List Leaf). counted (items x)) e in
    record {
      forest = subst IsForest (sym e) no_forest;
      tight = subst (λ (x : List Leaf). TightOutside 0 0 x) (sym e) no_pairs;
      top = subst (λ (x : List Leaf). AllTop (items x)) (sym e) tt;
      sum = sym none;
      within = omega arith;
      least = omega (arith, c.requires.some);
      most = omega (arith, c.requires.few);
      indexes = omega (arith, c.in_ok-kept.ensures.len, c.in_ok-kept.kept.ok.0);
      buffer = omega (arith, c.in_ok-buffer.ensures.len, c.in_ok-buffer.buffer.ok.0);
    }

pub returns-clause-empty : goal.returns-clause-empty
unfolding map_of
returns-clause-empty c = λ index. ap (λ (x : List Leaf). from_sorted {R = key_cmp} (of_index index (items x))) c.in_ok-leaves.ensures.1 ∙ nothing_made
