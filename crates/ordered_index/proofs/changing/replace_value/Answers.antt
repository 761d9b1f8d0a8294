use Rattle.std.proofs.Common.{ℕ, ◌≡◌, ◌-◌, ◌<◌, List, length, get_or, set, sym, ap, ◌∙◌, subst, arith}
use Rattle.slot_page.specs.Page.{no_entry, entries}
use Rattle.slot_page.proofs.Pages.{packed_lies}
use Rattle.slot_page.specs.Order.{IsRising, StandsAt}
use Rattle.ordered_index.specs.Flat.{IsForest, IsSwapped, items, TightOutside}
use Rattle.ordered_index.specs.Row.{Row, Leaf, no_leaf, leaf_of}
use Rattle.ordered_index.proofs.Finds.{leaf_is_rising}
use Rattle.ordered_index.proofs.Takes.{there, same_key, leaf_by_page}
use Rattle.ordered_index.proofs.Swaps.{Swapped, swap_inside}
use Rattle.ordered_index.proofs.changing.replace_value.Goals as goal

pub overflow_sub-k : goal.overflow_sub-k
overflow_sub-k c = let t = there _ _ _ _ c.requires.forest c.seek-k.ensures c.requires.present in omega (arith, t.some)

pub page-page-requires : goal.page-page-requires
page-page-requires c = (there _ _ _ _ c.requires.forest c.seek-k.ensures c.requires.present).inside

pub spot-i-requires-clause-rising : goal.spot-i-requires-clause-rising
spot-i-requires-clause-rising c =
    let t = there _ _ _ _ c.requires.forest c.seek-k.ensures c.requires.present in
    subst (λ (x : Leaf). IsRising x.1) (sym c.page-page.ensures.leaf) (leaf_is_rising _ (c.seek-k.result - 1) c.requires.forest t.inside)

pub spot-i-requires-clause-present : goal.spot-i-requires-clause-present
spot-i-requires-clause-present c =
    let t = there _ _ _ _ c.requires.forest c.seek-k.ensures c.requires.present in
    (t.at, subst (λ (x : Leaf). StandsAt c.args.key.now x.1 t.at) (sym c.page-page.ensures.leaf) t.stands_at)

pub entry-requires-clause-lies : goal.entry-requires-clause-lies
entry-requires-clause-lies c = packed_lies _ _ c.page-page.ensures.page c.spot-i.ensures.inside

pub set_value-requires-clause-leaf : goal.set_value-requires-clause-leaf
set_value-requires-clause-leaf c = (there _ _ _ _ c.requires.forest c.seek-k.ensures c.requires.present).inside

pub set_value-requires-clause-inside : goal.set_value-requires-clause-inside
set_value-requires-clause-inside c = subst (λ (x : Leaf). c.spot-i.result < length x.1) c.page-page.ensures.leaf c.spot-i.ensures.inside

pub set_value-requires-clause-size : goal.set_value-requires-clause-size
set_value-requires-clause-size c =
    subst (λ (x : Leaf). length c.args.value.now ≡ length (get_or x.1 c.spot-i.result no_entry).1) c.page-page.ensures.leaf
    (sym (ap length (sym c.entry.ensures.value) ∙ omega arith))

swapped : (of : ℕ) (key value page : List ℕ) (ls : List Leaf) (j i : ℕ) → IsForest ls → j < length ls → leaf_of page ≡ get_or ls j no_leaf → (get_or ls j no_leaf).0 ≡ of → StandsAt key (entries page) i
    → length value ≡ length (get_or (entries page) i no_entry).1
    → Swapped of key value ls (set ls j ((get_or ls j no_leaf).0, set (get_or ls j no_leaf).1 i ((get_or (get_or ls j no_leaf).1 i no_entry).0, value)))
swapped of key value page ls j i f h e index s size =
    let is : get_or ls j no_leaf ≡ (of, entries page) = leaf_by_page ls j of page e index in
    let same : (get_or (entries page) i no_entry).0 ≡ key = same_key _ key s.same in
    let now : set ls j ((get_or ls j no_leaf).0, set (get_or ls j no_leaf).1 i ((get_or (get_or ls j no_leaf).1 i no_entry).0, value)) ≡ set ls j (of, set (entries page) i (key, value)) =
    ap (λ (l : Leaf). set ls j (let y : Leaf = (l.0, set l.1 i ((get_or l.1 i no_entry).0, value)) in y)) is ∙ ap (λ (k : List ℕ). set ls j (let y : Leaf = (of, set (entries page) i (k, value)) in y)) same in
    subst (λ (x : List Leaf). Swapped of key value ls x) (sym now) (swap_inside of key value ls j i (entries page) f h is s same size)

pub returns : goal.returns
returns c =
    let ls = c.args.leaves.now.leaves in
    let j = c.seek-k.result - 1 in
    let t = there _ _ _ _ c.requires.forest c.seek-k.ensures c.requires.present in
    let p = swapped c.args.of c.args.key.now c.args.value.now c.page-page.result.now ls j c.spot-i.result c.requires.forest t.inside c.page-page.ensures.leaf t.index c.spot-i.ensures (sym (ap length (sym c.entry.ensures.value) ∙ omega arith)) in
    let now = ap (λ (r : Row). r.leaves) c.set_value.ensures in
    record {
      forest = subst IsForest (sym now) p.forest;
      items = λ _. subst (λ (x : List Leaf). IsSwapped (c.args.of, c.args.key.now) c.args.value.now (items ls) (items x)) (sym now) p.items_are;
      same = λ no. absurd (cc no);
      pages = ap (λ (r : Row). r.pages) c.set_value.ensures;
      tight = λ x. subst (TightOutside 0 0) (sym now) (p.tight x);
    }
