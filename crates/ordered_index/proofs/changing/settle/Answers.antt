use Rattle.std.proofs.Common.{ℕ, ◌≡◌, ◌+◌, ◌<◌, ◌≤◌, List, length, get_or, sym, ap, ◌∙◌, subst, arith}
use Rattle.slot_page.specs.Page.{entries, index_of, space}
use Rattle.ordered_index.specs.Flat.{IsForest, TightOutside, items}
use Rattle.ordered_index.specs.Row.{Row, Leaf, no_leaf, leaf_of}
use Rattle.ordered_index.proofs.EditSteps.{page_size}
use Rattle.ordered_index.proofs.Joins.{joined, items_joined, forest_joined, tight_joined}
use Rattle.ordered_index.proofs.changing.settle.Goals as goal

pub index-of-requires : goal.index-of-requires
index-of-requires c = page_size _ c.page-page.ensures.page

pub index-requires : goal.index-requires
index-requires c = page_size _ c.page-next.ensures.page

same_of : (a b : List ℕ) (l m : Leaf) (x y : ℕ) → leaf_of a ≡ l → leaf_of b ≡ m → x ≡ index_of a → y ≡ index_of b → y ≡ x → m.0 ≡ l.0
same_of a b l m x y e f p q s = sym (q ∙ ap (λ (z : Leaf). z.0) f) ∙ s ∙ p ∙ ap (λ (z : Leaf). z.0) e

room_of : (a b : List ℕ) (l m : Leaf) (x y : ℕ) → leaf_of a ≡ l → leaf_of b ≡ m → x + space (entries a) ≡ 8176 → y + space (entries b) ≡ 8176 → 8176 ≤ x + y → space l.1 + space m.1 ≤ 8176
room_of a b l m x y e f p q s =
    let u : space (entries a) ≡ space l.1 = ap (λ (z : Leaf). space z.1) e in
    let v : space (entries b) ≡ space m.1 = ap (λ (z : Leaf). space z.1) f in
    omega arith

pub returns : goal.returns
returns c =
    let ls = c.args.leaves.now.leaves in
    let k = c.args.k in
    let inside : k + 1 < length ls = omega (arith, c.len-n.ensures) in
    let same = same_of c.page-page.result.now c.page-next.result.now (get_or ls k no_leaf) (get_or ls (k + 1) no_leaf) c.index-of.result c.index.result c.page-page.ensures.leaf c.page-next.ensures.leaf c.index-of.ensures c.index.ensures (omega arith) in
    let room = room_of c.page-page.result.now c.page-next.result.now (get_or ls k no_leaf) (get_or ls (k + 1) no_leaf) c.room-left.result c.room.result c.page-page.ensures.leaf c.page-next.ensures.leaf c.room-left.ensures c.room.ensures (omega arith) in
    let now : c.join.new.leaves.leaves ≡ joined ls k = ap (λ (r : Row). r.leaves) c.join.ensures in
    let n : length (joined ls k) + 1 ≡ length ls = ap (λ x. x + 1) (Rattle.std.proofs.lemmas.List.length-set _ k _) ∙ Rattle.std.proofs.lemmas.List.Edits.length-remove ls (k + 1) inside in
    record {
      forest = subst IsForest (sym now) (forest_joined ls k c.requires.forest inside same room);
      items = ap items now ∙ items_joined ls k inside same;
      pages = ap (λ (r : Row). r.pages) c.join.ensures;
      tight = λ a le t. subst (λ (x : List Leaf). TightOutside a k x) (sym now) (tight_joined ls k a inside same le t);
    }
