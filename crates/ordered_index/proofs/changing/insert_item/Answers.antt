use Rattle.std.proofs.Common.{ℕ, ◌≡◌, ◌+◌, ◌-◌, ◌<◌, ◌≤◌, List, [], ◌∷◌, None, length, take, drop, get_or, set, sym, ap, ◌∙◌, subst, arith}
use Rattle.std.specs.List.{insert}
use Rattle.slot_page.specs.Page.{Entry, entries, index_of, space}
use Rattle.slot_page.specs.Order.{IsRising, StandsAt, Missing}
use Rattle.ordered_index.specs.Flat.{Item, Sought, IsForest, value_at, items, tagged, IsPut, AllBelow, Rising}
use Rattle.ordered_index.specs.Row.{Row, Leaf, no_leaf, leaf_of}
use Rattle.ordered_index.proofs.EditSteps.{page_size}
use Rattle.ordered_index.proofs.Finds.{value_in_leaf, value_found, rising_leaf, leaf_is_rising, above_rest, tagged_below}
use Rattle.ordered_index.proofs.Puts.{Put, put_new, put_inside, Halved, halved, below_upto, Landed, landed, not_first, below_other}
use Rattle.ordered_index.specs.Flat.{TightOutside}
use Rattle.ordered_index.proofs.Swaps.{tight_inside}
use Rattle.ordered_index.proofs.Loose.{tight_new, tight_cut}
use Rattle.ordered_index.proofs.changing.insert_item.Goals as goal

put_of : (of : ℕ) (key value : List ℕ) (r : Row) (s : Row) (ls : List Leaf) (pages : ℕ) → s ≡ record { pages = pages; leaves = ls } → Put of key value r.leaves ls → Put of key value r.leaves s.leaves
put_of of key value r s ls pages e p = subst (λ (x : List Leaf). Put of key value r.leaves x) (sym (ap (λ (x : Row). x.leaves) e)) p

first : (of k : ℕ) (key value : List ℕ) (ls : List Leaf) → IsForest ls → Sought (of, key) ls k → k ≡ 0 → 6 + length key + length value ≤ 8176 → Put of key value ls (insert ls k (of, (key, value) ∷ []))
first of k key value ls f s e size =
    put_new of key value ls k f s.inside size (subst (λ n. AllBelow (of, key) (items (take n ls))) (sym e) tt) (above_rest (of, key) ls k f s.after)

other : (of k : ℕ) (key value : List ℕ) (ls : List Leaf) (page : List ℕ) → IsForest ls → Sought (of, key) ls k → (k ≡ 0 → ⊥) → leaf_of page ≡ get_or ls (k - 1) no_leaf → (index_of page ≡ of → ⊥) → 6 + length key + length value ≤ 8176 → Put of key value ls (insert ls k (of, (key, value) ∷ []))
other of k key value ls page f s some e ne size =
    put_new of key value ls k f s.inside size (below_other of k key ls page f s some e ne) (above_rest (of, key) ls k f s.after)

last : (of k i : ℕ) (key value : List ℕ) (ls : List Leaf) (es : List Entry) → IsForest ls → Sought (of, key) ls k → Landed of key ls k es → Missing key es i → i ≡ length es → 6 + length key + length value ≤ 8176 → Put of key value ls (insert ls k (of, (key, value) ∷ []))
last of k i key value ls es f s h m e size =
    let j = k - 1 in
    let whole : take i es ≡ es = Rattle.std.proofs.lemmas.List.take_all i es (omega arith) in
    let here : AllBelow (of, key) (tagged (get_or ls j no_leaf).0 (get_or ls j no_leaf).1) =
    subst (λ (l : Leaf). AllBelow (of, key) (tagged l.0 l.1)) (sym h.is) (subst (λ (x : List Entry). AllBelow (of, key) (tagged of x)) whole (tagged_below of key es i m.below m.inside)) in
    put_new of key value ls k f s.inside size
    (subst (λ n. AllBelow (of, key) (items (take n ls))) h.back (below_upto (of, key) ls j h.inside h.below here))
    (above_rest (of, key) ls k f s.after)

halves : (of k i : ℕ) (key value : List ℕ) (ls : List Leaf) (es : List Entry) → IsForest ls → Landed of key ls k es → Missing key es i → (i ≡ length es → ⊥) → Halved of key ls (insert (set ls (k - 1) (of, take i es)) (k - 1 + 1) (of, drop i es)) (k - 1 + 1)
halves of k i key value ls es f h m ne =
    let some : 0 < length es = subst (λ (l : Leaf). 0 < length l.1) h.is (f.some (k - 1) h.inside) in
    halved of key ls (k - 1) i es f h.inside h.is m (not_first of key es i m some h.begins) (omega (arith, m.inside)) h.below h.above

pub returns-then-k-eq0 : goal.returns-then-k-eq0
returns-then-k-eq0 c =
    let p = put_of c.args.of c.args.key.now c.args.value.now c.args.leaves.now _ _ _ c.new_leaf.ensures (first c.args.of c.seek-k.result _ _ _ c.requires.forest c.seek-k.ensures c.if-k-eq0.true c.requires.size) in
    record { forest = p.forest; items = p.items_are; pages = ap (λ (r : Row). r.pages) c.new_leaf.ensures; loose = λ t. subst (λ (x : List Leaf). TightOutside (c.seek-k.result - 2) (c.seek-k.result + 2) x) (sym (ap (λ (r : Row). r.leaves) c.new_leaf.ensures)) (tight_new c.args.leaves.now.leaves c.seek-k.result _ c.seek-k.ensures.inside t) }

pub index-requires : goal.index-requires
index-requires c = page_size _ c.page-page.ensures.page

pub returns-then-index-of : goal.returns-then-index-of
returns-then-index-of c =
    let p = put_of c.args.of c.args.key.now c.args.value.now c.args.leaves.now _ _ _ c.new_leaf-then-index-of.ensures
    (other c.args.of c.seek-k.result _ _ _ c.page-page.result.now c.requires.forest c.seek-k.ensures c.if-k-eq0.false c.page-page.ensures.leaf (λ e. c.if-index-of.true (c.index.ensures ∙ e)) c.requires.size) in
    record { forest = p.forest; items = p.items_are; pages = ap (λ (r : Row). r.pages) c.new_leaf-then-index-of.ensures; loose = λ t. subst (λ (x : List Leaf). TightOutside (c.seek-k.result - 2) (c.seek-k.result + 2) x) (sym (ap (λ (r : Row). r.leaves) c.new_leaf-then-index-of.ensures)) (tight_new c.args.leaves.now.leaves c.seek-k.result _ c.seek-k.ensures.inside t) }

pub gap-i-requires-clause-rising : goal.gap-i-requires-clause-rising
gap-i-requires-clause-rising c =
    let k = c.seek-k.result in
    let inside : k - 1 < length c.args.leaves.now.leaves = omega (arith, c.seek-k.ensures.inside) in
    subst (λ (x : Leaf). IsRising x.1) (sym c.page-page.ensures.leaf) (leaf_is_rising _ (k - 1) c.requires.forest inside)

absent_here : (of k : ℕ) (key : List ℕ) (ls : List Leaf) (es : List Entry) → IsForest ls → Sought (of, key) ls k → (k ≡ 0 → ⊥) → Landed of key ls k es → value_at (of, key) (items ls) ≡ None → (i : ℕ) → StandsAt key es i → ⊥
absent_here of k key ls es f s some h none i at =
    let pos : 0 < k = omega arith in
    let rise : Rising (tagged of es) = subst (λ (l : Leaf). Rising (tagged l.0 l.1)) h.is (rising_leaf ls (k - 1) f h.inside) in
    let found = value_found of key es i rise at.inside at.same in
    let there : value_at (of, key) (items ls) ≡ value_at (of, key) (tagged of es) = value_in_leaf (of, key) ls k f s pos ∙ ap (λ (l : Leaf). value_at (of, key) (tagged l.0 l.1)) h.is in
    cc (found, there, none)

pub gap-i-requires-clause-absent : goal.gap-i-requires-clause-absent
gap-i-requires-clause-absent c =
    let h = landed c.args.of c.args.key.now _ c.seek-k.result c.page-page.result.now c.requires.forest c.seek-k.ensures c.if-k-eq0.false c.page-page.ensures.leaf (sym c.index.ensures ∙ omega arith) in
    absent_here c.args.of c.seek-k.result c.args.key.now _ _ c.requires.forest c.seek-k.ensures c.if-k-eq0.false h c.requires.absent

pub count-n-requires : goal.count-n-requires
count-n-requires c = page_size _ c.page-page.ensures.page

pub returns-then-key-value : goal.returns-then-key-value
returns-then-key-value c =
    let h = landed c.args.of c.args.key.now _ c.seek-k.result c.page-page.result.now c.requires.forest c.seek-k.ensures c.if-k-eq0.false c.page-page.ensures.leaf (sym c.index.ensures ∙ omega arith) in
    let es = entries c.page-page.result.now in
    let room : space es + 6 + length c.args.key.now + length c.args.value.now ≤ 8176 = omega (arith, c.room.ensures) in
    let p = put_inside c.args.of c.args.key.now c.args.value.now c.args.leaves.now.leaves (c.seek-k.result - 1) c.gap-i.result es c.requires.forest h.inside h.is c.gap-i.ensures room h.below h.above in
    let now = c.insert_at.ensures ∙ ap (λ (l : Leaf). let y : Row = record { pages = c.args.leaves.now.pages; leaves = set c.args.leaves.now.leaves (c.seek-k.result - 1) (l.0, insert l.1 c.gap-i.result (c.args.key.now, c.args.value.now)) } in y) h.is in
    let q = put_of c.args.of c.args.key.now c.args.value.now c.args.leaves.now _ _ _ now p in
    record { forest = q.forest; items = q.items_are; pages = ap (λ (r : Row). r.pages) c.insert_at.ensures; loose = λ t. subst (λ (x : List Leaf). TightOutside 0 0 x) (sym (ap (λ (r : Row). r.leaves) now)) (tight_inside c.args.of c.args.key.now c.args.value.now c.args.leaves.now.leaves (c.seek-k.result - 1) c.gap-i.result es h.inside h.is t) }

pub returns-then-i-n : goal.returns-then-i-n
returns-then-i-n c =
    let h = landed c.args.of c.args.key.now _ c.seek-k.result c.page-page.result.now c.requires.forest c.seek-k.ensures c.if-k-eq0.false c.page-page.ensures.leaf (sym c.index.ensures ∙ omega arith) in
    let p = put_of c.args.of c.args.key.now c.args.value.now c.args.leaves.now _ _ _ c.new_leaf-then-i-n.ensures
    (last c.args.of c.seek-k.result c.gap-i.result c.args.key.now c.args.value.now c.args.leaves.now.leaves (entries c.page-page.result.now) c.requires.forest c.seek-k.ensures h c.gap-i.ensures (omega (arith, c.count-n.ensures)) c.requires.size) in
    record { forest = p.forest; items = p.items_are; pages = ap (λ (r : Row). r.pages) c.new_leaf-then-i-n.ensures; loose = λ t. subst (λ (x : List Leaf). TightOutside (c.seek-k.result - 2) (c.seek-k.result + 2) x) (sym (ap (λ (r : Row). r.leaves) c.new_leaf-then-i-n.ensures)) (tight_new c.args.leaves.now.leaves c.seek-k.result _ c.seek-k.ensures.inside t) }

both : (of k i : ℕ) (key value : List ℕ) (ls now : List Leaf) (es : List Entry) → IsForest ls → Landed of key ls k es → Missing key es i → (i ≡ length es → ⊥) → 6 + length key + length value ≤ 8176
    → now ≡ insert (set ls (k - 1) (of, take i es)) (k - 1 + 1) (of, drop i es) → Put of key value ls (insert now k (of, (key, value) ∷ []))
both of k i key value ls now es f h m ne size e =
    let hv = halves of k i key value ls es f h m ne in
    let x = insert (set ls (k - 1) (of, take i es)) (k - 1 + 1) (of, drop i es) in
    let p = put_new of key value x (k - 1 + 1) hv.forest hv.inside size hv.below hv.above in
    let q : Put of key value ls (insert x (k - 1 + 1) (of, (key, value) ∷ [])) = record { forest = p.forest; items_are = subst (λ (z : List Item). IsPut (of, key) value z (items (insert x (k - 1 + 1) (of, (key, value) ∷ [])))) hv.same p.items_are } in
    let at_k : Put of key value ls (insert x k (of, (key, value) ∷ [])) = subst (λ n. Put of key value ls (insert x n (of, (key, value) ∷ []))) h.back q in
    subst (λ (y : List Leaf). Put of key value ls (insert y k (of, (key, value) ∷ []))) (sym e) at_k

pub returns : goal.returns
returns c =
    let h = landed c.args.of c.args.key.now _ c.seek-k.result c.page-page.result.now c.requires.forest c.seek-k.ensures c.if-k-eq0.false c.page-page.ensures.leaf (sym c.index.ensures ∙ omega arith) in
    let ls = c.args.leaves.now.leaves in
    let j = c.seek-k.result - 1 in
    let i = c.gap-i.result in
    let now : c.cut.new.leaves.leaves ≡ insert (set ls j (c.args.of, take i (entries c.page-page.result.now))) (j + 1) (c.args.of, drop i (entries c.page-page.result.now)) =
    ap (λ (r : Row). r.leaves) c.cut.ensures ∙ ap (λ (l : Leaf). insert (set ls j (let y : Leaf = (l.0, take i l.1) in y)) (j + 1) (let y : Leaf = (l.0, drop i l.1) in y)) h.is in
    let p = put_of c.args.of c.args.key.now c.args.value.now c.args.leaves.now _ _ _ c.new_leaf-2.ensures
    (both c.args.of c.seek-k.result i c.args.key.now c.args.value.now ls c.cut.new.leaves.leaves (entries c.page-page.result.now) c.requires.forest h c.gap-i.ensures (λ e. c.if-i-n.false (e ∙ sym c.count-n.ensures)) c.requires.size now) in
    record { forest = p.forest; items = p.items_are; pages = ap (λ (r : Row). r.pages) c.new_leaf-2.ensures ∙ ap (λ (r : Row). r.pages) c.cut.ensures; loose = λ t. subst (λ (x : List Leaf). TightOutside (c.seek-k.result - 2) (c.seek-k.result + 2) x) (sym (ap (λ (r : Row). r.leaves) c.new_leaf-2.ensures)) (subst (λ (y : List Leaf). TightOutside (c.seek-k.result - 2) (c.seek-k.result + 2) (insert y c.seek-k.result (c.args.of, (c.args.key.now, c.args.value.now) ∷ []))) (sym (ap (λ (r : Row). r.leaves) c.cut.ensures)) (tight_cut c.args.leaves.now.leaves c.seek-k.result _ _ _ c.seek-k.ensures.inside c.if-k-eq0.false t)) }
