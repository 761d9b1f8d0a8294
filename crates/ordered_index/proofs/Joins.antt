-- What a join leaves.
use Rattle.std.proofs.Common.{ℕ, suc, ◌≡◌, ◌≢◌, ◌+◌, ◌<◌, ◌≤◌, ◌⊎◌, inl, inr, List, ◌++◌, length, take, drop, get_or, set, sym, ap, ◌∙◌, subst, arith, append_assoc, add-one, length-append}
use Rattle.std.specs.List.{remove}
use Rattle.std.proofs.lemmas.List.{drop_more, take-append-le, take-take, drop_at, length-take-le, length-set, get_or-set_same, get_or-set_other}
use Rattle.std.proofs.lemmas.List.Edits.{length-remove, get_or-remove_below, get_or-remove_above}
use Rattle.std.proofs.lemmas.Bool.{cases_lt, cases_eq}
use Rattle.slot_page.specs.Page.{space}
use Rattle.slot_page.proofs.Pages.{space-append}
use Rattle.ordered_index.specs.Row.{Leaf, no_leaf}
use Rattle.ordered_index.specs.Flat.{Rising, tagged, items, IsForest, TightOutside}
use Rattle.ordered_index.proofs.Flats.{items_around, tagged-append}
use Rattle.ordered_index.proofs.Puts.{all_set, items_set}

front_removed : (ls : List Leaf) (k : ℕ) → k + 1 < length ls → take k (remove ls (k + 1)) ≡ take k ls
front_removed ls k h = take-append-le k (take (k + 1) ls) (drop (suc (k + 1)) ls) (omega (arith, length-take-le (k + 1) ls (omega arith))) ∙ take-take k (k + 1) ls (omega arith)

back_removed : (ls : List Leaf) (k : ℕ) → k + 1 < length ls → drop (k + 1) (remove ls (k + 1)) ≡ drop (k + 1 + 1) ls
back_removed ls k h = drop_at (take (k + 1) ls) (drop (suc (k + 1)) ls) (k + 1) (length-take-le (k + 1) ls (omega arith)) ∙ ap (λ n. drop n ls) (sym (add-one (k + 1)))

all_removed : (P : Leaf → Type 0) (ls : List Leaf) (k j : ℕ) → k < length ls → ((i : ℕ) → i < length ls → P (get_or ls i no_leaf)) → j < length (remove ls k) → (j < k) ⊎ (k ≤ j) → P (get_or (remove ls k) j no_leaf)
all_removed P ls k j h f lt (inl low) = subst P (sym (get_or-remove_below ls k no_leaf j low h)) (f j (omega arith))
all_removed P ls k j h f lt (inr high) = subst P (sym (get_or-remove_above ls k no_leaf j high h)) (f (j + 1) (omega (arith, length-remove ls k h)))

pub all_remove : (P : Leaf → Type 0) (ls : List Leaf) (k : ℕ) → k < length ls → ((i : ℕ) → i < length ls → P (get_or ls i no_leaf)) → (j : ℕ) → j < length (remove ls k) → P (get_or (remove ls k) j no_leaf)
all_remove P ls k h f j lt = all_removed P ls k j h f lt (cases_lt j k)

-- leaf k and the next one as one
abbrev pub joined : List Leaf → ℕ → List Leaf
joined ls k = set (remove ls (k + 1)) k ((get_or ls k no_leaf).0, (get_or ls k no_leaf).1 ++ (get_or ls (k + 1) no_leaf).1)

pub items_joined : (ls : List Leaf) (k : ℕ) → k + 1 < length ls → (get_or ls (k + 1) no_leaf).0 ≡ (get_or ls k no_leaf).0 → items (joined ls k) ≡ items ls
items_joined ls k h same =
    let l = get_or ls k no_leaf in
    let m = get_or ls (k + 1) no_leaf in
    let new : Leaf = (l.0, l.1 ++ m.1) in
    let gone = remove ls (k + 1) in
    let n = length-remove ls (k + 1) h in
    let rest = items (drop (k + 1 + 1) ls) in
    let next : items (drop (k + 1) ls) ≡ tagged m.0 m.1 ++ rest = ap items (drop_more ls (k + 1) no_leaf h) in
    items_set gone k new (omega arith)
    ∙ ap (λ z. items z ++ (tagged l.0 (l.1 ++ m.1) ++ items (drop (k + 1) gone))) (front_removed ls k h)
    ∙ ap (λ z. items (take k ls) ++ (tagged l.0 (l.1 ++ m.1) ++ items z)) (back_removed ls k h)
    ∙ ap (λ z. items (take k ls) ++ (z ++ rest)) (tagged-append l.0 l.1 m.1)
    ∙ ap (λ z. items (take k ls) ++ z) (append_assoc (tagged l.0 l.1) (tagged l.0 m.1) rest)
    ∙ ap (λ (i : ℕ). items (take k ls) ++ (tagged l.0 l.1 ++ (tagged i m.1 ++ rest))) (sym same)
    ∙ ap (λ z. items (take k ls) ++ (tagged l.0 l.1 ++ z)) (sym next)
    ∙ sym (items_around ls k (omega arith))

pub forest_joined : (ls : List Leaf) (k : ℕ) → IsForest ls → k + 1 < length ls → (get_or ls (k + 1) no_leaf).0 ≡ (get_or ls k no_leaf).0 → space (get_or ls k no_leaf).1 + space (get_or ls (k + 1) no_leaf).1 ≤ 8176 → IsForest (joined ls k)
forest_joined ls k f h same room =
    let l = get_or ls k no_leaf in
    let m = get_or ls (k + 1) no_leaf in
    let new : Leaf = (l.0, l.1 ++ m.1) in
    record {
      some = all_set (λ (x : Leaf). 0 < length x.1) (remove ls (k + 1)) k new (all_remove (λ (x : Leaf). 0 < length x.1) ls (k + 1) h f.some) (omega (arith, length-append l.1 m.1, f.some k (omega arith)));
      fits = all_set (λ (x : Leaf). space x.1 ≤ 8176) (remove ls (k + 1)) k new (all_remove (λ (x : Leaf). space x.1 ≤ 8176) ls (k + 1) h f.fits) (omega (arith, space-append l.1 m.1));
      rising = subst Rising (sym (items_joined ls k h same)) f.rising;
    }

-- a leaf of the joined list
leaf_low : (ls : List Leaf) (k j : ℕ) → k + 1 < length ls → j < k → get_or (joined ls k) j no_leaf ≡ get_or ls j no_leaf
leaf_low ls k j h lt =
    let ne : j ≢ k = omega arith in
    get_or-set_other (remove ls (k + 1)) k j _ no_leaf ne ∙ get_or-remove_below ls (k + 1) no_leaf j (omega arith) h

leaf_here : (ls : List Leaf) (k : ℕ) → k + 1 < length ls → get_or (joined ls k) k no_leaf ≡ ((get_or ls k no_leaf).0, (get_or ls k no_leaf).1 ++ (get_or ls (k + 1) no_leaf).1)
leaf_here ls k h = get_or-set_same (remove ls (k + 1)) k _ no_leaf (omega (arith, length-remove ls (k + 1) h))

leaf_high : (ls : List Leaf) (k j : ℕ) → k + 1 < length ls → k < j → get_or (joined ls k) j no_leaf ≡ get_or ls (j + 1) no_leaf
leaf_high ls k j h lt =
    let ne : j ≢ k = omega arith in
    get_or-set_other (remove ls (k + 1)) k j _ no_leaf ne ∙ get_or-remove_above ls (k + 1) no_leaf j (omega arith) h

abbrev Pair : Leaf → Leaf → Type 0
Pair l m = l.0 ≡ m.0 → 8176 < space l.1 + space m.1

pair_along : (l m a b : Leaf) → l ≡ a → m ≡ b → Pair a b → Pair l m
pair_along l m a b e f p = subst (λ x. Pair x m) (sym e) (subst (λ x. Pair a x) (sym f) p)

tight_at : (ls : List Leaf) (k a j : ℕ) → k + 1 < length ls → (get_or ls (k + 1) no_leaf).0 ≡ (get_or ls k no_leaf).0 → a ≤ k → TightOutside a (k + 1) ls → (j < a) ⊎ (k ≤ j) → j + 1 < length (joined ls k) → (j < k) ⊎ (k ≤ j) → (j ≡ k) ⊎ (j ≢ k) → (j + 1 ≡ k) ⊎ (j + 1 ≢ k)
    → Pair (get_or (joined ls k) j no_leaf) (get_or (joined ls k) (j + 1) no_leaf)
tight_at ls k a j h same le t (inr out) lt (inl low) q s = absurd (omega arith)
tight_at ls k a j h same le t (inl out) lt (inl low) q (inl e) =
    let l = get_or ls k no_leaf in
    let m = get_or ls (k + 1) no_leaf in
    let old : Pair (get_or ls j no_leaf) l = subst (λ x. Pair (get_or ls j no_leaf) (get_or ls x no_leaf)) e (t.each j (inl out) (omega arith)) in
    let here : get_or (joined ls k) (j + 1) no_leaf ≡ (l.0, l.1 ++ m.1) = ap (λ x. get_or (joined ls k) x no_leaf) e ∙ leaf_here ls k h in
    pair_along _ _ (get_or ls j no_leaf) (l.0, l.1 ++ m.1) (leaf_low ls k j h low) here (λ i. let o = old i in omega (arith, space-append l.1 m.1))
tight_at ls k a j h same le t (inl out) lt (inl low) q (inr ne) =
    pair_along _ _ (get_or ls j no_leaf) (get_or ls (j + 1) no_leaf) (leaf_low ls k j h low) (leaf_low ls k (j + 1) h (omega arith)) (t.each j (inl out) (omega arith))
tight_at ls k a j h same le t o lt (inr high) (inl e) s =
    let l = get_or ls k no_leaf in
    let m = get_or ls (k + 1) no_leaf in
    let n = get_or ls (k + 1 + 1) no_leaf in
    let size : length (joined ls k) + 1 ≡ length ls = ap (λ x. x + 1) (length-set (remove ls (k + 1)) k (l.0, l.1 ++ m.1)) ∙ length-remove ls (k + 1) h in
    let old : Pair m n = t.each (k + 1) (inr (omega arith)) (omega arith) in
    let here : get_or (joined ls k) j no_leaf ≡ (l.0, l.1 ++ m.1) = ap (λ x. get_or (joined ls k) x no_leaf) e ∙ leaf_here ls k h in
    let next : get_or (joined ls k) (j + 1) no_leaf ≡ n = ap (λ x. get_or (joined ls k) (x + 1) no_leaf) e ∙ leaf_high ls k (k + 1) h (omega arith) in
    pair_along _ _ (l.0, l.1 ++ m.1) n here next (λ i. let o = old (same ∙ i) in omega (arith, space-append l.1 m.1))
tight_at ls k a j h same le t o lt (inr high) (inr ne) s =
    let l = get_or ls k no_leaf in
    let m = get_or ls (k + 1) no_leaf in
    let size : length (joined ls k) + 1 ≡ length ls = ap (λ x. x + 1) (length-set (remove ls (k + 1)) k (l.0, l.1 ++ m.1)) ∙ length-remove ls (k + 1) h in
    pair_along _ _ (get_or ls (j + 1) no_leaf) (get_or ls (j + 1 + 1) no_leaf) (leaf_high ls k j h (omega arith)) (leaf_high ls k (j + 1) h (omega arith)) (t.each (j + 1) (inr (omega arith)) (omega arith))

-- a join leaves one loose pair less
pub tight_joined : (ls : List Leaf) (k a : ℕ) → k + 1 < length ls → (get_or ls (k + 1) no_leaf).0 ≡ (get_or ls k no_leaf).0 → a ≤ k → TightOutside a (k + 1) ls → TightOutside a k (joined ls k)
tight_joined ls k a h same le t = record { each = λ j out lt. tight_at ls k a j h same le t out lt (cases_lt j k) (cases_eq j k) (cases_eq (j + 1) k) }

tight_more : (ls : List Leaf) (k a j : ℕ) → TightOutside a (k + 1) ls → (k + 1 < length ls → Pair (get_or ls k no_leaf) (get_or ls (k + 1) no_leaf)) → (j < a) ⊎ (k ≤ j) → j + 1 < length ls → (j ≡ k) ⊎ (j ≢ k) → Pair (get_or ls j no_leaf) (get_or ls (j + 1) no_leaf)
tight_more ls k a j t p o lt (inl e) = subst (λ x. Pair (get_or ls x no_leaf) (get_or ls (x + 1) no_leaf)) (sym e) (p (subst (λ x. x + 1 < length ls) e lt))
tight_more ls k a j t p (inl out) lt (inr ne) = t.each j (inl out) lt
tight_more ls k a j t p (inr out) lt (inr ne) = t.each j (inr (omega arith)) lt

-- a pair that stays is tight
pub tight_stays : (ls : List Leaf) (k a : ℕ) → TightOutside a (k + 1) ls → (k + 1 < length ls → (get_or ls k no_leaf).0 ≡ (get_or ls (k + 1) no_leaf).0 → 8176 < space (get_or ls k no_leaf).1 + space (get_or ls (k + 1) no_leaf).1) → TightOutside a k ls
tight_stays ls k a t p = record { each = λ j out lt. tight_more ls k a j t p out lt (cases_eq j k) }
