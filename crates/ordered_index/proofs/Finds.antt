-- What a search over leaves finds.
use Rattle.std.proofs.Common.{ℕ, suc, zero, ◌≡◌, ◌+◌, ◌-◌, ◌<◌, ◌≤◌, ◌⊎◌, inl, inr, cond, Some, None, List, [], ◌∷◌, ◌++◌, length, take, drop, get_or, refl, sym, ap, ◌∙◌, subst, arith}
use Rattle.std.specs.declared.cmp.Ordering.TheVariants.{Less, Equal, Greater}
use Rattle.std.specs.Ordering.{nat_cmp, ordering_then, ordering_reverse}
use Rattle.std.proofs.lemmas.Cmp.{nat_cmp_total, tied_itself, alike_right}
use Rattle.std.proofs.lemmas.List.{take-append-drop, drop_more, drop_all}
use Rattle.std.proofs.lemmas.Bool.{cases_lt, lt-ltb}
use Rattle.slot_page.specs.Page.{Entry, no_entry}
use Rattle.slot_page.specs.Order.{key_cmp, key_at, IsRising, Missing}
use Rattle.ordered_index.specs.Row.{Leaf, no_leaf}
use Rattle.ordered_index.specs.Flat.{Place, Item, place_cmp, AllAbove, AllBelow, Rising, value_at, tagged, items, start, Sought, IsForest}
use Rattle.ordered_index.proofs.Flats.{total, less_back, above_trans, below_head, below_trans, rising_back, rising_front, value_past, value_below, tagged-append, items-append, items_around, tagged_start}

pub greater_back : (p q : Place) → place_cmp p q ≡ Greater → place_cmp q p ≡ Less
greater_back p q h = total.antisymm q p ∙ ap ordering_reverse h

-- within one index the keys decide
pub same_index : (i : ℕ) (a b : List ℕ) → place_cmp (i, a) (i, b) ≡ key_cmp a b
same_index i a b = ap (λ o. ordering_then o (key_cmp a b)) (tied_itself nat_cmp_total i)

pub lower_index : (i j : ℕ) (a b : List ℕ) → i < j → place_cmp (i, a) (j, b) ≡ Less
lower_index i j a b h = let e : nat_cmp i j ≡ Less = rw (lt-ltb i j h) refl in ap (λ o. ordering_then o (key_cmp a b)) e

pub higher_index : (i j : ℕ) (a b : List ℕ) → j < i → place_cmp (i, a) (j, b) ≡ Greater
higher_index i j a b h = less_back (j, b) (i, a) (lower_index j i b a h)

pub at_most_index : (i j : ℕ) (a b : List ℕ) → (place_cmp (i, a) (j, b) ≡ Less) ⊎ (place_cmp (i, a) (j, b) ≡ Equal) → i ≤ j
at_most_index i j a b (inl h) = elim (cases_lt j i) [ inl more ↦ let g = higher_index i j a b more in absurd (cc (g, h)) | inr le ↦ le ]
at_most_index i j a b (inr h) = elim (cases_lt j i) [ inl more ↦ let g = higher_index i j a b more in absurd (cc (g, h)) | inr le ↦ le ]

pub all_lower : (i j : ℕ) (key : List ℕ) (es : List Entry) → i < j → AllBelow (j, key) (tagged i es)
all_lower i j key [] h = tt
all_lower i j key (e ∷ es) h = (lower_index i j e.0 key h, all_lower i j key es h)

pub all_higher : (i j : ℕ) (key : List ℕ) (es : List Entry) → j < i → AllAbove (j, key) (tagged i es)
all_higher i j key [] h = tt
all_higher i j key (e ∷ es) h = (lower_index j i key e.0 h, all_higher i j key es h)

-- the part of the leaves from k on
pub rising_rest : (ls : List Leaf) (k : ℕ) → Rising (items ls) → Rising (items (drop k ls))
rising_rest ls k r = rising_back (items (take k ls)) (items (drop k ls)) (subst Rising (ap items (sym (take-append-drop k ls)) ∙ items-append (take k ls) (drop k ls)) r)

above_started : (q : Place) (l : Leaf) (ms : List Leaf) → 0 < length l.1 → Rising (items (l ∷ ms)) → place_cmp (start l) q ≡ Greater → AllAbove q (items (l ∷ ms))
above_started q l ms some r g =
    let s = tagged_start l some in
    let e : items (l ∷ ms) ≡ (start l, s.0) ∷ (tagged l.0 s.1 ++ items ms) = ap (λ z. z ++ items ms) s.2 in
    let rs : Rising ((start l, s.0) ∷ (tagged l.0 s.1 ++ items ms)) = subst Rising e r in
    let low = greater_back (start l) q g in
    subst (AllAbove q) (sym e) (low, above_trans q (start l) (tagged l.0 s.1 ++ items ms) low rs.0)

pub above_rest : (q : Place) (ls : List Leaf) (k : ℕ) → IsForest ls → (k < length ls → place_cmp (start (get_or ls k no_leaf)) q ≡ Greater) → AllAbove q (items (drop k ls))
above_rest q ls k f h = elim (cases_lt k (length ls)) [
  | inl lt ↦
      let e : drop k ls ≡ get_or ls k no_leaf ∷ drop (k + 1) ls = drop_more ls k no_leaf lt in
      subst (λ (x : List Leaf). AllAbove q (items x)) (sym e) (above_started q (get_or ls k no_leaf) (drop (k + 1) ls) (f.some k lt) (subst (λ (x : List Leaf). Rising (items x)) e (rising_rest ls k f.rising)) (h lt))
  | inr le ↦ subst (λ (x : List Leaf). AllAbove q (items x)) (sym (drop_all k ls le)) tt
]

below_from : (p q : Place) (xs : List Item) → AllBelow p xs → (place_cmp p q ≡ Less) ⊎ (place_cmp p q ≡ Equal) → AllBelow q xs
below_from p q xs a (inl h) = below_trans p q xs a h
below_from p q [] a (inr h) = tt
below_from p q (x ∷ xs) a (inr h) = (sym (alike_right total p q x.0 h) ∙ a.0, below_from p q xs a.1 (inr h))

pub below_front : (q : Place) (ls : List Leaf) (k : ℕ) → IsForest ls → k < length ls → (place_cmp (start (get_or ls k no_leaf)) q ≡ Less) ⊎ (place_cmp (start (get_or ls k no_leaf)) q ≡ Equal) → AllBelow q (items (take k ls))
below_front q ls k f lt h =
    let l = get_or ls k no_leaf in
    let s = tagged_start l (f.some k lt) in
    let e : items ls ≡ items (take k ls) ++ ((start l, s.0) ∷ (tagged l.0 s.1 ++ items (drop (k + 1) ls))) =
    items_around ls k lt ∙ ap (λ z. items (take k ls) ++ (z ++ items (drop (k + 1) ls))) s.2 in
    let b = below_head (items (take k ls)) (start l, s.0) (tagged l.0 s.1 ++ items (drop (k + 1) ls)) (subst Rising e f.rising) in
    below_from (start l) q (items (take k ls)) b h

-- a look-up before items that are above
pub value_before : (q : Place) (xs ys : List Item) → AllAbove q ys → value_at q (xs ++ ys) ≡ value_at q xs
value_before q [] ys a = value_below q ys a
value_before q (x ∷ xs) ys a = ap (λ z. cond (Rattle.std.specs.Ordering.is_eq (place_cmp x.0 q)) (Some x.1) z) (value_before q xs ys a)

-- the one leaf in question
pub value_in_leaf : (q : Place) (ls : List Leaf) (k : ℕ) → IsForest ls → Sought q ls k → 0 < k → value_at q (items ls) ≡ value_at q (tagged (get_or ls (k - 1) no_leaf).0 (get_or ls (k - 1) no_leaf).1)
value_in_leaf q ls k f s some =
    let j = k - 1 in
    let l = get_or ls j no_leaf in
    let inside : j < length ls = omega (arith, s.inside) in
    let back : j + 1 ≡ k = omega arith in
    let rest : AllAbove q (items (drop (j + 1) ls)) = subst (λ n. AllAbove q (items (drop n ls))) (sym back) (above_rest q ls k f s.after) in
    ap (value_at q) (items_around ls j inside)
    ∙ value_past q (items (take j ls)) (tagged l.0 l.1 ++ items (drop (j + 1) ls)) (below_front q ls j f inside (s.before some))
    ∙ value_before q (tagged l.0 l.1) (items (drop (j + 1) ls)) rest

pub value_before_all : (q : Place) (ls : List Leaf) (k : ℕ) → IsForest ls → Sought q ls k → k ≡ 0 → value_at q (items ls) ≡ None
value_before_all q ls k f s e = value_below q (items ls) (subst (λ n. AllAbove q (items (drop n ls))) e (above_rest q ls k f s.after))

pub value_elsewhere : (of : ℕ) (key : List ℕ) (i : ℕ) (es : List Entry) → i < of → value_at (of, key) (tagged i es) ≡ None
value_elsewhere of key i es h = ap (value_at (of, key)) (sym (Rattle.std.proofs.lemmas.List.append-nil (tagged i es))) ∙ value_past (of, key) (tagged i es) [] (all_lower i of key es h)

-- by places within a leaf
pub tagged_below : (i : ℕ) (key : List ℕ) (es : List Entry) (n : ℕ) → ((j : ℕ) → j < n → key_cmp (key_at es j) key ≡ Less) → n ≤ length es → AllBelow (i, key) (tagged i (take n es))
tagged_below i key es zero h le = tt
tagged_below i key [] (suc n) h le = tt
tagged_below i key (e ∷ es) (suc n) h le = (same_index i e.0 key ∙ h 0 (omega arith), tagged_below i key es n (λ j lt. h (suc j) (omega arith)) (omega arith))

pub tagged_above_all : (i : ℕ) (key : List ℕ) (es : List Entry) → ((j : ℕ) → j < length es → key_cmp (key_at es j) key ≡ Greater) → AllAbove (i, key) (tagged i es)
tagged_above_all i key [] h = tt
tagged_above_all i key (e ∷ es) h = (greater_back (i, e.0) (i, key) (same_index i e.0 key ∙ h 0 (omega arith)), tagged_above_all i key es (λ j lt. h (suc j) (omega arith)))

pub tagged_above : (i : ℕ) (key : List ℕ) (es : List Entry) (n : ℕ) → ((j : ℕ) → n ≤ j → j < length es → key_cmp (key_at es j) key ≡ Greater) → AllAbove (i, key) (tagged i (drop n es))
tagged_above i key es zero h = tagged_above_all i key es (λ j lt. h j (omega arith) lt)
tagged_above i key [] (suc n) h = tt
tagged_above i key (e ∷ es) (suc n) h = tagged_above i key es n (λ j le lt. h (suc j) (omega arith) (omega arith))

pub tagged_split : (i : ℕ) (es : List Entry) (n : ℕ) → tagged i es ≡ tagged i (take n es) ++ tagged i (drop n es)
tagged_split i es n = ap (tagged i) (sym (take-append-drop n es)) ∙ tagged-append i (take n es) (drop n es)

pub value_missing : (of : ℕ) (key : List ℕ) (es : List Entry) (i : ℕ) → Missing key es i → value_at (of, key) (tagged of es) ≡ None
value_missing of key es i m =
    ap (value_at (of, key)) (tagged_split of es i)
    ∙ value_past (of, key) (tagged of (take i es)) (tagged of (drop i es)) (tagged_below of key es i m.below m.inside)
    ∙ value_below (of, key) (tagged of (drop i es)) (tagged_above of key es i m.above)

above_at : (i : ℕ) (p : Place) (es : List Entry) (j : ℕ) → AllAbove p (tagged i es) → j < length es → place_cmp p (i, key_at es j) ≡ Less
above_at i p [] j a lt = absurd (omega arith)
above_at i p (e ∷ es) zero a lt = a.0
above_at i p (e ∷ es) (suc j) a lt = above_at i p es j a.1 (omega arith)

pub value_found : (of : ℕ) (key : List ℕ) (es : List Entry) (i : ℕ) → Rising (tagged of es) → i < length es → key_cmp (key_at es i) key ≡ Equal → value_at (of, key) (tagged of es) ≡ Some (get_or es i no_entry).1
value_found of key [] i r lt e = absurd (omega arith)
value_found of key (x ∷ es) zero r lt e = rw (same_index of x.0 key, e) refl
value_found of key (x ∷ es) (suc i) r lt e =
    let below : place_cmp (of, x.0) (of, key_at es i) ≡ Less = above_at of (of, x.0) es i r.0 (omega arith) in
    let same : place_cmp (of, key_at es i) (of, key) ≡ Equal = same_index of (key_at es i) key ∙ e in
    let first : place_cmp (of, x.0) (of, key) ≡ Less = sym (alike_right total (of, key_at es i) (of, key) (of, x.0) same) ∙ below in
    rw first (value_found of key es i r.1 (omega arith) e)

rising_each : (i : ℕ) (es : List Entry) (a b : ℕ) → Rising (tagged i es) → a < b → b < length es → key_cmp (key_at es a) (key_at es b) ≡ Less
rising_each i [] a b r lt h = absurd (omega arith)
rising_each i (e ∷ es) zero zero r lt h = absurd (omega arith)
rising_each i (e ∷ es) (suc a) zero r lt h = absurd (omega arith)
rising_each i (e ∷ es) zero (suc b) r lt h = sym (same_index i e.0 (key_at es b)) ∙ above_at i (i, e.0) es b r.0 (omega arith)
rising_each i (e ∷ es) (suc a) (suc b) r lt h = rising_each i es a b r.1 (omega arith) (omega arith)

pub rising_leaf : (ls : List Leaf) (k : ℕ) → IsForest ls → k < length ls → Rising (tagged (get_or ls k no_leaf).0 (get_or ls k no_leaf).1)
rising_leaf ls k f lt =
    let l = get_or ls k no_leaf in
    rising_front (tagged l.0 l.1) (items (drop (k + 1) ls)) (rising_back (items (take k ls)) (tagged l.0 l.1 ++ items (drop (k + 1) ls)) (subst Rising (items_around ls k lt) f.rising))

pub leaf_is_rising : (ls : List Leaf) (k : ℕ) → IsForest ls → k < length ls → IsRising (get_or ls k no_leaf).1
leaf_is_rising ls k f lt = record { each = λ a b less inside. rising_each (get_or ls k no_leaf).0 (get_or ls k no_leaf).1 a b (rising_leaf ls k f lt) less inside }
