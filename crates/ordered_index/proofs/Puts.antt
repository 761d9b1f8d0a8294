-- What an insert leaves.
use Rattle.std.proofs.Common.{ℕ, suc, ◌≡◌, ◌≢◌, ◌+◌, ◌-◌, ◌<◌, ◌≤◌, ◌⊎◌, inl, inr, List, [], ◌∷◌, ◌++◌, length, take, drop, get_or, set, sym, ap, ◌∙◌, subst, arith, append_assoc, add-one, length-append}
use Rattle.std.specs.List.{insert}
use Rattle.std.specs.declared.cmp.Ordering.TheVariants.{Less, Equal}
use Rattle.std.proofs.lemmas.List.{take-append-drop, drop_more, take_more, take_all, take_at, drop_at, length-take-le, take_more_set, drop-set-lt, set_split, length-set, get_or-set_same, get_or-set_other, append-nil}
use Rattle.std.proofs.lemmas.List.Edits.{length-insert, get_or-insert_below, get_or-insert_at, get_or-insert_above}
use Rattle.std.proofs.lemmas.Bool.{cases_lt, cases_eq}
use Rattle.slot_page.specs.Page.{Entry, no_entry, space, entries, index_of}
use Rattle.slot_page.specs.Order.{key_at, Missing}
use Rattle.slot_page.proofs.Pages.{space-append}
use Rattle.ordered_index.specs.Row.{Leaf, no_leaf, leaf_of}
use Rattle.ordered_index.specs.Flat.{Place, place_cmp, AllAbove, AllBelow, Rising, IsPut, tagged, items, start, Sought, IsForest}
use Rattle.ordered_index.proofs.Flats.{above_both, below_both, rising_put, items-append, items_around, tagged-append}
use Rattle.ordered_index.proofs.Finds.{above_rest, below_front, all_lower, tagged_below, tagged_above, tagged_split, same_index, at_most_index}

all_inserted : (P : Leaf → Type 0) (ls : List Leaf) (k j : ℕ) (m : Leaf) → k ≤ length ls → ((i : ℕ) → i < length ls → P (get_or ls i no_leaf)) → P m → j < length (insert ls k m) → (j < k) ⊎ (k ≤ j) → (j ≡ k) ⊎ (j ≢ k) → P (get_or (insert ls k m) j no_leaf)
all_inserted P ls k j m le f p lt (inl low) e = subst P (sym (get_or-insert_below ls k m no_leaf j low le)) (f j (omega arith))
all_inserted P ls k j m le f p lt (inr high) (inl e) = subst P (sym (ap (λ x. get_or (insert ls k m) x no_leaf) e ∙ get_or-insert_at ls k m no_leaf le)) p
all_inserted P ls k j m le f p lt (inr high) (inr ne) =
    let back : j ≡ j - 1 + 1 = omega arith in
    subst P (sym (ap (λ x. get_or (insert ls k m) x no_leaf) back ∙ get_or-insert_above ls k m no_leaf (j - 1) (omega arith) le)) (f (j - 1) (omega (arith, length-insert ls k m le)))

pub all_insert : (P : Leaf → Type 0) (ls : List Leaf) (k : ℕ) (m : Leaf) → k ≤ length ls → ((i : ℕ) → i < length ls → P (get_or ls i no_leaf)) → P m → (j : ℕ) → j < length (insert ls k m) → P (get_or (insert ls k m) j no_leaf)
all_insert P ls k m le f p j lt = all_inserted P ls k j m le f p lt (cases_lt j k) (cases_eq j k)

all_changed : (P : Leaf → Type 0) (ls : List Leaf) (k j : ℕ) (m : Leaf) → ((i : ℕ) → i < length ls → P (get_or ls i no_leaf)) → P m → j < length ls → (j ≡ k) ⊎ (j ≢ k) → P (get_or (set ls k m) j no_leaf)
all_changed P ls k j m f p lt (inl e) = subst P (sym (ap (λ x. get_or (set ls x m) j no_leaf) (sym e) ∙ get_or-set_same ls j m no_leaf lt)) p
all_changed P ls k j m f p lt (inr ne) = subst P (sym (get_or-set_other ls k j m no_leaf ne)) (f j lt)

pub all_set : (P : Leaf → Type 0) (ls : List Leaf) (k : ℕ) (m : Leaf) → ((i : ℕ) → i < length ls → P (get_or ls i no_leaf)) → P m → (j : ℕ) → j < length (set ls k m) → P (get_or (set ls k m) j no_leaf)
all_set P ls k m f p j lt = all_changed P ls k j m f p (omega (arith, length-set ls k m)) (cases_eq j k)

pub items_halves : (ls : List Leaf) (k : ℕ) → items ls ≡ items (take k ls) ++ items (drop k ls)
items_halves ls k = ap items (sym (take-append-drop k ls)) ∙ items-append (take k ls) (drop k ls)

pub items_inserted : (ls : List Leaf) (k : ℕ) (m : Leaf) → items (insert ls k m) ≡ items (take k ls) ++ (tagged m.0 m.1 ++ items (drop k ls))
items_inserted ls k m = items-append (take k ls) (m ∷ drop k ls)

pub items_set : (ls : List Leaf) (k : ℕ) (m : Leaf) → k < length ls → items (set ls k m) ≡ items (take k ls) ++ (tagged m.0 m.1 ++ items (drop (k + 1) ls))
items_set ls k m h = ap items (set_split ls k m h) ∙ items-append (take k ls) (m ∷ drop (suc k) ls) ∙ ap (λ n. items (take k ls) ++ (tagged m.0 m.1 ++ items (drop n ls))) (sym (add-one k))

-- an insert that left a forest
pub record Put (of : ℕ) (key value : List ℕ) (old new : List Leaf) : Type 0 where
  pub forest : IsForest new
  pub items_are : IsPut (of, key) value (items old) (items new)

-- a new leaf between leaves below and leaves above
pub put_new : (of : ℕ) (key value : List ℕ) (ls : List Leaf) (k : ℕ) → IsForest ls → k ≤ length ls → 6 + length key + length value ≤ 8176 → AllBelow (of, key) (items (take k ls)) → AllAbove (of, key) (items (drop k ls)) → Put of key value ls (insert ls k (of, (key, value) ∷ []))
put_new of key value ls k f le size below above =
    let m : Leaf = (of, (key, value) ∷ []) in
    let xs = items (take k ls) in
    let ys = items (drop k ls) in
    let now : items (insert ls k m) ≡ xs ++ ((of, key), value) ∷ ys = items_inserted ls k m in
    record {
      forest = record {
        some = all_insert (λ l. 0 < length l.1) ls k m le f.some (omega arith);
        fits = all_insert (λ l. space l.1 ≤ 8176) ls k m le f.fits (omega (arith, length-append key value, length-append (key ++ value) []));
        rising = subst Rising (sym now) (rising_put (of, key) value xs ys below above (subst Rising (items_halves ls k) f.rising));
      };
      items_are = record { front = xs; back = ys; small_is = items_halves ls k; big_is = now; below = below; above = above };
    }

-- the leaves up to k, by the last one
pub items_upto : (ls : List Leaf) (j : ℕ) → j < length ls → items (take (j + 1) ls) ≡ items (take j ls) ++ tagged (get_or ls j no_leaf).0 (get_or ls j no_leaf).1
items_upto ls j h = ap items (take_more ls j no_leaf h) ∙ items-append (take j ls) (get_or ls j no_leaf ∷ []) ∙ ap (λ z. items (take j ls) ++ z) (append-nil (tagged (get_or ls j no_leaf).0 (get_or ls j no_leaf).1))

pub below_upto : (q : Place) (ls : List Leaf) (j : ℕ) → j < length ls → AllBelow q (items (take j ls)) → AllBelow q (tagged (get_or ls j no_leaf).0 (get_or ls j no_leaf).1) → AllBelow q (items (take (j + 1) ls))
below_upto q ls j h a b = subst (AllBelow q) (sym (items_upto ls j h)) (below_both q (items (take j ls)) _ a b)

space_cons : (e : Entry) (es : List Entry) → space (e ∷ es) ≡ 6 + length e.0 + length e.1 + space es
space_cons e es = omega (arith, length-append (Rattle.slot_page.specs.Page.cell e) (Rattle.slot_page.specs.Page.heap es), length-append e.0 e.1)

-- an entry in its place in a leaf
pub put_inside : (of : ℕ) (key value : List ℕ) (ls : List Leaf) (j i : ℕ) (es : List Entry) → IsForest ls → j < length ls → get_or ls j no_leaf ≡ (of, es) → Missing key es i → space es + 6 + length key + length value ≤ 8176
    → AllBelow (of, key) (items (take j ls)) → AllAbove (of, key) (items (drop (j + 1) ls)) → Put of key value ls (set ls j (of, insert es i (key, value)))
put_inside of key value ls j i es f h is m room below above =
    let q : Place = (of, key) in
    let e : Entry = (key, value) in
    let new : Leaf = (of, insert es i e) in
    let a = items (take j ls) in
    let c = items (drop (j + 1) ls) in
    let b1 = tagged of (take i es) in
    let b2 = tagged of (drop i es) in
    let old : items ls ≡ (a ++ b1) ++ (b2 ++ c) =
    items_around ls j h ∙ ap (λ (l : Leaf). a ++ (tagged l.0 l.1 ++ c)) is ∙ ap (λ z. a ++ (z ++ c)) (tagged_split of es i) ∙ ap (λ z. a ++ z) (append_assoc b1 b2 c) ∙ sym (append_assoc a b1 (b2 ++ c)) in
    let now : items (set ls j new) ≡ (a ++ b1) ++ (q, value) ∷ (b2 ++ c) =
    items_set ls j new h ∙ ap (λ z. a ++ (z ++ c)) (tagged-append of (take i es) (e ∷ drop i es)) ∙ ap (λ z. a ++ z) (append_assoc b1 ((q, value) ∷ b2) c) ∙ sym (append_assoc a b1 ((q, value) ∷ (b2 ++ c))) in
    let low = below_both q a b1 below (tagged_below of key es i m.below m.inside) in
    let high = above_both q b2 c (tagged_above of key es i m.above) above in
    let more : length (insert es i e) ≡ length es + 1 = length-insert es i e m.inside in
    let split : space (take i es) + space (drop i es) ≡ space es = sym (space-append (take i es) (drop i es)) ∙ ap space (take-append-drop i es) in
    let grown : space (insert es i e) ≡ space (take i es) + (6 + length key + length value + space (drop i es)) = space-append (take i es) (e ∷ drop i es) ∙ ap (λ n. space (take i es) + n) (space_cons e (drop i es)) in
    record {
      forest = record {
        some = all_set (λ l. 0 < length l.1) ls j new f.some (omega arith);
        fits = all_set (λ l. space l.1 ≤ 8176) ls j new f.fits (omega arith);
        rising = subst Rising (sym now) (rising_put q value (a ++ b1) (b2 ++ c) low high (subst Rising old f.rising));
      };
      items_are = record { front = a ++ b1; back = b2 ++ c; small_is = old; big_is = now; below = low; above = high };
    }

-- a leaf in two
pub record Halved (of : ℕ) (key : List ℕ) (old new : List Leaf) (k : ℕ) : Type 0 where
  pub forest : IsForest new
  pub same : items new ≡ items old
  pub inside : k ≤ length new
  pub more : length new ≡ length old + 1
  pub below : AllBelow (of, key) (items (take k new))
  pub above : AllAbove (of, key) (items (drop k new))

pub halved : (of : ℕ) (key : List ℕ) (ls : List Leaf) (j i : ℕ) (es : List Entry) → IsForest ls → j < length ls → get_or ls j no_leaf ≡ (of, es) → Missing key es i → 0 < i → i < length es
    → AllBelow (of, key) (items (take j ls)) → AllAbove (of, key) (items (drop (j + 1) ls)) → Halved of key ls (insert (set ls j (of, take i es)) (j + 1) (of, drop i es)) (j + 1)
halved of key ls j i es f h is m some short below above =
    let q : Place = (of, key) in
    let l1 : Leaf = (of, take i es) in
    let l2 : Leaf = (of, drop i es) in
    let mid = set ls j l1 in
    let new = insert mid (j + 1) l2 in
    let n : length mid ≡ length ls = length-set ls j l1 in
    let low : j + 1 ≤ length mid = omega arith in
    let front : take (j + 1) new ≡ take j ls ++ l1 ∷ [] = take_at (take (j + 1) mid) (l2 ∷ drop (j + 1) mid) (j + 1) (length-take-le (j + 1) mid low) ∙ take_more_set ls j l1 h in
    let back : drop (j + 1) new ≡ l2 ∷ drop (j + 1) ls = drop_at (take (j + 1) mid) (l2 ∷ drop (j + 1) mid) (j + 1) (length-take-le (j + 1) mid low) ∙ ap (λ z. l2 ∷ z) (drop-set-lt (j + 1) ls j l1 (omega arith)) in
    let fronts : items (take (j + 1) new) ≡ items (take j ls) ++ tagged of (take i es) = ap items front ∙ items-append (take j ls) (l1 ∷ []) ∙ ap (λ z. items (take j ls) ++ z) (append-nil (tagged of (take i es))) in
    let backs : items (drop (j + 1) new) ≡ tagged of (drop i es) ++ items (drop (j + 1) ls) = ap items back in
    let same : items new ≡ items ls =
    items_halves new (j + 1) ∙ ap (λ z. z ++ items (drop (j + 1) new)) fronts ∙ ap (λ z. (items (take j ls) ++ tagged of (take i es)) ++ z) backs
    ∙ append_assoc (items (take j ls)) (tagged of (take i es)) (tagged of (drop i es) ++ items (drop (j + 1) ls))
    ∙ ap (λ z. items (take j ls) ++ z) (sym (append_assoc (tagged of (take i es)) (tagged of (drop i es)) (items (drop (j + 1) ls))))
    ∙ ap (λ z. items (take j ls) ++ (z ++ items (drop (j + 1) ls))) (sym (tagged_split of es i))
    ∙ ap (λ (l : Leaf). items (take j ls) ++ (tagged l.0 l.1 ++ items (drop (j + 1) ls))) (sym is) ∙ sym (items_around ls j h) in
    let whole : space es ≤ 8176 = subst (λ (l : Leaf). space l.1 ≤ 8176) is (f.fits j h) in
    let split : space (take i es) + space (drop i es) ≡ space es = sym (space-append (take i es) (drop i es)) ∙ ap space (take-append-drop i es) in
    let t : length (take i es) ≡ i = length-take-le i es (omega arith) in
    let d : length (drop i es) ≡ length es - i = Rattle.std.proofs.lemmas.List.length-drop i es in
    record {
      forest = record {
        some = all_insert (λ l. 0 < length l.1) mid (j + 1) l2 low (all_set (λ l. 0 < length l.1) ls j l1 f.some (omega arith)) (omega arith);
        fits = all_insert (λ l. space l.1 ≤ 8176) mid (j + 1) l2 low (all_set (λ l. space l.1 ≤ 8176) ls j l1 f.fits (omega arith)) (omega arith);
        rising = subst Rising (sym same) f.rising;
      };
      same = same;
      inside = omega (arith, length-insert mid (j + 1) l2 low);
      more = length-insert mid (j + 1) l2 low ∙ ap (λ x. x + 1) n;
      below = subst (AllBelow q) (sym fronts) (below_both q (items (take j ls)) (tagged of (take i es)) below (tagged_below of key es i m.below m.inside));
      above = subst (AllAbove q) (sym backs) (above_both q (tagged of (drop i es)) (items (drop (j + 1) ls)) (tagged_above of key es i m.above) above);
    }

-- the leaf of this index in which a place lies
pub record Landed (of : ℕ) (key : List ℕ) (ls : List Leaf) (k : ℕ) (es : List Entry) : Type 0 where
  pub inside : k - 1 < length ls
  pub back : k - 1 + 1 ≡ k
  pub is : get_or ls (k - 1) no_leaf ≡ (of, es)
  pub below : AllBelow (of, key) (items (take (k - 1) ls))
  pub above : AllAbove (of, key) (items (drop (k - 1 + 1) ls))
  pub begins : (place_cmp (of, key_at es 0) (of, key) ≡ Less) ⊎ (place_cmp (of, key_at es 0) (of, key) ≡ Equal)

pub landed : (of : ℕ) (key : List ℕ) (ls : List Leaf) (k : ℕ) (page : List ℕ) → IsForest ls → Sought (of, key) ls k → (k ≡ 0 → ⊥) → leaf_of page ≡ get_or ls (k - 1) no_leaf → index_of page ≡ of → Landed of key ls k (entries page)
landed of key ls k page f s some e i =
    let j = k - 1 in
    let pos : 0 < k = omega arith in
    let inside : j < length ls = omega (arith, s.inside) in
    let back : j + 1 ≡ k = omega arith in
    let is : get_or ls j no_leaf ≡ (of, entries page) = sym e ∙ ap (λ (x : ℕ). let y : Leaf = (x, entries page) in y) i in
    record {
      inside = inside;
      back = back;
      is = is;
      below = below_front (of, key) ls j f inside (s.before pos);
      above = subst (λ n. AllAbove (of, key) (items (drop n ls))) (sym back) (above_rest (of, key) ls k f s.after);
      begins = subst (λ (l : Leaf). (place_cmp (start l) (of, key) ≡ Less) ⊎ (place_cmp (start l) (of, key) ≡ Equal)) is (s.before pos);
    }

-- the place is not before the leaf's first entry
pub not_first : (of : ℕ) (key : List ℕ) (es : List Entry) (i : ℕ) → Missing key es i → 0 < length es → (place_cmp (of, key_at es 0) (of, key) ≡ Less) ⊎ (place_cmp (of, key_at es 0) (of, key) ≡ Equal) → 0 < i
not_first of key es i m some (inl h) = elim (cases_lt 0 i) [ inl lt ↦ lt | inr le ↦ let g = m.above 0 (omega arith) some in let e = same_index of (key_at es 0) key in absurd (cc (g, h, e)) ]
not_first of key es i m some (inr h) = elim (cases_lt 0 i) [ inl lt ↦ lt | inr le ↦ let g = m.above 0 (omega arith) some in let e = same_index of (key_at es 0) key in absurd (cc (g, h, e)) ]

-- a leaf of another index lies below a place that it begins at or below
pub below_other : (of k : ℕ) (key : List ℕ) (ls : List Leaf) (page : List ℕ) → IsForest ls → Sought (of, key) ls k → (k ≡ 0 → ⊥) → leaf_of page ≡ get_or ls (k - 1) no_leaf → (index_of page ≡ of → ⊥) → AllBelow (of, key) (items (take k ls))
below_other of k key ls page f s some e ne =
    let j = k - 1 in
    let pos : 0 < k = omega arith in
    let inside : j < length ls = omega (arith, s.inside) in
    let back : j + 1 ≡ k = omega arith in
    let l = get_or ls j no_leaf in
    let low : l.0 ≤ of = at_most_index l.0 of (get_or l.1 0 no_entry).0 key (s.before pos) in
    let is : index_of page ≡ l.0 = ap (λ (x : Leaf). x.0) e in
    let differ : l.0 ≢ of = λ x. ne (is ∙ x) in
    subst (λ n. AllBelow (of, key) (items (take n ls))) back (below_upto (of, key) ls j inside (below_front (of, key) ls j f inside (s.before pos)) (all_lower l.0 of key l.1 (omega arith)))
