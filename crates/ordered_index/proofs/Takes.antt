-- What a removal leaves.
use Rattle.std.proofs.Common.{ℕ, suc, ◌≡◌, ◌+◌, ◌-◌, ◌<◌, ◌≤◌, ◌⊎◌, inl, inr, Option, Some, None, IsSome, is_some, true, false, cond, List, [], ◌∷◌, ◌++◌, length, take, drop, get_or, set, refl, sym, ap, ◌∙◌, subst, arith, append_assoc, add-one}
use Rattle.std.specs.List.{remove}
use Rattle.std.specs.declared.cmp.Ordering.{Ordering}
use Rattle.std.specs.declared.cmp.Ordering.TheVariants.{Less, Equal, Greater}
use Rattle.std.specs.Ordering.{is_eq}
use Rattle.std.specs.FinMap.{nat_cmp-IsAntisymmetric, slice_cmp-IsAntisymmetric}
use Rattle.std.proofs.lemmas.List.{take-append-drop, drop_more, take_all, length-take-le, length-drop, length-set, append-nil, drop-drop}
use Rattle.std.proofs.lemmas.List.Edits.{length-remove, get_or-remove_below, get_or-remove_above}
use Rattle.std.proofs.lemmas.Bool.{cases_lt}
use Rattle.slot_page.specs.Page.{Entry, no_entry, space, entries}
use Rattle.slot_page.specs.Order.{key_cmp, StandsAt, Missing}
use Rattle.slot_page.proofs.Pages.{space-append}
use Rattle.ordered_index.specs.Row.{Leaf, no_leaf, leaf_of}
use Rattle.ordered_index.specs.Flat.{Place, Item, place_cmp, AllAbove, AllBelow, Rising, value_at, IsPut, tagged, items, Sought, IsForest, TightOutside}
use Rattle.ordered_index.proofs.Flats.{rising_without, rising_back, below_head, items-append, items_around, tagged-append}
use Rattle.ordered_index.proofs.Finds.{at_most_index, value_before_all, value_in_leaf, value_elsewhere, tagged_split, same_index}
use Rattle.ordered_index.proofs.Puts.{all_set, items_set}
use Rattle.ordered_index.proofs.Joins.{all_remove}
use Rattle.ordered_index.proofs.Loose.{tight_set, apart_along}

pub same_key : (a b : List ℕ) → key_cmp a b ≡ Equal → a ≡ b
same_key = slice_cmp-IsAntisymmetric nat_cmp-IsAntisymmetric

nothing : {A : Type 0} (v : Option A) → v ≡ None → IsSome v → ⊥
nothing {A = A} v e some = let no : is_some {T = A} None ≡ true = sym (ap is_some e) ∙ some in absurd (cc no)

-- a key that is missing stands nowhere
pub missing_nowhere : (key : List ℕ) (es : List Entry) (i j : ℕ) → Missing key es i → StandsAt key es j → ⊥
missing_nowhere key es i j m s = elim (cases_lt j i) [
  | inl lt ↦ let l = m.below j lt in let e = s.same in absurd (cc (l, e))
  | inr le ↦ let g = m.above j le s.inside in let e = s.same in absurd (cc (g, e))
]

value_next : (of : ℕ) (key : List ℕ) (e : Entry) (es : List Entry) (r : Ordering) → key_cmp e.0 key ≡ r → is_eq r ≡ false → IsSome (value_at (of, key) (tagged of (e ∷ es))) → IsSome (value_at (of, key) (tagged of es))
value_next of key e es r is ne some =
    let o : is_eq (place_cmp (of, e.0) (of, key)) ≡ false = ap is_eq (same_index of e.0 key ∙ is) ∙ ne in
    subst (λ b. IsSome (cond b (Some e.1) (value_at (of, key) (tagged of es)))) o some

later : (key : List ℕ) (e : Entry) (es : List Entry) → (i : ℕ) × StandsAt key es i → (i : ℕ) × StandsAt key (e ∷ es) i
later key e es r = (suc r.0, record { inside = omega (arith, r.1.inside); same = r.1.same })

-- what has a value among the entries of a leaf stands at a place
pub stands : (of : ℕ) (key : List ℕ) (es : List Entry) → IsSome (value_at (of, key) (tagged of es)) → (i : ℕ) × StandsAt key es i
stands of key [] some = absurd (cc some)
stands of key (e ∷ es) some = elim (key_cmp e.0 key) as (λ r. key_cmp e.0 key ≡ r → (i : ℕ) × StandsAt key (e ∷ es) i) [
  | Less ↦ λ is. later key e es (stands of key es (value_next of key e es Less is refl some))
  | Equal ↦ λ is. (0, record { inside = omega arith; same = is })
  | Greater ↦ λ is. later key e es (stands of key es (value_next of key e es Greater is refl some))
] refl

-- the leaf in which a value stands
pub record There (of : ℕ) (key : List ℕ) (ls : List Leaf) (k : ℕ) : Type 0 where
  pub some : 0 < k
  pub inside : k - 1 < length ls
  pub index : (get_or ls (k - 1) no_leaf).0 ≡ of
  pub at : ℕ
  pub stands_at : StandsAt key (get_or ls (k - 1) no_leaf).1 at

pub there : (of : ℕ) (key : List ℕ) (ls : List Leaf) (k : ℕ) → IsForest ls → Sought (of, key) ls k → IsSome (value_at (of, key) (items ls)) → There of key ls k
there of key ls k f s some =
    let q : Place = (of, key) in
    let l = get_or ls (k - 1) no_leaf in
    let pos : 0 < k = elim (cases_lt 0 k) [ inl lt ↦ lt | inr le ↦ absurd (nothing _ (value_before_all q ls k f s (omega arith)) some) ] in
    let inside : k - 1 < length ls = omega (arith, s.inside) in
    let here : IsSome (value_at q (tagged l.0 l.1)) = subst IsSome (value_in_leaf q ls k f s pos) some in
    let low : l.0 ≤ of = at_most_index l.0 of (get_or l.1 0 no_entry).0 key (s.before pos) in
    let is : l.0 ≡ of = elim (cases_lt l.0 of) [ inl lt ↦ absurd (nothing _ (value_elsewhere of key l.0 l.1 lt) here) | inr le ↦ omega arith ] in
    let at = stands of key l.1 (subst (λ (i : ℕ). IsSome (value_at q (tagged i l.1))) is here) in
    record { some = pos; inside = inside; index = is; at = at.0; stands_at = at.1 }

-- the leaf, by its page
pub leaf_by_page : (ls : List Leaf) (j of : ℕ) (page : List ℕ) → leaf_of page ≡ get_or ls j no_leaf → (get_or ls j no_leaf).0 ≡ of → get_or ls j no_leaf ≡ (of, entries page)
leaf_by_page ls j of page e i = sym e ∙ ap (λ (x : ℕ). let y : Leaf = (x, entries page) in y) (ap (λ (l : Leaf). l.0) e ∙ i)

-- the items, with one of them apart
pub record Parted (of : ℕ) (key : List ℕ) (i : ℕ) (es : List Entry) (all front back : List Item) : Type 0 where
  pub is : all ≡ front ++ ((of, key), (get_or es i no_entry).1) ∷ back
  pub below : AllBelow (of, key) front
  pub above : AllAbove (of, key) back

pub parted : (of : ℕ) (key : List ℕ) (ls : List Leaf) (j i : ℕ) (es : List Entry) → IsForest ls → j < length ls → get_or ls j no_leaf ≡ (of, es) → StandsAt key es i
    → Parted of key i es (items ls) (items (take j ls) ++ tagged of (take i es)) (tagged of (drop (i + 1) es) ++ items (drop (j + 1) ls))
parted of key ls j i es f h is s =
    let a = items (take j ls) in
    let c = items (drop (j + 1) ls) in
    let b1 = tagged of (take i es) in
    let b2 = tagged of (drop (i + 1) es) in
    let e = get_or es i no_entry in
    let same : e.0 ≡ key = same_key e.0 key s.same in
    let cut : tagged of es ≡ b1 ++ ((of, e.0), e.1) ∷ b2 = tagged_split of es i ∙ ap (λ (x : List Entry). b1 ++ tagged of x) (drop_more es i no_entry s.inside) in
    let all : items ls ≡ (a ++ b1) ++ ((of, e.0), e.1) ∷ (b2 ++ c) =
    items_around ls j h ∙ ap (λ (l : Leaf). a ++ (tagged l.0 l.1 ++ c)) is ∙ ap (λ z. a ++ (z ++ c)) cut ∙ ap (λ z. a ++ z) (append_assoc b1 (((of, e.0), e.1) ∷ b2) c) ∙ sym (append_assoc a b1 (((of, e.0), e.1) ∷ (b2 ++ c))) in
    let now : items ls ≡ (a ++ b1) ++ ((of, key), e.1) ∷ (b2 ++ c) = all ∙ ap (λ (k : List ℕ). let y : Item = ((of, k), e.1) in (a ++ b1) ++ y ∷ (b2 ++ c)) same in
    let r : Rising ((a ++ b1) ++ ((of, key), e.1) ∷ (b2 ++ c)) = subst Rising now f.rising in
    record {
      is = now;
      below = below_head (a ++ b1) ((of, key), e.1) (b2 ++ c) r;
      above = (rising_back (a ++ b1) (((of, key), e.1) ∷ (b2 ++ c)) r).0;
    }

-- a removal that left a forest
pub record Taken (of : ℕ) (key value : List ℕ) (old new : List Leaf) : Type 0 where
  pub forest : IsForest new
  pub items_are : IsPut (of, key) value (items new) (items old)

dropped_space : (es : List Entry) (i : ℕ) → space (drop (i + 1) es) ≤ space (drop i es)
dropped_space es i =
    let e : drop (i + 1) es ≡ drop 1 (drop i es) = sym (drop-drop 1 i es) in
    let s : space (take 1 (drop i es)) + space (drop 1 (drop i es)) ≡ space (drop i es) = sym (space-append (take 1 (drop i es)) (drop 1 (drop i es))) ∙ ap space (take-append-drop 1 (drop i es)) in
    omega (arith, ap space e)

-- an entry of several
pub take_inside : (of : ℕ) (key : List ℕ) (ls : List Leaf) (j i : ℕ) (es : List Entry) → IsForest ls → j < length ls → get_or ls j no_leaf ≡ (of, es) → StandsAt key es i → (length es ≡ 1 → ⊥) → Taken of key (get_or es i no_entry).1 ls (set ls j (of, remove es i))
take_inside of key ls j i es f h is s several =
    let p = parted of key ls j i es f h is s in
    let a = items (take j ls) in
    let c = items (drop (j + 1) ls) in
    let b1 = tagged of (take i es) in
    let b2 = tagged of (drop (i + 1) es) in
    let new : Leaf = (of, remove es i) in
    let now : items (set ls j new) ≡ (a ++ b1) ++ (b2 ++ c) =
    items_set ls j new h ∙ ap (λ z. a ++ (z ++ c)) (tagged-append of (take i es) (drop (suc i) es)) ∙ ap (λ (n : ℕ). a ++ ((b1 ++ tagged of (drop n es)) ++ c)) (sym (add-one i)) ∙ ap (λ z. a ++ z) (append_assoc b1 b2 c) ∙ sym (append_assoc a b1 (b2 ++ c)) in
    let fewer = length-remove es i s.inside in
    let whole : space es ≤ 8176 = subst (λ (l : Leaf). space l.1 ≤ 8176) is (f.fits j h) in
    let split : space (take i es) + space (drop i es) ≡ space es = sym (space-append (take i es) (drop i es)) ∙ ap space (take-append-drop i es) in
    let less : space (remove es i) ≤ space es = omega (arith, space-append (take i es) (drop (suc i) es), ap (λ (n : ℕ). space (drop n es)) (add-one i), dropped_space es i) in
    record {
      forest = record {
        some = all_set (λ l. 0 < length l.1) ls j new f.some (omega (arith, s.inside));
        fits = all_set (λ l. space l.1 ≤ 8176) ls j new f.fits (omega arith);
        rising = subst Rising (sym now) (rising_without (a ++ b1) (b2 ++ c) _ (subst Rising p.is f.rising));
      };
      items_are = record { front = a ++ b1; back = b2 ++ c; small_is = now; big_is = p.is; below = p.below; above = p.above };
    }

-- the only entry of its leaf
pub take_alone : (of : ℕ) (key : List ℕ) (ls : List Leaf) (j i : ℕ) (es : List Entry) → IsForest ls → j < length ls → get_or ls j no_leaf ≡ (of, es) → StandsAt key es i → length es ≡ 1 → Taken of key (get_or es i no_entry).1 ls (remove ls j)
take_alone of key ls j i es f h is s alone =
    let p = parted of key ls j i es f h is s in
    let a = items (take j ls) in
    let c = items (drop (j + 1) ls) in
    let first : take i es ≡ [] = ap (λ (n : ℕ). take n es) (let e : i ≡ 0 = omega (arith, s.inside) in e) in
    let last : drop (i + 1) es ≡ [] = Rattle.std.proofs.lemmas.List.drop_all (i + 1) es (omega arith) in
    let front : a ++ tagged of (take i es) ≡ a = ap (λ (x : List Entry). a ++ tagged of x) first ∙ append-nil a in
    let back : tagged of (drop (i + 1) es) ++ c ≡ c = ap (λ (x : List Entry). tagged of x ++ c) last in
    let now : items (remove ls j) ≡ a ++ c = items-append (take j ls) (drop (suc j) ls) ∙ ap (λ (n : ℕ). a ++ items (drop n ls)) (sym (add-one j)) in
    let small : items (remove ls j) ≡ (a ++ tagged of (take i es)) ++ (tagged of (drop (i + 1) es) ++ c) = now ∙ ap (λ z. z ++ c) (sym front) ∙ ap (λ z. (a ++ tagged of (take i es)) ++ z) (sym back) in
    record {
      forest = record {
        some = all_remove (λ l. 0 < length l.1) ls j h f.some;
        fits = all_remove (λ l. space l.1 ≤ 8176) ls j h f.fits;
        rising = subst Rising (sym small) (rising_without (a ++ tagged of (take i es)) (tagged of (drop (i + 1) es) ++ c) _ (subst Rising p.is f.rising));
      };
      items_are = record { front = a ++ tagged of (take i es); back = tagged of (drop (i + 1) es) ++ c; small_is = small; big_is = p.is; below = p.below; above = p.above };
    }

-- which pairs can be loose then
pub tight_less : (ls : List Leaf) (k : ℕ) (m : Leaf) → TightOutside 0 0 ls → TightOutside (k - 1) (k + 1) (set ls k m)
tight_less ls k m t = tight_set ls k (k - 1) (k + 1) m (record { each = λ j o lt. t.each j (inr (omega arith)) lt }) (omega arith) (omega arith)

abbrev Apart : Leaf → Leaf → Type 0
Apart l m = l.0 ≡ m.0 → 8176 < space l.1 + space m.1

closed_at : (ls : List Leaf) (k j : ℕ) → k < length ls → TightOutside 0 0 ls → (j < k - 1) ⊎ (k + 1 ≤ j) → j + 1 < length (remove ls k) → Apart (get_or (remove ls k) j no_leaf) (get_or (remove ls k) (j + 1) no_leaf)
closed_at ls k j h t (inl o) lt =
    let n = length-remove ls k h in
    apart_along _ _ (get_or ls j no_leaf) (get_or ls (j + 1) no_leaf) (get_or-remove_below ls k no_leaf j (omega arith) h) (get_or-remove_below ls k no_leaf (j + 1) (omega arith) h) (t.each j (inr (omega arith)) (omega arith))
closed_at ls k j h t (inr o) lt =
    let n = length-remove ls k h in
    apart_along _ _ (get_or ls (j + 1) no_leaf) (get_or ls (j + 1 + 1) no_leaf) (get_or-remove_above ls k no_leaf j (omega arith) h) (get_or-remove_above ls k no_leaf (j + 1) (omega arith) h) (t.each (j + 1) (inr (omega arith)) (omega arith))

pub tight_closed : (ls : List Leaf) (k : ℕ) → k < length ls → TightOutside 0 0 ls → TightOutside (k - 1) (k + 1) (remove ls k)
tight_closed ls k h t = record { each = λ j o lt. closed_at ls k j h t o lt }
