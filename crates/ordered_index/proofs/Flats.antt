-- Items in order, and leaves.
use Rattle.std.proofs.Common.{ℕ, suc, ◌≡◌, ◌+◌, ◌-◌, ◌*◌, ◌<◌, ◌≤◌, inl, inr, None, List, [], ◌∷◌, ◌++◌, length, take, drop, get_or, refl, sym, ap, ◌∙◌, subst, arith, append_assoc}
use Rattle.std.specs.declared.cmp.Ordering.TheVariants.{Less, Greater}
use Rattle.std.specs.Ordering.{nat_cmp, is_lt, is_eq, then_cmp, on, ordering_reverse}
use Rattle.std.specs.Cmp.{IsTotalOrder}
use Rattle.std.specs.Cmp.Lexicographic.{slice_cmp}
use Rattle.std.proofs.lemmas.Cmp.{nat_cmp_total, nat_list_cmp_total, then_total, on_total}
use Rattle.std.proofs.lemmas.List.{take-append-drop, drop_more}
use Rattle.std.proofs.lemmas.Bool.{cases_order, cases_lt}
use Rattle.slot_page.specs.Page.{Entry, no_entry, space}
use Rattle.ordered_index.specs.Row.{Leaf, no_leaf}
use Rattle.ordered_index.specs.Flat.{Place, Item, place_cmp, AllAbove, AllBelow, Rising, value_at, tagged, items, start, used_by, IsTight, IsForest, TightOutside, AllTop, counted}

pub total : IsTotalOrder place_cmp
total = then_total (on_total (λ p. p.0) nat_cmp_total) (on_total (λ p. p.1) nat_list_cmp_total)

pub less_back : (p q : Place) → place_cmp p q ≡ Less → place_cmp q p ≡ Greater
less_back p q h = total.antisymm q p ∙ ap ordering_reverse h

pub above_trans : (p q : Place) (xs : List Item) → place_cmp p q ≡ Less → AllAbove q xs → AllAbove p xs
above_trans p q [] h a = tt
above_trans p q (x ∷ xs) h a = (total.trans p q x.0 h a.0, above_trans p q xs h a.1)

pub above-append : (q : Place) (xs ys : List Item) → AllAbove q (xs ++ ys) → AllAbove q xs × AllAbove q ys
above-append q [] ys a = (tt, a)
above-append q (x ∷ xs) ys a = let r = above-append q xs ys a.1 in ((a.0, r.0), r.1)

pub above_both : (q : Place) (xs ys : List Item) → AllAbove q xs → AllAbove q ys → AllAbove q (xs ++ ys)
above_both q [] ys a b = b
above_both q (x ∷ xs) ys a b = (a.0, above_both q xs ys a.1 b)

pub below_both : (q : Place) (xs ys : List Item) → AllBelow q xs → AllBelow q ys → AllBelow q (xs ++ ys)
below_both q [] ys a b = b
below_both q (x ∷ xs) ys a b = (a.0, below_both q xs ys a.1 b)

-- what stands before an item is below it
pub below_head : (xs : List Item) (y : Item) (ys : List Item) → Rising (xs ++ y ∷ ys) → AllBelow y.0 xs
below_head [] y ys r = tt
below_head (x ∷ xs) y ys r = ((above-append x.0 xs (y ∷ ys) r.0).1.0, below_head xs y ys r.1)

pub below_trans : (p q : Place) (xs : List Item) → AllBelow p xs → place_cmp p q ≡ Less → AllBelow q xs
below_trans p q [] a h = tt
below_trans p q (x ∷ xs) a h = (total.trans x.0 p q a.0 h, below_trans p q xs a.1 h)

pub rising_back : (xs ys : List Item) → Rising (xs ++ ys) → Rising ys
rising_back [] ys r = r
rising_back (x ∷ xs) ys r = rising_back xs ys r.1

pub rising_front : (xs ys : List Item) → Rising (xs ++ ys) → Rising xs
rising_front [] ys r = tt
rising_front (x ∷ xs) ys r = ((above-append x.0 xs ys r.0).0, rising_front xs ys r.1)

-- a look-up past items that are below
pub value_past : (q : Place) (xs ys : List Item) → AllBelow q xs → value_at q (xs ++ ys) ≡ value_at q ys
value_past q [] ys a = refl
value_past q (x ∷ xs) ys a = rw a.0 (value_past q xs ys a.1)

-- a look-up below all items
pub value_below : (q : Place) (xs : List Item) → AllAbove q xs → value_at q xs ≡ None
value_below q [] a = refl
value_below q (x ∷ xs) a = rw (less_back q x.0 a.0) (value_below q xs a.1)

pub rising_put : (q : Place) (v : List ℕ) (xs ys : List Item) → AllBelow q xs → AllAbove q ys → Rising (xs ++ ys) → Rising (xs ++ (q, v) ∷ ys)
rising_put q v [] ys a b r = (b, r)
rising_put q v (x ∷ xs) ys a b r =
    let parts = above-append x.0 xs ys r.0 in
    (above_both x.0 xs ((q, v) ∷ ys) parts.0 (a.0, parts.1), rising_put q v xs ys a.1 b r.1)

pub rising_without : (xs ys : List Item) (y : Item) → Rising (xs ++ y ∷ ys) → Rising (xs ++ ys)
rising_without [] ys y r = r.1
rising_without (x ∷ xs) ys y r =
    let parts = above-append x.0 xs (y ∷ ys) r.0 in
    (above_both x.0 xs ys parts.0 parts.1.1, rising_without xs ys y r.1)

-- leaves and their items
pub tagged-append : (i : ℕ) (es fs : List Entry) → tagged i (es ++ fs) ≡ tagged i es ++ tagged i fs
tagged-append i [] fs = refl
tagged-append i (e ∷ es) fs = ap (λ z. ((i, e.0), e.1) ∷ z) (tagged-append i es fs)

pub items-append : (ls ms : List Leaf) → items (ls ++ ms) ≡ items ls ++ items ms
items-append [] ms = refl
items-append (l ∷ ls) ms = ap (λ z. tagged l.0 l.1 ++ z) (items-append ls ms) ∙ sym (append_assoc (tagged l.0 l.1) (items ls) (items ms))

-- the items around leaf k
pub items_around : (ls : List Leaf) (k : ℕ) → k < length ls → items ls ≡ items (take k ls) ++ (tagged (get_or ls k no_leaf).0 (get_or ls k no_leaf).1 ++ items (drop (k + 1) ls))
items_around ls k h =
    ap items (sym (take-append-drop k ls)) ∙ items-append (take k ls) (drop k ls) ∙ ap (λ r. items (take k ls) ++ items r) (drop_more ls k no_leaf h)

started : (i : ℕ) (es : List Entry) → 0 < length es → (v : List ℕ) × (fs : List Entry) × (tagged i es ≡ ((i, (get_or es 0 no_entry).0), v) ∷ tagged i fs)
started i [] h = absurd (omega arith)
started i (e ∷ es) h = (e.1, es, refl)

-- a leaf that is not empty begins with its start
pub tagged_start : (l : Leaf) → 0 < length l.1 → (v : List ℕ) × (es : List Entry) × (tagged l.0 l.1 ≡ (start l, v) ∷ tagged l.0 es)
tagged_start l h = started l.0 l.1 h

pub bound_from : (l : Leaf) (ls : List Leaf) → IsTight (l ∷ ls) → 8176 * length (l ∷ ls) + 8176 * l.0 ≤ space l.1 + 2 * used_by ls + 8176 * 193
bound_from l [] t = omega (arith, t)
bound_from l (m ∷ ls) t = elim (cases_order l.0 m.0) [
  | inl same ↦ omega (arith, bound_from m ls t.2, t.1 same)
  | inr (inl less) ↦ omega (arith, bound_from m ls t.2)
  | inr (inr more) ↦ absurd (omega (arith, t.0))
]

-- THE PAGE BOUND: leaves that are tight are few for what they use
pub page_bound : (ls : List Leaf) → IsTight ls → 8176 * length ls ≤ 2 * used_by ls + 8176 * 193
page_bound [] t = omega arith
page_bound (l ∷ ls) t = omega (arith, bound_from l ls t)

-- starts of leaves in order
next_start : (l m : Leaf) (ls : List Leaf) → 0 < length l.1 → 0 < length m.1 → Rising (items (l ∷ m ∷ ls)) → place_cmp (start l) (start m) ≡ Less
next_start l m ls hl hm r =
    let s = tagged_start l hl in
    let t = tagged_start m hm in
    let e : items (l ∷ m ∷ ls) ≡ (start l, s.0) ∷ (tagged l.0 s.1 ++ ((start m, t.0) ∷ (tagged m.0 t.1 ++ items ls))) = ap (λ z. tagged l.0 l.1 ++ (z ++ items ls)) t.2 ∙ ap (λ z. z ++ ((start m, t.0) ∷ (tagged m.0 t.1 ++ items ls))) s.2 in
    let rs : Rising ((start l, s.0) ∷ (tagged l.0 s.1 ++ ((start m, t.0) ∷ (tagged m.0 t.1 ++ items ls)))) = subst Rising e r in
    (above-append (start l) (tagged l.0 s.1) ((start m, t.0) ∷ (tagged m.0 t.1 ++ items ls)) rs.0).1.0

index_order : (i j : ℕ) (a b : List ℕ) → place_cmp (i, a) (j, b) ≡ Less → i ≤ j
index_order i j a b h = elim (cases_lt j i) [
  | inl more ↦
      let e : nat_cmp j i ≡ Less = rw (Rattle.std.proofs.lemmas.Bool.lt-ltb j i more) refl in
      let g : place_cmp (j, b) (i, a) ≡ Less = ap (λ o. Rattle.std.specs.Ordering.ordering_then o (slice_cmp nat_cmp b a)) e in
      let back = less_back (i, a) (j, b) h in
      absurd (cc (g, back))
  | inr le ↦ le
]

abbrev Apart : Leaf → Leaf → Type 0
Apart l m = l.0 ≡ m.0 → 8176 < space l.1 + space m.1

-- a forest without loose pairs is tight
pub tight_forest : (ls : List Leaf) → ((j : ℕ) → j < length ls → 0 < length (get_or ls j no_leaf).1) → Rising (items ls) → ((j : ℕ) → j < length ls → (get_or ls j no_leaf).0 ≤ 192)
    → ((j : ℕ) → j + 1 < length ls → Apart (get_or ls j no_leaf) (get_or ls (j + 1) no_leaf)) → IsTight ls
tight_forest [] some r top t = tt
tight_forest (l ∷ []) some r top t = top 0 (omega arith)
tight_forest (l ∷ m ∷ ls) some r top t = (
  index_order l.0 m.0 (get_or l.1 0 no_entry).0 (get_or m.1 0 no_entry).0 (next_start l m ls (some 0 (omega arith)) (some 1 (omega arith)) r),
  t 0 (omega arith),
  tight_forest (m ∷ ls) (λ j lt. some (suc j) (omega arith)) (rising_back (tagged l.0 l.1) (items (m ∷ ls)) r) (λ j lt. top (suc j) (omega arith)) (λ j lt. let shift : suc j + 1 ≡ suc (j + 1) = omega arith in subst (λ n. Apart (get_or (l ∷ m ∷ ls) (suc j) no_leaf) (get_or (l ∷ m ∷ ls) n no_leaf)) shift (t (suc j) (omega arith))),
)

pub counted-append : (xs ys : List Item) → counted (xs ++ ys) ≡ counted xs + counted ys
counted-append [] ys = omega arith
counted-append (x ∷ xs) ys = omega (arith, counted-append xs ys)

space_counted : (i : ℕ) (es : List Entry) → space es ≤ counted (tagged i es)
space_counted i [] = omega arith
space_counted i (e ∷ es) =
    omega (arith, space_counted i es, Rattle.std.proofs.lemmas.List.length-append e.0 e.1, Rattle.std.proofs.lemmas.List.length-append (Rattle.slot_page.specs.Page.cell e) (Rattle.slot_page.specs.Page.heap es))

pub used_counted : (ls : List Leaf) → used_by ls ≤ counted (items ls)
used_counted [] = omega arith
used_counted (l ∷ ls) = omega (arith, space_counted l.0 l.1, used_counted ls, counted-append (tagged l.0 l.1) (items ls))

-- PAGES SUFFICE: below the DataFull limit at least 63 pages are free
pub pages_suffice : (ls : List Leaf) (pages : ℕ) → IsTight ls → 512 ≤ pages → counted (items ls) ≤ (pages - 256) * 1200 → length ls + 63 ≤ pages
pages_suffice ls pages t least h = omega (arith, page_bound ls t, used_counted ls)

top_back : (xs ys : List Item) → AllTop (xs ++ ys) → AllTop ys
top_back [] ys a = a
top_back (x ∷ xs) ys a = top_back xs ys a.1

leaf_top : (ls : List Leaf) (j : ℕ) → IsForest ls → AllTop (items ls) → j < length ls → (get_or ls j no_leaf).0 ≤ 192
leaf_top ls j f a lt =
    let l = get_or ls j no_leaf in
    let s = tagged_start l (f.some j lt) in
    let e : items ls ≡ items (take j ls) ++ ((start l, s.0) ∷ (tagged l.0 s.1 ++ items (drop (j + 1) ls))) =
    items_around ls j lt ∙ ap (λ z. items (take j ls) ++ (z ++ items (drop (j + 1) ls))) s.2 in
    (top_back (items (take j ls)) ((start l, s.0) ∷ (tagged l.0 s.1 ++ items (drop (j + 1) ls))) (subst AllTop e a)).0

-- below the limit pages are free
pub pages_free : (ls : List Leaf) (pages : ℕ) → IsForest ls → TightOutside 0 0 ls → AllTop (items ls) → 512 ≤ pages → counted (items ls) ≤ (pages - 256) * 1200 → length ls + 63 ≤ pages
pages_free ls pages f t a least h =
    pages_suffice ls pages (tight_forest ls f.some f.rising (λ j lt. leaf_top ls j f a lt) (λ j lt. t.each j (inr (omega arith)) lt)) least h
