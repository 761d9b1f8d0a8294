-- Pages in order or free.
use Rattle.std.proofs.Common.{ℕ, suc, ◌≡◌, ◌≢◌, ◌+◌, ◌-◌, ◌*◌, ◌<◌, ◌≤◌, ◌⊎◌, inl, inr, add-one, cond, ◌==◌, List, [], ◌∷◌, ◌++◌, length, get_or, take, drop, set, map, refl, sym, ap, ◌∙◌, subst, arith}
use Rattle.std.specs.List.{insert, remove}
use Rattle.std.proofs.lemmas.List.{length-set, length-map, get_or-set_same, get_or-set_other, get_or-map, same_lists, take-append-drop, drop_more, get_or_default, get_or_read, take-map, drop-map, map-append}
use Rattle.std.proofs.lemmas.List.Edits.{length-insert, length-remove, get_or-insert_below, get_or-insert_at, get_or-insert_above, get_or-remove_below, get_or-remove_above}
use Rattle.std.proofs.lemmas.Bool.{cases_lt, cases_order, cases_eq, eq-eqb, ne_eqb}
use Rattle.slot_page.specs.Page.{IsPage}
use Rattle.disk_io.specs.Disk.{part}
use Rattle.page_store.specs.declared.store.PageStore.{PageStore}
use Rattle.page_store.specs.Store.{page_bytes, pages_in, with_page}
use Rattle.ordered_index.proofs.StorePages.{length-pages_of, page_at, pages-with_page}
use Rattle.ordered_index.specs.Row.{Row, Leaf, no_leaf, leaf_of, leaves_of, pages_of, times, IsRow}

abbrev pub one : ℕ → ℕ → ℕ
one p x = cond (p == x) 1 0

drop_suc : (xs : List ℕ) (k : ℕ) → k < length xs → drop k xs ≡ get_or xs k 0 ∷ drop (suc k) xs
drop_suc xs k h = drop_more xs k 0 h ∙ ap (λ n. get_or xs k 0 ∷ drop n xs) (add-one k)

pub times-append : (p : ℕ) (xs ys : List ℕ) → times p (xs ++ ys) ≡ times p xs + times p ys
times-append p [] ys = omega arith
times-append p (x ∷ xs) ys = omega (arith, times-append p xs ys)

pub times-insert : (p : ℕ) (xs : List ℕ) (k y : ℕ) → times p (insert xs k y) ≡ times p xs + one p y
times-insert p xs k y = omega (arith, times-append p (take k xs) (y ∷ drop k xs), times-append p (take k xs) (drop k xs), ap (times p) (take-append-drop k xs))

pub times-remove : (p : ℕ) (xs : List ℕ) (k : ℕ) → k < length xs → times p (remove xs k) + one p (get_or xs k 0) ≡ times p xs
times-remove p xs k h =
    let e : times p (drop k xs) ≡ one p (get_or xs k 0) + times p (drop (suc k) xs) = ap (times p) (drop_suc xs k h) in
    omega (arith, times-append p (take k xs) (drop (suc k) xs), times-append p (take k xs) (drop k xs), ap (times p) (take-append-drop k xs))

one_same : (p : ℕ) → one p p ≡ 1
one_same p = ap (λ b. cond {A = ℕ} b 1 0) (eq-eqb p p refl)

-- what stands in a list is counted
pub times_at : (xs : List ℕ) (k : ℕ) → k < length xs → 1 ≤ times (get_or xs k 0) xs
times_at xs k h = omega (arith, times-remove (get_or xs k 0) xs k h, one_same (get_or xs k 0))

-- two places of one number count twice
pub times_two : (xs : List ℕ) (i j : ℕ) → i < j → j < length xs → get_or xs i 0 ≡ get_or xs j 0 → 2 ≤ times (get_or xs j 0) xs
times_two xs i j l h e =
    let p = get_or xs j 0 in
    let gone = times-remove p xs j h in
    let n = length-remove xs j h in
    let there : get_or (remove xs j) i 0 ≡ p = get_or-remove_below xs j 0 i l h ∙ e in
    let left = times_at (remove xs j) i (omega arith) in
    let again : 1 ≤ times p (remove xs j) = subst (λ q. 1 ≤ times q (remove xs j)) there left in
    omega (arith, one_same p)

-- a page in order is one of the pages
pub in_range : (pages : List (List ℕ)) (order free : List ℕ) (k : ℕ) → IsRow pages order free → k < length order → get_or order k 0 < length pages
in_range pages order free k r h =
    let t = times_at order k h in
    elim (cases_lt (get_or order k 0) (length pages)) [ inl lt ↦ lt | inr le ↦ absurd (omega (arith, r.beyond (get_or order k 0) le)) ]

pub free_in_range : (pages : List (List ℕ)) (order free : List ℕ) (k : ℕ) → IsRow pages order free → k < length free → get_or free k 0 < length pages
free_in_range pages order free k r h =
    let t = times_at free k h in
    elim (cases_lt (get_or free k 0) (length pages)) [ inl lt ↦ lt | inr le ↦ absurd (omega (arith, r.beyond (get_or free k 0) le)) ]

-- two places in order have two pages
pub apart : (pages : List (List ℕ)) (order free : List ℕ) (i j : ℕ) → IsRow pages order free → i < length order → j < length order → i ≢ j → get_or order i 0 ≢ get_or order j 0
apart pages order free i j r hi hj ne e =
    elim (cases_order i j) [
      | inl same ↦ ne same
      | inr (inl less) ↦ omega (arith, times_two order i j less hj e, r.once (get_or order j 0) (in_range pages order free j r hj))
      | inr (inr more) ↦ omega (arith, times_two order j i more hi (sym e), r.once (get_or order i 0) (in_range pages order free i r hi))
    ]

-- a free page is not in order
pub free_apart : (pages : List (List ℕ)) (order free : List ℕ) (i j : ℕ) → IsRow pages order free → i < length order → j < length free → get_or order i 0 ≢ get_or free j 0
free_apart pages order free i j r hi hj e =
    let a = times_at order i hi in
    let b : 1 ≤ times (get_or order i 0) free = subst (λ q. 1 ≤ times q free) (sym e) (times_at free j hj) in
    omega (arith, r.once (get_or order i 0) (in_range pages order free i r hi))

pub length-leaves_of : (pages : List (List ℕ)) (order : List ℕ) → length (leaves_of pages order) ≡ length order
length-leaves_of pages order = length-map order (λ p. leaf_of (get_or pages p []))

pub leaf_at : (pages : List (List ℕ)) (order : List ℕ) (k : ℕ) → k < length order → get_or (leaves_of pages order) k no_leaf ≡ leaf_of (get_or pages (get_or order k 0) [])
leaf_at pages order k h = get_or-map (λ p. leaf_of (get_or pages p [])) order k 0 no_leaf h

pages_apart : (pages : List (List ℕ)) (p q : ℕ) (page : List ℕ) → q ≢ p → get_or (set pages p page) q [] ≡ get_or pages q []
pages_apart pages p q page ne = get_or-set_other pages p q page [] ne

held_at : (pages : List (List ℕ)) (order free : List ℕ) (k i : ℕ) (page : List ℕ) → IsRow pages order free → k < length order → IsPage page → i < length order → (i ≡ k) ⊎ (i ≢ k) → IsPage (get_or (set pages (get_or order k 0) page) (get_or order i 0) [])
held_at pages order free k i page r hk h hi (inl e) =
    let same : get_or (set pages (get_or order k 0) page) (get_or order i 0) [] ≡ page = ap (λ j. get_or (set pages (get_or order k 0) page) (get_or order j 0) []) e ∙ get_or-set_same pages (get_or order k 0) page [] (in_range pages order free k r hk) in
    subst IsPage (sym same) h
held_at pages order free k i page r hk h hi (inr ne) =
    subst IsPage (sym (pages_apart pages (get_or order k 0) (get_or order i 0) page (apart pages order free i k r hi hk ne))) (r.held i hi)

sized_at : (pages : List (List ℕ)) (q p : ℕ) (page : List ℕ) → ((p : ℕ) → p < length pages → length (get_or pages p []) ≡ 8192) → length page ≡ 8192 → p < length pages → (p ≡ q) ⊎ (p ≢ q) → length (get_or (set pages q page) p []) ≡ 8192
sized_at pages q p page s h lt (inl e) = ap length (ap (λ j. get_or (set pages j page) p []) (sym e) ∙ get_or-set_same pages p page [] lt) ∙ h
sized_at pages q p page s h lt (inr ne) = ap length (pages_apart pages q p page ne) ∙ s p lt

-- a page in order is written
pub row_set : (pages : List (List ℕ)) (order free : List ℕ) (k p : ℕ) (page : List ℕ) → IsRow pages order free → k < length order → p ≡ get_or order k 0 → IsPage page → length page ≡ 8192 → IsRow (set pages p page) order free
row_set pages order free k p page r hk pe h size =
    let n : length (set pages p page) ≡ length pages = length-set pages p page in
    record {
      number = r.number ∙ sym n;
      once = λ q lt. r.once q (omega arith);
      beyond = λ q le. r.beyond q (omega arith);
      sized = λ q lt. sized_at pages p q page r.sized size (omega arith) (cases_eq q p);
      held = λ i hi. subst (λ x. IsPage (get_or (set pages x page) (get_or order i 0) [])) (sym pe) (held_at pages order free k i page r hk h hi (cases_eq i k));
    }

leaf_set_at : (pages : List (List ℕ)) (order free : List ℕ) (k i : ℕ) (page : List ℕ) → IsRow pages order free → k < length order → i < length order → (i ≡ k) ⊎ (i ≢ k) → leaf_of (get_or (set pages (get_or order k 0) page) (get_or order i 0) []) ≡ get_or (set (leaves_of pages order) k (leaf_of page)) i no_leaf
leaf_set_at pages order free k i page r hk hi (inl e) =
    ap leaf_of (ap (λ j. get_or (set pages (get_or order k 0) page) (get_or order j 0) []) e ∙ get_or-set_same pages (get_or order k 0) page [] (in_range pages order free k r hk))
    ∙ sym (ap (λ j. get_or (set (leaves_of pages order) k (leaf_of page)) j no_leaf) e ∙ get_or-set_same (leaves_of pages order) k (leaf_of page) no_leaf (omega (arith, length-leaves_of pages order)))
leaf_set_at pages order free k i page r hk hi (inr ne) =
    ap leaf_of (pages_apart pages (get_or order k 0) (get_or order i 0) page (apart pages order free i k r hi hk ne))
    ∙ sym (leaf_at pages order i hi)
    ∙ sym (get_or-set_other (leaves_of pages order) k i (leaf_of page) no_leaf ne)

pub leaves_set : (pages : List (List ℕ)) (order free : List ℕ) (k p : ℕ) (page : List ℕ) → IsRow pages order free → k < length order → p ≡ get_or order k 0 → leaves_of (set pages p page) order ≡ set (leaves_of pages order) k (leaf_of page)
leaves_set pages order free k p page r hk pe =
    let q = get_or order k 0 in
    ap (λ x. leaves_of (set pages x page) order) pe
    ∙ same_lists (leaves_of (set pages q page) order) (set (leaves_of pages order) k (leaf_of page))
    (length-leaves_of (set pages q page) order ∙ sym (length-set (leaves_of pages order) k (leaf_of page) ∙ length-leaves_of pages order))
    (λ i d lt.
    let hi : i < length order = omega (arith, length-leaves_of (set pages q page) order) in
    get_or_default (leaves_of (set pages q page) order) i d no_leaf lt
    ∙ leaf_at (set pages q page) order i hi
    ∙ leaf_set_at pages order free k i page r hk hi (cases_eq i k)
    ∙ get_or_default (set (leaves_of pages order) k (leaf_of page)) i no_leaf d (omega (arith, length-set (leaves_of pages order) k (leaf_of page), length-leaves_of pages order)))

pub page_size : (page : List ℕ) → IsPage page → length page ≡ 8192
unfolding IsPage
page_size page h = h.size

abbrev pub row_is : List (List ℕ) → List ℕ → Row
row_is pages order = record { pages = length pages; leaves = leaves_of pages order }

-- where the page of leaf k is
pub record Place (pages : List (List ℕ)) (order : List ℕ) (k p : ℕ) : Type 0 where
  pub here : k < length order
  pub at : p ≡ get_or order k 0
  pub inside : p < length pages

pub place_of : (pages : List (List ℕ)) (order free : List ℕ) (r : Row) (k p : ℕ) → IsRow pages order free → row_is pages order ≡ r → k < length r.leaves → p ≡ get_or order k p → Place pages order k p
place_of pages order free r k p sound is lt read =
    let inside : k < length (leaves_of pages order) = subst (λ (x : Row). k < length x.leaves) (sym is) lt in
    let here : k < length order = omega (arith, length-leaves_of pages order) in
    let at : p ≡ get_or order k 0 = get_or_read order k p here read 0 in
    record { here = here; at = at; inside = subst (λ x. x < length pages) (sym at) (in_range pages order free k sound here) }

-- the page of leaf k
pub record Spot (pages : List (List ℕ)) (order : List ℕ) (r : Row) (k p : ℕ) (page : List ℕ) : Type 0 where
  pub place : Place pages order k p
  pub holds : IsPage page
  pub leaf : leaf_of page ≡ get_or r.leaves k no_leaf

pub spot_of : (pages : List (List ℕ)) (order free : List ℕ) (r : Row) (k p : ℕ) (page : List ℕ) → IsRow pages order free → row_is pages order ≡ r → k < length r.leaves → p ≡ get_or order k p → page ≡ get_or pages p page → Spot pages order r k p page
spot_of pages order free r k p page sound is lt read got =
    let at = place_of pages order free r k p sound is lt read in
    let same : page ≡ get_or pages (get_or order k 0) [] = got ∙ get_or_default pages p page [] at.inside ∙ ap (λ x. get_or pages x []) at.at in
    record {
      place = at;
      holds = subst IsPage (sym same) (sound.held k at.here);
      leaf = ap leaf_of same ∙ sym (leaf_at pages order k at.here) ∙ ap (λ (x : Row). get_or x.leaves k no_leaf) is;
    }

-- what a write to the page of leaf k leaves
pub written : (pages : List (List ℕ)) (order free : List ℕ) (r : Row) (k p : ℕ) (page : List ℕ) (leaf : Leaf) → IsRow pages order free → row_is pages order ≡ r → Place pages order k p → IsPage page → leaf_of page ≡ leaf
    → row_is (set pages p page) order ≡ record r { leaves = set r.leaves k leaf }
written pages order free r k p page leaf sound is at h e =
    let leaves : leaves_of (set pages p page) order ≡ set r.leaves k leaf =
    leaves_set pages order free k p page sound at.here at.at ∙ ap (λ (x : Leaf). set (leaves_of pages order) k x) e ∙ ap (λ (x : Row). set x.leaves k leaf) is in
    let n : length (set pages p page) ≡ r.pages = length-set pages p page ∙ ap (λ (x : Row). x.pages) is in
    rw (n, leaves) refl

-- a map over an edit
pub map-remove : {X Y : Type 0} (f : X → Y) (xs : List X) (k : ℕ) → map f (remove xs k) ≡ remove (map f xs) k
map-remove f xs k = map-append f (take k xs) (drop (suc k) xs) ∙ ap (λ y. y ++ map f (drop (suc k) xs)) (sym (take-map f k xs)) ∙ ap (λ y. take k (map f xs) ++ y) (sym (drop-map f (suc k) xs))

pub map-insert : {X Y : Type 0} (f : X → Y) (xs : List X) (k : ℕ) (x : X) → map f (insert xs k x) ≡ insert (map f xs) k (f x)
map-insert f xs k x = map-append f (take k xs) (x ∷ drop k xs) ∙ ap (λ y. y ++ f x ∷ map f (drop k xs)) (sym (take-map f k xs)) ∙ ap (λ y. take k (map f xs) ++ f x ∷ y) (sym (drop-map f k xs))

held_removed : (pages : List (List ℕ)) (order free : List ℕ) (k i : ℕ) → IsRow pages order free → k < length order → i < length (remove order k) → (i < k) ⊎ (k ≤ i) → IsPage (get_or pages (get_or (remove order k) i 0) [])
held_removed pages order free k i r hk hi (inl lt) =
    subst (λ x. IsPage (get_or pages x [])) (sym (get_or-remove_below order k 0 i lt hk)) (r.held i (omega arith))
held_removed pages order free k i r hk hi (inr le) =
    subst (λ x. IsPage (get_or pages x [])) (sym (get_or-remove_above order k 0 i le hk)) (r.held (i + 1) (omega (arith, length-remove order k hk)))

-- the page of leaf k is free again
pub row_close : (pages : List (List ℕ)) (order free : List ℕ) (k j p : ℕ) → IsRow pages order free → k < length order → p ≡ get_or order k 0 → j ≤ length free → IsRow pages (remove order k) (insert free j p)
row_close pages order free k j p r hk pe hj =
    let fewer = length-remove order k hk in
    let more = length-insert free j p hj in
    record {
      number = omega (arith, r.number);
      once = λ q lt. omega (arith, r.once q lt, subst (λ x. times q (remove order k) + one q x ≡ times q order) (sym pe) (times-remove q order k hk), times-insert q free j p);
      beyond = λ q le. omega (arith, r.beyond q le, subst (λ x. times q (remove order k) + one q x ≡ times q order) (sym pe) (times-remove q order k hk), times-insert q free j p);
      sized = r.sized;
      held = λ i hi. held_removed pages order free k i r hk hi (cases_lt i k);
    }

held_inserted : (pages : List (List ℕ)) (order free : List ℕ) (k j i : ℕ) (page : List ℕ) → IsRow pages order free → k ≤ length order → j < length free → IsPage page → i < length (insert order k (get_or free j 0)) → (i < k) ⊎ (k ≤ i) → (i ≡ k) ⊎ (i ≢ k)
    → IsPage (get_or (set pages (get_or free j 0) page) (get_or (insert order k (get_or free j 0)) i 0) [])
held_inserted pages order free k j i page r hk hj h hi (inl lt) e =
    let p = get_or free j 0 in
    let small : i < length order = omega arith in
    subst IsPage (sym (ap (λ x. get_or (set pages p page) x []) (get_or-insert_below order k p 0 i lt hk) ∙ pages_apart pages p (get_or order i 0) page (free_apart pages order free i j r small hj))) (r.held i small)
held_inserted pages order free k j i page r hk hj h hi (inr le) (inl e) =
    let p = get_or free j 0 in
    subst IsPage (sym (ap (λ x. get_or (set pages p page) (get_or (insert order k p) x 0) []) e ∙ ap (λ x. get_or (set pages p page) x []) (get_or-insert_at order k p 0 hk) ∙ get_or-set_same pages p page [] (free_in_range pages order free j r hj))) h
held_inserted pages order free k j i page r hk hj h hi (inr le) (inr ne) =
    let p = get_or free j 0 in
    let small : i - 1 < length order = omega (arith, length-insert order k p hk) in
    let back : i ≡ i - 1 + 1 = omega arith in
    let low : k ≤ i - 1 = omega arith in
    subst IsPage (sym (ap (λ x. get_or (set pages p page) (get_or (insert order k p) x 0) []) back ∙ ap (λ x. get_or (set pages p page) x []) (get_or-insert_above order k p 0 (i - 1) low hk) ∙ pages_apart pages p (get_or order (i - 1) 0) page (free_apart pages order free (i - 1) j r small hj))) (r.held (i - 1) small)

-- a free page stands before leaf k
pub row_open : (pages : List (List ℕ)) (order free : List ℕ) (k j p : ℕ) (page : List ℕ) → IsRow pages order free → k ≤ length order → j < length free → p ≡ get_or free j 0 → IsPage page → IsRow (set pages p page) (insert order k p) (remove free j)
row_open pages order free k j p page r hk hj pe h =
    let n : length (set pages p page) ≡ length pages = length-set pages p page in
    let fewer = length-remove free j hj in
    let more = length-insert order k p hk in
    record {
      number = omega (arith, r.number);
      once = λ q lt. let lt' : q < length pages = omega arith in omega (arith, r.once q lt', subst (λ x. times q (remove free j) + one q x ≡ times q free) (sym pe) (times-remove q free j hj), times-insert q order k p);
      beyond = λ q le. let le' : length pages ≤ q = omega arith in omega (arith, r.beyond q le', subst (λ x. times q (remove free j) + one q x ≡ times q free) (sym pe) (times-remove q free j hj), times-insert q order k p);
      sized = λ q lt. sized_at pages p q page r.sized (page_size page h) (omega arith) (cases_eq q p);
      held = λ i hi. subst (λ x. IsPage (get_or (set pages x page) (get_or (insert order k x) i 0) [])) (sym pe) (held_inserted pages order free k j i page r hk hj h (subst (λ x. i < length (insert order k x)) pe hi) (cases_lt i k) (cases_eq i k));
    }

pub leaves_open : (pages : List (List ℕ)) (order free : List ℕ) (k j p : ℕ) (page : List ℕ) → IsRow pages order free → j < length free → p ≡ get_or free j 0 → leaves_of (set pages p page) (insert order k p) ≡ insert (leaves_of pages order) k (leaf_of page)
leaves_open pages order free k j p page r hj pe =
    let f = λ (q : ℕ). leaf_of (get_or (set pages p page) q []) in
    let inside : p < length pages = subst (λ x. x < length pages) (sym pe) (free_in_range pages order free j r hj) in
    let same : map f order ≡ leaves_of pages order =
    same_lists (map f order) (leaves_of pages order) (length-map order f ∙ sym (length-leaves_of pages order))
    (λ i d lt.
    let hi : i < length order = omega (arith, length-map order f) in
    get_or_default (map f order) i d no_leaf lt
    ∙ get_or-map f order i 0 no_leaf hi
    ∙ ap leaf_of (pages_apart pages p (get_or order i 0) page (λ e. free_apart pages order free i j r hi hj (e ∙ pe)))
    ∙ sym (leaf_at pages order i hi)
    ∙ get_or_default (leaves_of pages order) i no_leaf d (omega (arith, length-leaves_of pages order)))
    in
    map-insert f order k p ∙ ap (λ (x : List Leaf). insert x k (f p)) same ∙ ap (λ (x : List ℕ). insert (leaves_of pages order) k (leaf_of x)) (get_or-set_same pages p page [] inside)

one_other : (p q : ℕ) → p ≢ q → one p q ≡ 0
one_other p q ne = ap (λ b. cond {A = ℕ} b 1 0) (ne_eqb p q ne)

once_at : (fs : List ℕ) (i p : ℕ) → ((q : ℕ) → q < i → times q fs ≡ 1) → ((q : ℕ) → i ≤ q → times q fs ≡ 0) → p < i + 1 → (p ≡ i) ⊎ (p ≢ i) → times p (fs ++ i ∷ []) ≡ 1
once_at fs i p o b lt (inl e) =
    let same : one p i ≡ 1 = ap (λ x. one p x) (sym e) ∙ one_same p in
    let none : times p fs ≡ 0 = b p (omega arith) in
    omega (arith, times-append p fs (i ∷ []))
once_at fs i p o b lt (inr ne) =
    let zero_ : one p i ≡ 0 = one_other p i ne in
    let once : times p fs ≡ 1 = o p (omega arith) in
    omega (arith, times-append p fs (i ∷ []))

pub once_pushed : (fs : List ℕ) (i : ℕ) → ((q : ℕ) → q < i → times q fs ≡ 1) → ((q : ℕ) → i ≤ q → times q fs ≡ 0) → (p : ℕ) → p < i + 1 → times p (fs ++ i ∷ []) ≡ 1
once_pushed fs i o b p lt = once_at fs i p o b lt (cases_eq p i)

pub beyond_pushed : (fs : List ℕ) (i : ℕ) → ((q : ℕ) → i ≤ q → times q fs ≡ 0) → (p : ℕ) → i + 1 ≤ p → times p (fs ++ i ∷ []) ≡ 0
beyond_pushed fs i b p le =
    let ne : p ≢ i = omega arith in
    let zero_ : one p i ≡ 0 = one_other p i ne in
    let none : times p fs ≡ 0 = b p (omega arith) in
    omega (arith, times-append p fs (i ∷ []))

sized_pushed_at : (ps : List (List ℕ)) (a : List ℕ) (i p : ℕ) → length ps ≡ i → length a ≡ 8192 → ((q : ℕ) → q < i → length (get_or ps q []) ≡ 8192) → (p < i) ⊎ (i ≤ p) → p < i + 1 → length (get_or (ps ++ a ∷ []) p []) ≡ 8192
sized_pushed_at ps a i p n s f (inl h) lt = ap length (Rattle.std.proofs.lemmas.List.get_or_append_left ps (a ∷ []) [] p (omega arith)) ∙ f p h
sized_pushed_at ps a i p n s f (inr h) lt = ap length (Rattle.std.proofs.lemmas.List.get_or_push ps a [] p (omega arith)) ∙ s

pub sized_pushed : (ps : List (List ℕ)) (a : List ℕ) (i : ℕ) → length ps ≡ i → length a ≡ 8192 → ((q : ℕ) → q < i → length (get_or ps q []) ≡ 8192) → (p : ℕ) → p < i + 1 → length (get_or (ps ++ a ∷ []) p []) ≡ 8192
sized_pushed ps a i n s f p lt = sized_pushed_at ps a i p n s f (cases_lt p i) lt

-- ---- rows over the pages of a store

pub store_place : (s : PageStore) (order free : List ℕ) (r : Row) (k p : ℕ) → IsRow (pages_of s) order free → row_is (pages_of s) order ≡ r → k < length r.leaves → p ≡ get_or order k p → p < pages_in s
store_place s order free r k p sound is lt read = let at = place_of (pages_of s) order free r k p sound is lt read in omega (arith, at.inside, length-pages_of s)

pub store_spot : (s : PageStore) (order free : List ℕ) (r : Row) (k p : ℕ) (page : List ℕ) → IsRow (pages_of s) order free → row_is (pages_of s) order ≡ r → k < length r.leaves → p ≡ get_or order k p → page ≡ part (8192 * p) 8192 (page_bytes s) → Spot (pages_of s) order r k p page
store_spot s order free r k p page sound is lt read got =
    let at = place_of (pages_of s) order free r k p sound is lt read in
    spot_of (pages_of s) order free r k p page sound is lt read (got ∙ sym (page_at s p (omega (arith, at.inside, length-pages_of s))) ∙ get_or_default (pages_of s) p [] page at.inside)

-- what a write to the page of leaf k leaves of a store
pub record Written (s : PageStore) (order free : List ℕ) (r : Row) (k p : ℕ) (page : List ℕ) (leaf : Leaf) : Type 0 where
  pub row : IsRow (pages_of (with_page s p page)) order free
  pub is : row_is (pages_of (with_page s p page)) order ≡ record r { leaves = set r.leaves k leaf }
  pub count : length (pages_of (with_page s p page)) ≡ length (pages_of s)

pub store_written : (s : PageStore) (order free : List ℕ) (r : Row) (k p : ℕ) (page : List ℕ) (leaf : Leaf) → IsRow (pages_of s) order free → row_is (pages_of s) order ≡ r → Place (pages_of s) order k p → IsPage page → leaf_of page ≡ leaf → Written s order free r k p page leaf
store_written s order free r k p page leaf sound is at h e =
    let same : pages_of (with_page s p page) ≡ set (pages_of s) p page = pages-with_page s p page (omega (arith, at.inside, length-pages_of s)) (page_size page h) in
    record {
      row = subst (λ (x : List (List ℕ)). IsRow x order free) (sym same) (row_set (pages_of s) order free k p page sound at.here at.at h (page_size page h));
      is = ap (λ (x : List (List ℕ)). row_is x order) same ∙ written (pages_of s) order free r k p page leaf sound is at h e;
      count = ap length same ∙ length-set (pages_of s) p page;
    }
