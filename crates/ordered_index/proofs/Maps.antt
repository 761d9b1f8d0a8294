-- The maps of the indexes, and what they count, through a change of one entry.
use Rattle.std.proofs.Common.{ℕ, suc, zero, ◌≡◌, ◌≢◌, ◌+◌, ◌-◌, ◌^◌, ◌<◌, ◌≤◌, ◌⊎◌, inl, inr, Bool, true, false, cond, ◌&&◌, T, Some, None, List, [], ◌∷◌, ◌++◌, length, sum_by, refl, sym, ap, ◌∙◌, subst, arith, length-append}
use Rattle.std.specs.declared.cmp.Ordering.{Ordering}
use Rattle.std.specs.declared.cmp.Ordering.TheVariants.{Less, Equal, Greater}
use Rattle.std.specs.Ordering.{nat_cmp, is_eq, eq_by_cmp, ordering_then}
use Rattle.std.specs.Cmp.{eq_by_cmp_equiv}
use Rattle.std.specs.FinMap.{FinMap, entries, from_sorted, empty, get, insert, remove, same_map, get-from_sorted, entries-from_sorted, get-insert, get-remove, get-entries, entries-insert, nat_cmp-IsAntisymmetric}
use Rattle.std.specs.FinMap.Entries.{find, below_all, is_sorted}
use Rattle.std.proofs.lemmas.Cmp.{nat_list_cmp_total}
use Rattle.std.proofs.lemmas.Bool.{cases_eq, cases_order}
use Rattle.iv_types.specs.Maps.{Map, Entry, entry_size, map_size, size_below, used, with_map, last_index}
use Rattle.iv_types.proofs.MapSizes.{size-none, size-more, size_same, used_same, with_here, with_other, sums_cons, used_insert, insert_removed}
use Rattle.slot_page.specs.Order.{key_cmp}
use Rattle.ordered_index.specs.Flat.{Place, Item, place_cmp, AllAbove, AllBelow, Rising, AllTop, value_at, IsPut, IsSwapped, of_index, counted}
use Rattle.ordered_index.specs.Tree.{Tree, IsTree, map_of, spare_of, data_limit}
use Rattle.ordered_index.proofs.Flats.{value_past, value_below, counted-append, rising_without}
use Rattle.ordered_index.proofs.Finds.{same_index, lower_index, higher_index}
use Rattle.ordered_index.proofs.Indexes.{of_same, of_here, of_other}
use Rattle.ordered_index.proofs.Takes.{same_key}

-- ---- places

tied_index : (o r : Ordering) → ordering_then o r ≡ Equal → o ≡ Equal
tied_index Less r e = absurd (cc e)
tied_index Equal r e = refl
tied_index Greater r e = absurd (cc e)

tied_key : (o r : Ordering) → ordering_then o r ≡ Equal → r ≡ Equal
tied_key Less r e = absurd (cc e)
tied_key Equal r e = e
tied_key Greater r e = absurd (cc e)

pub same_place : (p q : Place) → place_cmp p q ≡ Equal → p ≡ q
same_place p q e =
    let i : p.0 ≡ q.0 = nat_cmp-IsAntisymmetric p.0 q.0 (tied_index (nat_cmp p.0 q.0) (key_cmp p.1 q.1) e) in
    let k : p.1 ≡ q.1 = same_key p.1 q.1 (tied_key (nat_cmp p.0 q.0) (key_cmp p.1 q.1) e) in
    ap (λ (n : ℕ). let y : Place = (n, p.1) in y) i ∙ ap (λ (n : List ℕ). let y : Place = (q.0, n) in y) k

pub is_tied : (r : Ordering) → is_eq r ≡ true → r ≡ Equal
is_tied Less e = absurd (cc e)
is_tied Equal e = refl
is_tied Greater e = absurd (cc e)

-- places of two indexes do not tie
apart_places : (i j : ℕ) (a b : List ℕ) → i ≢ j → is_eq (place_cmp (i, a) (j, b)) ≡ false
apart_places i j a b ne = elim (cases_order i j) [
  | inl same ↦ absurd (ne same)
  | inr (inl less) ↦ ap is_eq (lower_index i j a b less)
  | inr (inr more) ↦ ap is_eq (higher_index i j a b more)
]

-- ---- values through a change

value_skip : (p q : Place) (v : List ℕ) (xs ys : List Item) → is_eq (place_cmp q p) ≡ false → value_at p (xs ++ (q, v) ∷ ys) ≡ value_at p (xs ++ ys)
value_skip p q v [] ys e = ap (λ b. cond b (Some v) (value_at p ys)) e
value_skip p q v (x ∷ xs) ys e = ap (λ z. cond (is_eq (place_cmp x.0 p)) (Some x.1) z) (value_skip p q v xs ys e)

pub value_hit : (p q : Place) (v : List ℕ) (xs ys : List Item) → AllBelow q xs → is_eq (place_cmp q p) ≡ true → value_at p (xs ++ (q, v) ∷ ys) ≡ Some v
value_hit p q v xs ys b e =
    let below : AllBelow p xs = subst (λ z. AllBelow z xs) (same_place q p (is_tied _ e)) b in
    value_past p xs ((q, v) ∷ ys) below ∙ ap (λ t. cond t (Some v) (value_at p ys)) e

value_gone : (p q : Place) (xs ys : List Item) → AllBelow q xs → AllAbove q ys → is_eq (place_cmp q p) ≡ true → value_at p (xs ++ ys) ≡ None
value_gone p q xs ys b a e =
    let same = same_place q p (is_tied _ e) in
    value_past p xs ys (subst (λ z. AllBelow z xs) same b) ∙ value_below p ys (subst (λ z. AllAbove z ys) same a)

pub value_more : (q : Place) (v : List ℕ) (small big : List Item) → IsPut q v small big → (p : Place) → value_at p big ≡ cond (is_eq (place_cmp q p)) (Some v) (value_at p small)
value_more q v small big h p = ap (value_at p) h.big_is ∙ (elim (is_eq (place_cmp q p)) as (λ b. is_eq (place_cmp q p) ≡ b → value_at p (h.front ++ (q, v) ∷ h.back) ≡ cond b (Some v) (value_at p small)) [
  | true ↦ λ e. value_hit p q v h.front h.back h.below e
  | false ↦ λ e. value_skip p q v h.front h.back e ∙ sym (ap (value_at p) h.small_is)
] refl)

pub value_less : (q : Place) (v : List ℕ) (small big : List Item) → IsPut q v small big → (p : Place) → value_at p small ≡ cond (is_eq (place_cmp q p)) None (value_at p big)
value_less q v small big h p = ap (value_at p) h.small_is ∙ (elim (is_eq (place_cmp q p)) as (λ b. is_eq (place_cmp q p) ≡ b → value_at p (h.front ++ h.back) ≡ cond b None (value_at p big)) [
  | true ↦ λ e. value_gone p q h.front h.back h.below h.above e
  | false ↦ λ e. sym (value_skip p q v h.front h.back e) ∙ sym (ap (value_at p) h.big_is)
] refl)

-- ---- the map of an index

both : (a b : Bool) → T a → T b → T (a && b)
both true b s t = t
both false b s t = s

less_is : (a b : List ℕ) → key_cmp a b ≡ Less → T (Rattle.std.specs.Ordering.is_lt (key_cmp a b))
less_is a b e = subst (λ o. T (Rattle.std.specs.Ordering.is_lt o)) (sym e) tt

below_of : (i : ℕ) (k : List ℕ) (xs : List Item) → AllAbove (i, k) xs → T (below_all key_cmp k (of_index i xs))
below_of i k [] a = tt
below_of i k (x ∷ xs) a = elim (cases_eq i x.0.0) [
  | inl e ↦
      let less : key_cmp k x.0.1 ≡ Less = sym (same_index x.0.0 k x.0.1) ∙ subst (λ (n : ℕ). place_cmp (n, k) x.0 ≡ Less) e a.0 in
      subst (λ (es : List Entry). T (below_all key_cmp k es)) (sym (of_here i x xs e)) (both _ _ (less_is k x.0.1 less) (below_of i k xs a.1))
  | inr ne ↦ subst (λ (es : List Entry). T (below_all key_cmp k es)) (sym (of_other i x xs ne)) (below_of i k xs a.1)
]

pub sorted_of : (i : ℕ) (xs : List Item) → Rising xs → T (is_sorted key_cmp (of_index i xs))
sorted_of i [] r = tt
sorted_of i (x ∷ xs) r = elim (cases_eq i x.0.0) [
  | inl e ↦ subst (λ (es : List Entry). T (is_sorted key_cmp es)) (sym (of_here i x xs e)) (both _ _ (below_of i x.0.1 xs (subst (λ (n : ℕ). AllAbove (n, x.0.1) xs) (sym e) r.0)) (sorted_of i xs r.1))
  | inr ne ↦ subst (λ (es : List Entry). T (is_sorted key_cmp es)) (sym (of_other i x xs ne)) (sorted_of i xs r.1)
]

pub entries_of : (i : ℕ) (xs : List Item) → Rising xs → entries (from_sorted {R = key_cmp} (of_index i xs)) ≡ of_index i xs
entries_of i xs r = entries-from_sorted key_cmp (of_index i xs) (sorted_of i xs r)

tied_back : (a b : List ℕ) → eq_by_cmp key_cmp a b ≡ is_eq (key_cmp b a)
tied_back a b = (eq_by_cmp_equiv nat_list_cmp_total).symm a b

find_of : (i : ℕ) (k : List ℕ) (xs : List Item) → find key_cmp k (of_index i xs) ≡ value_at (i, k) xs
find_of i k [] = refl
find_of i k (x ∷ xs) = elim (cases_eq i x.0.0) [
  | inl e ↦
      let tie : eq_by_cmp key_cmp k x.0.1 ≡ is_eq (place_cmp x.0 (i, k)) = tied_back k x.0.1 ∙ ap is_eq (sym (same_index x.0.0 x.0.1 k)) ∙ ap (λ (n : ℕ). is_eq (place_cmp x.0 (n, k))) (sym e) in
      ap (find key_cmp k) (of_here i x xs e) ∙ ap (λ b. cond b (Some x.1) (find key_cmp k (of_index i xs))) tie ∙ ap (λ z. cond (is_eq (place_cmp x.0 (i, k))) (Some x.1) z) (find_of i k xs)
  | inr ne ↦
      let ne' : x.0.0 ≢ i = λ e. ne (sym e) in
      ap (find key_cmp k) (of_other i x xs ne) ∙ find_of i k xs ∙ sym (ap (λ b. cond b (Some x.1) (value_at (i, k) xs)) (apart_places x.0.0 i x.0.1 k ne'))
]

pub get_of : (i : ℕ) (k : List ℕ) (xs : List Item) → Rising xs → get (from_sorted {R = key_cmp} (of_index i xs)) k ≡ value_at (i, k) xs
get_of i k xs r = get-from_sorted key_cmp (of_index i xs) k (sorted_of i xs r) ∙ find_of i k xs

place_tie : (i : ℕ) (k q : List ℕ) → is_eq (place_cmp (i, k) (i, q)) ≡ eq_by_cmp key_cmp q k
place_tie i k q = ap is_eq (same_index i k q) ∙ sym (tied_back q k)

-- an entry more, and an entry less
pub map_more : (i : ℕ) (k v : List ℕ) (small big : List Item) → Rising small → Rising big → IsPut (i, k) v small big → from_sorted {R = key_cmp} (of_index i big) ≡ insert (from_sorted (of_index i small)) k v
map_more i k v small big r s h = same_map nat_list_cmp_total same_key _ _ (λ q.
    get_of i q big s ∙ value_more (i, k) v small big h (i, q)
    ∙ ap (λ b. cond b (Some v) (value_at (i, q) small)) (place_tie i k q)
    ∙ ap (λ z. cond (eq_by_cmp key_cmp q k) (Some v) z) (sym (get_of i q small r))
    ∙ sym (get-insert nat_list_cmp_total (from_sorted (of_index i small)) k v q))

pub map_less : (i : ℕ) (k v : List ℕ) (small big : List Item) → Rising small → Rising big → IsPut (i, k) v small big → from_sorted {R = key_cmp} (of_index i small) ≡ remove (from_sorted (of_index i big)) k
map_less i k v small big r s h = same_map nat_list_cmp_total same_key _ _ (λ q.
    get_of i q small r ∙ value_less (i, k) v small big h (i, q)
    ∙ ap (λ b. cond b None (value_at (i, q) big)) (place_tie i k q)
    ∙ ap (λ z. cond (eq_by_cmp key_cmp q k) None z) (sym (get_of i q big s))
    ∙ sym (get-remove nat_list_cmp_total (from_sorted (of_index i big)) k q))

of-append : (i : ℕ) (xs ys : List Item) → of_index i (xs ++ ys) ≡ of_index i xs ++ of_index i ys
of-append i [] ys = refl
of-append i (x ∷ xs) ys = elim (cases_eq i x.0.0) [
  | inl e ↦ of_here i x (xs ++ ys) e ∙ ap (λ (z : List Entry). (x.0.1, x.1) ∷ z) (of-append i xs ys) ∙ sym (ap (λ (z : List Entry). z ++ of_index i ys) (of_here i x xs e))
  | inr ne ↦ of_other i x (xs ++ ys) ne ∙ of-append i xs ys ∙ sym (ap (λ (z : List Entry). z ++ of_index i ys) (of_other i x xs ne))
]

pub list_other : (i j : ℕ) (k v : List ℕ) (small big : List Item) → IsPut (i, k) v small big → j ≢ i → of_index j big ≡ of_index j small
list_other i j k v small big h ne =
    ap (of_index j) h.big_is ∙ of-append j h.front _ ∙ ap (λ (z : List Entry). of_index j h.front ++ z) (of_other j ((i, k), v) h.back ne)
    ∙ sym (of-append j h.front h.back) ∙ sym (ap (of_index j) h.small_is)

pub length_more : (i : ℕ) (k v : List ℕ) (small big : List Item) → IsPut (i, k) v small big → length (of_index i big) ≡ length (of_index i small) + 1
length_more i k v small big h =
    let one : length (of_index i (((i, k), v) ∷ h.back)) ≡ length (of_index i h.back) + 1 = ap length (of_same i k v h.back) ∙ omega arith in
    omega (arith, ap (λ z. length (of_index i z)) h.big_is, ap (λ z. length (of_index i z)) h.small_is, ap length (of-append i h.front (((i, k), v) ∷ h.back)), ap length (of-append i h.front h.back), length-append (of_index i h.front) (of_index i (((i, k), v) ∷ h.back)), length-append (of_index i h.front) (of_index i h.back))

-- ---- what entries count

pub counted_more : (q : Place) (v : List ℕ) (small big : List Item) → IsPut q v small big → counted big ≡ counted small + (length q.1 + length v + 8)
counted_more q v small big h = omega (arith, ap counted h.big_is, ap counted h.small_is, counted-append h.front ((q, v) ∷ h.back), counted-append h.front h.back)

top_both : (xs ys : List Item) → AllTop xs → AllTop ys → AllTop (xs ++ ys)
top_both [] ys a b = b
top_both (x ∷ xs) ys a b = (a.0, top_both xs ys a.1 b)

top_parts : (xs ys : List Item) → AllTop (xs ++ ys) → AllTop xs × AllTop ys
top_parts [] ys a = (tt, a)
top_parts (x ∷ xs) ys a = let r = top_parts xs ys a.1 in ((a.0, r.0), r.1)

pub top_more : (q : Place) (v : List ℕ) (small big : List Item) → IsPut q v small big → q.0 ≤ last_index → AllTop small → AllTop big
top_more q v small big h le t =
    let p = top_parts h.front h.back (subst AllTop h.small_is t) in
    subst AllTop (sym h.big_is) (top_both h.front ((q, v) ∷ h.back) p.0 (le, p.1))

pub top_less : (q : Place) (v : List ℕ) (small big : List Item) → IsPut q v small big → AllTop big → AllTop small
top_less q v small big h t =
    let p = top_parts h.front ((q, v) ∷ h.back) (subst AllTop h.big_is t) in
    subst AllTop (sym h.small_is) (top_both h.front h.back p.0 p.1.1)

pub few_entries : (i : ℕ) (xs : List Item) → length (of_index i xs) ≤ counted xs
few_entries i [] = omega arith
few_entries i (x ∷ xs) = elim (cases_eq i x.0.0) [
  | inl e ↦ omega (arith, ap length (of_here i x xs e), few_entries i xs)
  | inr ne ↦ omega (arith, ap length (of_other i x xs ne), few_entries i xs)
]

-- ---- sums over the indexes

-- the items of all indexes are those of each
maps_of : List Item → ℕ → Map
maps_of xs i = from_sorted (of_index i xs)

size_of : (xs : List Item) (i : ℕ) → Rising xs → map_size (from_sorted (of_index i xs)) ≡ sum_by entry_size (of_index i xs)
size_of xs i r = ap (sum_by entry_size) (entries_of i xs r)

size_past : (x : Item) (xs : List Item) (n : ℕ) → n ≤ x.0.0 → size_below (maps_of (x ∷ xs)) n ≡ size_below (maps_of xs) n
unfolding maps_of
size_past x xs n le = size_same (maps_of (x ∷ xs)) (maps_of xs) n (λ i lt. let ne : i ≢ x.0.0 = omega arith in ap (from_sorted {R = key_cmp}) (of_other i x xs ne))

size_in : (x : Item) (xs : List Item) (n : ℕ) → Rising (x ∷ xs) → x.0.0 < n → size_below (maps_of (x ∷ xs)) n ≡ size_below (maps_of xs) n + (length x.0.1 + length x.1 + 8)
unfolding maps_of
size_in x xs zero r lt = absurd (omega arith)
size_in x xs (suc n) r lt = elim (cases_eq n x.0.0) [
  | inl e ↦
      let here : map_size (maps_of (x ∷ xs) n) ≡ length x.0.1 + length x.1 + 8 + map_size (maps_of xs n) = size_of (x ∷ xs) n r ∙ ap (sum_by entry_size) (of_here n x xs e) ∙ sums_cons (x.0.1, x.1) (of_index n xs) ∙ ap (λ m. length x.0.1 + length x.1 + 8 + m) (sym (size_of xs n r.1)) in
      omega (arith, size-more (maps_of (x ∷ xs)) n, size-more (maps_of xs) n, size_past x xs n (omega arith))
  | inr ne ↦
      let here : map_size (maps_of (x ∷ xs) n) ≡ map_size (maps_of xs n) = ap (λ (es : List Entry). map_size (from_sorted {R = key_cmp} es)) (of_other n x xs ne) in
      omega (arith, size-more (maps_of (x ∷ xs)) n, size-more (maps_of xs) n, size_in x xs n r (omega arith))
]

size_nothing : (n : ℕ) → size_below (maps_of []) n ≡ 0
unfolding maps_of
size_nothing zero = size-none (maps_of [])
size_nothing (suc n) = omega (arith, size-more (maps_of []) n, size_nothing n, size_of [] n tt)

used_counted_of : (xs : List Item) → Rising xs → AllTop xs → used (maps_of xs) ≡ counted xs
used_counted_of [] r t = size_nothing (suc last_index)
used_counted_of (x ∷ xs) r t = omega (arith, size_in x xs (suc last_index) r (omega (arith, t.0)), used_counted_of xs r.1 t.1)

pub used_counted_all : (t : Tree) → Rising t.all → AllTop t.all → used (map_of t) ≡ counted t.all
unfolding maps_of map_of
used_counted_all t r a = used_counted_of t.all r a

-- there is room for an entry more
pub room_for : (t : Tree) (i : ℕ) (k v : List ℕ) → IsTree t → i ≤ last_index → get (map_of t i) k ≡ None → used (with_map (map_of t) i (insert (map_of t i) k v)) ≤ data_limit t.pages → counted t.all + (length k + length v + 8) ≤ data_limit t.pages
room_for t i k v is le none within = omega (arith, used_insert (map_of t) i k v le none, used_counted_all t is.rising is.top)

-- ---- trees

-- u is t with one entry more
pub record Grown (t u : Tree) (i : ℕ) (k v : List ℕ) : Type 0 where
  pub map : map_of u i ≡ insert (map_of t i) k v
  pub back : map_of t i ≡ remove (map_of u i) k
  pub others : (j : ℕ) → j ≢ i → map_of u j ≡ map_of t j
  pub spare : spare_of t i ≡ spare_of u i + 1
  pub other_spares : (j : ℕ) → j ≢ i → spare_of u j ≡ spare_of t j

spare_is : (t : Tree) (i : ℕ) → Rising t.all → spare_of t i ≡ 2 ^ 32 - 1 + (data_limit t.pages - length (of_index i t.all))
unfolding map_of
spare_is t i r = ap (λ (n : ℕ). 2 ^ 32 - 1 + (data_limit t.pages - n)) (ap length (entries_of i t.all r))

spare_one : (t u : Tree) (i a b l : ℕ) → spare_of t i ≡ 2 ^ 32 - 1 + (l - a) → spare_of u i ≡ 2 ^ 32 - 1 + (l - b) → b ≡ a + 1 → b ≤ l → spare_of t i ≡ spare_of u i + 1
spare_one t u i a b l e f g h = e ∙ (let x : 2 ^ 32 - 1 + (l - a) ≡ 2 ^ 32 - 1 + (l - b) + 1 = omega arith in x) ∙ ap (λ (n : ℕ). n + 1) (sym f)

pub grown : (t u : Tree) (i : ℕ) (k v : List ℕ) → IsTree t → IsTree u → u.pages ≡ t.pages → IsPut (i, k) v t.all u.all → Grown t u i k v
unfolding map_of
grown t u i k v is will p h =
    let limit : data_limit u.pages ≡ data_limit t.pages = ap data_limit p in
    record {
      map = map_more i k v t.all u.all is.rising will.rising h;
      back = map_less i k v t.all u.all is.rising will.rising h;
      others = λ j ne. ap (from_sorted {R = key_cmp}) (list_other i j k v t.all u.all h ne);
      spare = spare_one t u i (length (of_index i t.all)) (length (of_index i u.all)) (data_limit t.pages)
          (spare_is t i is.rising) (spare_is u i will.rising ∙ ap (λ (l : ℕ). 2 ^ 32 - 1 + (l - length (of_index i u.all))) limit)
          (length_more i k v t.all u.all h) (omega (arith, few_entries i u.all, will.within));
      other_spares = λ j ne. spare_is u j will.rising ∙ ap (λ (l : ℕ). 2 ^ 32 - 1 + (l - length (of_index j u.all))) limit
          ∙ ap (λ (es : List Entry). 2 ^ 32 - 1 + (data_limit t.pages - length es)) (list_other i j k v t.all u.all h ne) ∙ sym (spare_is t j is.rising);
    }

-- what all count with another value in place of one that was taken
pub used_replaced : (t u : Tree) (i : ℕ) (k v w : List ℕ) → Grown t u i k w → used (with_map (map_of t) i (insert (map_of t i) k v)) ≡ used (with_map (map_of u) i (insert (map_of u i) k v))
used_replaced t u i k v w g = used_same _ _ (λ j. elim (cases_eq j i) [
  | inl e ↦
      let same : insert (map_of t i) k v ≡ insert (map_of u i) k v = ap (λ (m : Map). insert m k v) g.back ∙ insert_removed (map_of u i) k v in
      ap (with_map (map_of t) i (insert (map_of t i) k v)) e ∙ with_here (map_of t) i (insert (map_of t i) k v) ∙ same ∙ sym (ap (with_map (map_of u) i (insert (map_of u i) k v)) e ∙ with_here (map_of u) i (insert (map_of u i) k v))
  | inr ne ↦ with_other (map_of t) i j (insert (map_of t i) k v) ne ∙ sym (g.others j ne) ∙ sym (with_other (map_of u) i j (insert (map_of u i) k v) ne)
])

-- ---- another value of as many bytes

pub top_swapped : (q : Place) (v : List ℕ) (old new : List Item) → IsSwapped q v old new → AllTop old → AllTop new
top_swapped q v old new s t =
    let low = (top_parts s.was.front _ (subst AllTop s.was.big_is t)).1.0 in
    top_more q v s.rest new s.is low (top_less q s.before s.rest old s.was t)

pub counted_swapped : (q : Place) (v : List ℕ) (old new : List Item) → IsSwapped q v old new → counted new ≡ counted old
counted_swapped q v old new s = omega (arith, counted_more q v s.rest new s.is, counted_more q s.before s.rest old s.was, s.size)

-- the tree without the entry
pub between_values : (t : Tree) (q : Place) (v : List ℕ) (new : List Item) → IsTree t → (s : IsSwapped q v t.all new) → IsTree (record t { all = s.rest })
between_values t q v new is s =
    record {
      rising = subst Rising (sym s.was.small_is) (rising_without s.was.front s.was.back _ (subst Rising s.was.big_is is.rising));
      top = top_less q s.before s.rest t.all s.was is.top;
      within = omega (arith, is.within, counted_more q s.before s.rest t.all s.was);
    }

-- another value at a place, by the tree without the entry
pub record Reset (u w : Tree) (i : ℕ) (k v : List ℕ) : Type 0 where
  pub map : map_of w i ≡ insert (map_of u i) k v
  pub others : (j : ℕ) → j ≢ i → map_of w j ≡ map_of u j
  pub spares : (j : ℕ) → spare_of u j ≤ spare_of w j

spares_reset : (t u w : Tree) (index : ℕ) (k v x : List ℕ) → Grown t u index k v → Grown t w index k x → (i : ℕ) → (i ≡ index) ⊎ (i ≢ index) → spare_of u i ≤ spare_of w i
spares_reset t u w index k v x g h i (inl e) = subst (λ (n : ℕ). spare_of u n ≤ spare_of w n) (sym e) (omega (arith, g.spare, h.spare))
spares_reset t u w index k v x g h i (inr ne) = omega (arith, g.other_spares i ne, h.other_spares i ne)

pub reset : (t u w : Tree) (i : ℕ) (k v x : List ℕ) → Grown t u i k v → Grown t w i k x → Reset u w i k x
reset t u w i k v x g h = record {
  map = h.map ∙ ap (λ (m : Map). insert m k x) g.back ∙ insert_removed (map_of u i) k x;
  others = λ j ne. h.others j ne ∙ sym (g.others j ne);
  spares = λ j. spares_reset t u w i k v x g h j (cases_eq j i);
}

pub reset_in_place : (u w : Tree) (i : ℕ) (k v : List ℕ) → IsTree u → IsTree w → w.pages ≡ u.pages → IsSwapped (i, k) v u.all w.all → Reset u w i k v
reset_in_place u w i k v was is pages s =
    let t : Tree = record u { all = s.rest } in
    let mid = between_values u (i, k) v w.all was s in
    reset t u w i k s.before v (grown t u i k s.before mid was refl s.was) (grown t w i k v mid is pages s.is)
