-- The stored pages of an image hold just the entries of the stored indexes.
use Rattle.std.proofs.Common.{ℕ, suc, zero, ◌≡◌, ◌≢◌, ◌*◌, ◌<◌, ◌⊎◌, inl, inr, Bool, true, false, cond, Option, Some, None, List, [], ◌∷◌, ◌++◌, length, take, get_or, refl, sym, ap, ◌∙◌, subst, arith}
use Rattle.std.specs.declared.cmp.Ordering.TheVariants.{Less, Equal}
use Rattle.std.specs.Ordering.{is_eq}
use Rattle.std.proofs.lemmas.Cmp.{nat_list_cmp_total, tied_itself}
use Rattle.std.proofs.lemmas.List.{get_or-take, length-take-le, get_or_past}
use Rattle.std.proofs.lemmas.List.FromFn.{get_or-map-range_with_len, length-map-range_with_len}
use Rattle.std.proofs.lemmas.Bool.{cases_lt, cases_eq, cases_order}
use Rattle.disk_io.specs.Disk.{part}
use Rattle.page_store.specs.Publish.{page_if, stored_pages}
use Rattle.slot_page.specs.Page.{Entry, no_entry, IsPage}
use Rattle.slot_page.specs.Order.{key_cmp, key_at, IsRising, StandsAt}
use Rattle.ordered_index.specs.Tree.{map_of}
use Rattle.ordered_index.specs.Row.{Leaf, no_leaf, leaf_of}
use Rattle.ordered_index.specs.Flat.{Place, Item, place_cmp, AllBelow, Rising, value_at, tagged, items, IsForest}
use Rattle.ordered_index.specs.Tree.{Tree}
use Rattle.ordered_index.specs.Drawn.{StandsIn, IsDrawn, IsLaid}
use Rattle.ordered_index.proofs.Flats.{total}
use Rattle.ordered_index.proofs.Finds.{leaf_is_rising}
use Rattle.ordered_index.proofs.Takes.{parted}
use Rattle.ordered_index.proofs.Maps.{get_of, value_hit, same_place, is_tied}

-- ---- stored pages

stored_at : (flags : List Bool) (bytes : List ℕ) (p : ℕ) → p < length flags → get_or (stored_pages flags bytes) p None ≡ page_if flags bytes p
stored_at flags bytes p lt = get_or-map-range_with_len (page_if flags bytes) 0 (length flags) p p None lt (omega arith)

or_none : Option (List ℕ) → List ℕ
or_none None = []
or_none (Some x) = x

some_same : (a b : List ℕ) → Some a ≡ Some b → a ≡ b
unfolding or_none
some_same a b e = ap or_none e

flag_of : (b : Bool) (x page : List ℕ) → cond b (Some x) None ≡ Some page → (b ≡ true) × (page ≡ x)
flag_of true x page e = (refl, sym (some_same x page e))
flag_of false x page e = absurd (cc e)

is_stored : (flags : List Bool) (bytes : List ℕ) (p : ℕ) (page : List ℕ) → get_or (stored_pages flags bytes) p None ≡ Some page → (get_or flags p false ≡ true) × (page ≡ part (8192 * p) 8192 bytes)
is_stored flags bytes p page e = elim (cases_lt p (length flags)) [
  | inl lt ↦ flag_of (get_or flags p false) (part (8192 * p) 8192 bytes) page (sym (stored_at flags bytes p lt) ∙ e)
  | inr le ↦ let none : get_or (stored_pages flags bytes) p None ≡ None = get_or_past (stored_pages flags bytes) p None (omega (arith, length-map-range_with_len (page_if flags bytes) 0 (length flags))) in absurd (cc (none, e))
]

-- where a page stands in an order
record Ordered (order : List ℕ) (p : ℕ) : Type 0 where
  k : ℕ
  inside : k < length order
  at : get_or order k 0 ≡ p

next_one : (x : ℕ) (order : List ℕ) (p : ℕ) → Ordered order p → Ordered (x ∷ order) p
next_one x order p o = record { k = suc o.k; inside = omega (arith, o.inside); at = o.at }

nowhere : (x : ℕ) (order : List ℕ) (p : ℕ) → x ≢ p → ((k : ℕ) → k < length order → get_or order k 0 ≢ p) → (k : ℕ) → k < length (x ∷ order) → get_or (x ∷ order) k 0 ≢ p
nowhere x order p ne f zero lt = ne
nowhere x order p ne f (suc k) lt = f k (omega arith)

seek_page : (order : List ℕ) (p : ℕ) → Ordered order p ⊎ ((k : ℕ) → k < length order → get_or order k 0 ≢ p)
seek_page [] p = inr (λ k lt. absurd (omega arith))
seek_page (x ∷ order) p = elim (cases_eq x p) [
  | inl e ↦ inl (record { k = 0; inside = omega arith; at = e })
  | inr ne ↦ elim (seek_page order p) [ inl o ↦ inl (next_one x order p o) | inr f ↦ inr (nowhere x order p ne f) ]
]

-- the leaf of a stored page
record OfLeaf (kept : List Bool) (ls : List Leaf) (order : List ℕ) (p : ℕ) (page : List ℕ) : Type 0 where
  k : ℕ
  inside : k < length ls
  at : get_or order k 0 ≡ p
  leaf : leaf_of page ≡ get_or ls k no_leaf
  stored : get_or kept (get_or ls k no_leaf).0 false ≡ true
  packed : IsPage page

of_leaf : (pages : ℕ) (kept : List Bool) (ls : List Leaf) (order : List ℕ) (flags : List Bool) (bytes : List ℕ) (p : ℕ) (page : List ℕ) → IsLaid pages kept ls order flags bytes → get_or (stored_pages flags bytes) p None ≡ Some page → OfLeaf kept ls order p page
of_leaf pages kept ls order flags bytes p page l e =
    let s = is_stored flags bytes p page e in
    elim (seek_page order p) [
      | inl o ↦
          let same : page ≡ part (8192 * get_or order o.k 0) 8192 bytes = s.1 ∙ ap (λ (n : ℕ). part (8192 * n) 8192 bytes) (sym o.at) in
          record {
            k = o.k;
            inside = omega (arith, o.inside, l.number);
            at = o.at;
            leaf = ap leaf_of same ∙ l.leaf o.k o.inside;
            stored = sym (l.here o.k o.inside) ∙ ap (λ (n : ℕ). get_or flags n false) o.at ∙ s.0;
            packed = subst IsPage (sym same) (l.packed o.k o.inside);
          }
      | inr f ↦ let no = l.others p f in let yes = s.0 in absurd (cc (no, yes))
    ]

-- ---- entries at their places

-- where a value stands
record Spotted (q : Place) (v : List ℕ) (ls : List Leaf) : Type 0 where
  k : ℕ
  i : ℕ
  inside : k < length ls
  of : (get_or ls k no_leaf).0 ≡ q.0
  low : i < length (get_or ls k no_leaf).1
  entry : get_or (get_or ls k no_leaf).1 i no_entry ≡ (q.1, v)

record Among (n : ℕ) (es : List Entry) (q : Place) (v : List ℕ) : Type 0 where
  i : ℕ
  low : i < length es
  of : n ≡ q.0
  entry : get_or es i no_entry ≡ (q.1, v)

later : (n : ℕ) (e : Entry) (es : List Entry) (q : Place) (v : List ℕ) → Among n es q v → Among n (e ∷ es) q v
later n e es q v a = record { i = suc a.i; low = omega (arith, a.low); of = a.of; entry = a.entry }

first_one : (n : ℕ) (e : Entry) (es : List Entry) (q : Place) (v : List ℕ) → place_cmp (n, e.0) q ≡ Equal → e.1 ≡ v → Among n (e ∷ es) q v
first_one n e es q v tie same =
    let p : (n, e.0) ≡ q = same_place (n, e.0) q tie in
    record { i = 0; low = omega arith; of = ap (λ (x : Place). x.0) p; entry = ap (λ (k : List ℕ). let y : Entry = (k, e.1) in y) (ap (λ (x : Place). x.1) p) ∙ ap (λ (w : List ℕ). let y : Entry = (q.1, w) in y) same }

in_tagged : (n : ℕ) (es : List Entry) (xs : List Item) (q : Place) (v : List ℕ) → value_at q (tagged n es ++ xs) ≡ Some v → Among n es q v ⊎ (value_at q xs ≡ Some v)
in_tagged n [] xs q v h = inr h
in_tagged n (e ∷ es) xs q v h = elim (is_eq (place_cmp (n, e.0) q)) as (λ b. is_eq (place_cmp (n, e.0) q) ≡ b → Among n (e ∷ es) q v ⊎ (value_at q xs ≡ Some v)) [
  | true ↦ λ t. inl (first_one n e es q v (is_tied _ t) (some_same e.1 v (sym (ap (λ b. cond b (Some e.1) (value_at q (tagged n es ++ xs))) t) ∙ h)))
  | false ↦ λ t. elim (in_tagged n es xs q v (sym (ap (λ b. cond b (Some e.1) (value_at q (tagged n es ++ xs))) t) ∙ h)) [ inl a ↦ inl (later n e es q v a) | inr r ↦ inr r ]
] refl

in_leaves : (ls : List Leaf) (q : Place) (v : List ℕ) → value_at q (items ls) ≡ Some v → Spotted q v ls
in_leaves [] q v h = absurd (cc h)
in_leaves (l ∷ ls) q v h = elim (in_tagged l.0 l.1 (items ls) q v h) [
  | inl a ↦ record { k = 0; i = a.i; inside = omega arith; of = a.of; low = a.low; entry = a.entry }
  | inr r ↦ let s = in_leaves ls q v r in record { k = suc s.k; i = s.i; inside = omega (arith, s.inside); of = s.of; low = s.low; entry = s.entry }
]

stands_there : (es : List Entry) (i : ℕ) → i < length es → StandsAt (key_at es i) es i
stands_there es i lt = record { inside = lt; same = tied_itself nat_list_cmp_total (key_at es i) }

-- an entry of a leaf is the value at its place
value_there : (ls : List Leaf) (k i : ℕ) → IsForest ls → k < length ls → i < length (get_or ls k no_leaf).1 → value_at ((get_or ls k no_leaf).0, key_at (get_or ls k no_leaf).1 i) (items ls) ≡ Some (get_or (get_or ls k no_leaf).1 i no_entry).1
value_there ls k i f lt low =
    let l = get_or ls k no_leaf in
    let q : Place = (l.0, key_at l.1 i) in
    let p = parted l.0 (key_at l.1 i) ls k i l.1 f lt refl (stands_there l.1 i low) in
    ap (value_at q) p.is ∙ value_hit q q (get_or l.1 i no_entry).1 _ _ p.below (ap is_eq (tied_itself total q))

below_first : (q : Place) (xs ys : List Item) → AllBelow q (xs ++ ys) → AllBelow q xs
below_first q [] ys b = tt
below_first q (x ∷ xs) ys b = (b.0, below_first q xs ys b.1)

below_rest : (q : Place) (xs ys : List Item) → AllBelow q (xs ++ ys) → AllBelow q ys
below_rest q [] ys b = b
below_rest q (x ∷ xs) ys b = below_rest q xs ys b.1

below_entry : (q : Place) (n : ℕ) (es : List Entry) (i : ℕ) → AllBelow q (tagged n es) → i < length es → place_cmp (n, key_at es i) q ≡ Less
below_entry q n [] i b lt = absurd (omega arith)
below_entry q n (e ∷ es) zero b lt = b.0
below_entry q n (e ∷ es) (suc i) b lt = below_entry q n es i b.1 (omega arith)

below_leaf : (q : Place) (ms : List Leaf) (k i : ℕ) → AllBelow q (items ms) → k < length ms → i < length (get_or ms k no_leaf).1 → place_cmp ((get_or ms k no_leaf).0, key_at (get_or ms k no_leaf).1 i) q ≡ Less
below_leaf q [] k i b lt low = absurd (omega arith)
below_leaf q (m ∷ ms) zero i b lt low = below_entry q m.0 m.1 i (below_first q (tagged m.0 m.1) (items ms) b) low
below_leaf q (m ∷ ms) (suc k) i b lt low = below_leaf q ms k i (below_rest q (tagged m.0 m.1) (items ms) b) (omega arith) low

-- entries of an earlier leaf are below
earlier : (ls : List Leaf) (k l i j : ℕ) → IsForest ls → k < l → l < length ls → i < length (get_or ls k no_leaf).1 → j < length (get_or ls l no_leaf).1
    → place_cmp ((get_or ls k no_leaf).0, key_at (get_or ls k no_leaf).1 i) ((get_or ls l no_leaf).0, key_at (get_or ls l no_leaf).1 j) ≡ Less
earlier ls k l i j f lt inside low lower =
    let m = get_or ls l no_leaf in
    let q : Place = (m.0, key_at m.1 j) in
    let p = parted m.0 (key_at m.1 j) ls l j m.1 f inside refl (stands_there m.1 j lower) in
    let b : AllBelow q (items (take l ls)) = below_first q (items (take l ls)) _ p.below in
    let same : get_or (take l ls) k no_leaf ≡ get_or ls k no_leaf = get_or-take l ls k no_leaf lt in
    subst (λ (x : Leaf). place_cmp (x.0, key_at x.1 i) q ≡ Less) same
    (below_leaf q (take l ls) k i b (omega (arith, length-take-le l ls (omega arith))) (subst (λ (x : Leaf). i < length x.1) (sym same) low))

not_itself : (p q : Place) → p ≡ q → place_cmp p q ≡ Less → ⊥
not_itself p q e h = let t : place_cmp p p ≡ Equal = tied_itself total p in let g : place_cmp p p ≡ Less = ap (place_cmp p) e ∙ h in absurd (cc (t, g))

not_same_key : (a b : List ℕ) → a ≡ b → key_cmp a b ≡ Less → ⊥
not_same_key a b e h = let t : key_cmp a a ≡ Equal = tied_itself nat_list_cmp_total a in let g : key_cmp a a ≡ Less = ap (key_cmp a) e ∙ h in absurd (cc (t, g))

-- one place has one entry
one_leaf : (ls : List Leaf) (k l i j : ℕ) → IsForest ls → k < length ls → l < length ls → i < length (get_or ls k no_leaf).1 → j < length (get_or ls l no_leaf).1
    → (let p : Place = ((get_or ls k no_leaf).0, key_at (get_or ls k no_leaf).1 i) in p) ≡ ((get_or ls l no_leaf).0, key_at (get_or ls l no_leaf).1 j) → k ≡ l
one_leaf ls k l i j f hk hl hi hj e = elim (cases_order k l) [
  | inl same ↦ same
  | inr (inl less) ↦ absurd (not_itself _ _ e (earlier ls k l i j f less hl hi hj))
  | inr (inr more) ↦ absurd (not_itself _ _ (sym e) (earlier ls l k j i f more hk hj hi))
]

one_entry : (es : List Entry) (i j : ℕ) → IsRising es → i < length es → j < length es → key_at es i ≡ key_at es j → i ≡ j
one_entry es i j r hi hj e = elim (cases_order i j) [
  | inl same ↦ same
  | inr (inl less) ↦ absurd (not_same_key _ _ e (r.each i j less hj))
  | inr (inr more) ↦ absurd (not_same_key _ _ (sym e) (r.each j i more hi))
]

-- ---- what the stored pages hold

-- an entry of a stored page, by its leaf
record Placed (kept : List Bool) (ls : List Leaf) (order : List ℕ) (index : ℕ) (key value : List ℕ) (p i : ℕ) : Type 0 where
  k : ℕ
  inside : k < length ls
  at : get_or order k 0 ≡ p
  stored : get_or kept index false ≡ true
  of : (get_or ls k no_leaf).0 ≡ index
  low : i < length (get_or ls k no_leaf).1
  entry : get_or (get_or ls k no_leaf).1 i no_entry ≡ (key, value)

placed : (pages : ℕ) (kept : List Bool) (ls : List Leaf) (order : List ℕ) (flags : List Bool) (bytes : List ℕ) (index : ℕ) (key value : List ℕ) (p i : ℕ) → IsLaid pages kept ls order flags bytes → StandsIn (stored_pages flags bytes) index key value p i → Placed kept ls order index key value p i
placed pages kept ls order flags bytes index key value p i l s =
    let o = of_leaf pages kept ls order flags bytes p s.page l s.there in
    let of : (get_or ls o.k no_leaf).0 ≡ index = ap (λ (x : Leaf). x.0) (sym o.leaf) ∙ s.of in
    record {
      k = o.k;
      inside = o.inside;
      at = o.at;
      stored = subst (λ (n : ℕ). get_or kept n false ≡ true) of o.stored;
      of = of;
      low = subst (λ (x : Leaf). i < length x.1) o.leaf s.inside;
      entry = ap (λ (x : Leaf). get_or x.1 i no_entry) (sym o.leaf) ∙ s.entry;
    }

place_is : (kept : List Bool) (ls : List Leaf) (order : List ℕ) (index : ℕ) (key value : List ℕ) (p i : ℕ) (w : Placed kept ls order index key value p i) → (let q : Place = ((get_or ls w.k no_leaf).0, key_at (get_or ls w.k no_leaf).1 i) in q) ≡ (index, key)
place_is kept ls order index key value p i w =
    ap (λ (n : ℕ). let q : Place = (n, key_at (get_or ls w.k no_leaf).1 i) in q) w.of ∙ ap (λ (e : Entry). let q : Place = (index, e.0) in q) w.entry

once : (kept : List Bool) (ls : List Leaf) (order : List ℕ) (index : ℕ) (key value other : List ℕ) (p i q j : ℕ) → IsForest ls → Placed kept ls order index key value p i → Placed kept ls order index key other q j → (p ≡ q) × (i ≡ j)
once kept ls order index key value other p i q j f a b =
    let same : a.k ≡ b.k = one_leaf ls a.k b.k i j f a.inside b.inside a.low b.low (place_is kept ls order index key value p i a ∙ sym (place_is kept ls order index key other q j b)) in
    let low : j < length (get_or ls a.k no_leaf).1 = subst (λ (n : ℕ). j < length (get_or ls n no_leaf).1) (sym same) b.low in
    let keys : key_at (get_or ls a.k no_leaf).1 i ≡ key_at (get_or ls a.k no_leaf).1 j =
    ap (λ (e : Entry). e.0) a.entry ∙ sym (ap (λ (n : ℕ). key_at (get_or ls n no_leaf).1 j) same ∙ ap (λ (e : Entry). e.0) b.entry) in
    (sym a.at ∙ ap (λ (n : ℕ). get_or order n 0) same ∙ b.at, one_entry (get_or ls a.k no_leaf).1 i j (leaf_is_rising ls a.k f a.inside) a.low low keys)

held : (pages : ℕ) (kept : List Bool) (ls : List Leaf) (order : List ℕ) (flags : List Bool) (bytes : List ℕ) (index : ℕ) (key value : List ℕ) → IsLaid pages kept ls order flags bytes → get_or kept index false ≡ true → Spotted (index, key) value ls → (p : ℕ) × (i : ℕ) × StandsIn (stored_pages flags bytes) index key value p i
held pages kept ls order flags bytes index key value l stored s =
    let here : s.k < length order = omega (arith, s.inside, l.number) in
    let p = get_or order s.k 0 in
    let leaf = l.leaf s.k here in
    let flag : get_or flags p false ≡ true = l.here s.k here ∙ ap (λ (n : ℕ). get_or kept n false) s.of ∙ stored in
    let low : p < length flags = omega (arith, l.inside s.k here, l.count) in (
      p,
      s.i,
      record {
        page = part (8192 * p) 8192 bytes;
        there = stored_at flags bytes p low ∙ ap (λ b. cond b (Some (part (8192 * p) 8192 bytes)) None) flag;
        of = ap (λ (x : Leaf). x.0) leaf ∙ s.of;
        inside = subst (λ (x : Leaf). s.i < length x.1) (sym leaf) s.low;
        entry = ap (λ (x : Leaf). get_or x.1 s.i no_entry) leaf ∙ s.entry;
      },
    )

-- the pages that are laid hold just the entries of the stored indexes
pub drawn : (t : Tree) (ls : List Leaf) (order : List ℕ) (flags : List Bool) (bytes : List ℕ) → t.all ≡ items ls → IsForest ls → IsLaid t.pages t.kept ls order flags bytes → IsDrawn t flags bytes
unfolding map_of
drawn t ls order flags bytes all f l =
    let rising : Rising t.all = subst Rising (sym all) f.rising in
    record {
      count = l.count;
      holds = record {
        packed = λ p page e. (of_leaf t.pages t.kept ls order flags bytes p page l e).packed;
        held = λ index key value stored e. held t.pages t.kept ls order flags bytes index key value l stored (in_leaves ls (index, key) value (ap (value_at (index, key)) (sym all) ∙ sym (get_of index key t.all rising) ∙ e));
        just = λ index key value p i s.
            let w = placed t.pages t.kept ls order flags bytes index key value p i l s in
            (w.stored, get_of index key t.all rising ∙ ap (value_at (index, key)) all ∙ ap (λ (q : Place). value_at q (items ls)) (sym (place_is t.kept ls order index key value p i w)) ∙ value_there ls w.k i f w.inside w.low ∙ ap (λ (e : Entry). Some e.1) w.entry);
        once = λ index key value other p i q j a b. once t.kept ls order index key value other p i q j f (placed t.pages t.kept ls order flags bytes index key value p i l a) (placed t.pages t.kept ls order flags bytes index key other q j l b);
      };
    }
