-- The entries of one index among all items.
use Rattle.std.proofs.Common.{ℕ, suc, zero, ◌≡◌, ◌≢◌, ◌+◌, ◌-◌, ◌<◌, ◌≤◌, ◌⊎◌, inl, inr, Bool, true, false, cond, Some, List, [], ◌∷◌, ◌++◌, length, take, drop, get_or, slice_get, refl, sym, ap, ◌∙◌, subst, arith}
use Rattle.std.specs.declared.cmp.Ordering.TheVariants.{Less, Greater}
use Rattle.std.specs.Ordering.{is_ge, is_gt}
use Rattle.std.proofs.lemmas.Bool.{cases_lt, cases_eq, eq-eqb, ne_eqb}
use Rattle.std.proofs.lemmas.List.{drop_more}
use Rattle.iv_types.specs.Maps.{first_where}
use Rattle.slot_page.specs.Page.{Entry, no_entry}
use Rattle.slot_page.specs.Order.{key_cmp, key_at, IsRising, StandsAt, Missing}
use Rattle.slot_page.proofs.Order.{less_back}
use Rattle.ordered_index.specs.Row.{Leaf, no_leaf}
use Rattle.ordered_index.specs.Flat.{Item, place_cmp, AllAbove, AllBelow, Rising, of_index, tagged, items, start, Sought, IsForest, passes, Starts}
use Rattle.ordered_index.proofs.Flats.{items_around, tagged_start}
use Rattle.ordered_index.proofs.Finds.{same_index, greater_back, at_most_index, rising_rest, above_rest}
use Rattle.ordered_index.proofs.Puts.{items_halves, Landed}
use Rattle.ordered_index.proofs.Takes.{same_key}

pub of_same : (i : ℕ) (k v : List ℕ) (xs : List Item) → of_index i (((i, k), v) ∷ xs) ≡ (k, v) ∷ of_index i xs
of_same i k v xs = ap (λ b. cond b ((k, v) ∷ of_index i xs) (of_index i xs)) (eq-eqb i i refl)

pub of_here : (i : ℕ) (x : Item) (xs : List Item) → i ≡ x.0.0 → of_index i (x ∷ xs) ≡ (x.0.1, x.1) ∷ of_index i xs
of_here i x xs e = ap (λ b. cond b ((x.0.1, x.1) ∷ of_index i xs) (of_index i xs)) (eq-eqb i x.0.0 e)

pub of_other : (i : ℕ) (x : Item) (xs : List Item) → i ≢ x.0.0 → of_index i (x ∷ xs) ≡ of_index i xs
of_other i x xs ne = ap (λ b. cond b ((x.0.1, x.1) ∷ of_index i xs) (of_index i xs)) (ne_eqb i x.0.0 ne)

-- no entry of an index stands after a higher one
pub none_after : (i j : ℕ) (k : List ℕ) (xs : List Item) → i < j → AllAbove (j, k) xs → of_index i xs ≡ []
none_after i j k [] h a = refl
none_after i j k (x ∷ xs) h a =
    let le : j ≤ x.0.0 = at_most_index j x.0.0 k x.0.1 (inl a.0) in
    let ne : i ≢ x.0.0 = omega arith in
    of_other i x xs ne ∙ none_after i j k xs h a.1

pub of_tagged : (i : ℕ) (es : List Entry) (xs : List Item) → of_index i (tagged i es ++ xs) ≡ es ++ of_index i xs
of_tagged i [] xs = refl
of_tagged i (e ∷ es) xs = of_same i e.0 e.1 (tagged i es ++ xs) ∙ ap (λ (z : List Entry). e ∷ z) (of_tagged i es xs)

-- ---- which keys pass

passes_less : (after : Bool) (key k : List ℕ) → key_cmp k key ≡ Less → passes after key k ≡ false
passes_less true key k is = ap is_gt is
passes_less false key k is = ap is_ge is

passes_greater : (after : Bool) (key k : List ℕ) → key_cmp k key ≡ Greater → passes after key k ≡ true
passes_greater true key k is = ap is_gt is
passes_greater false key k is = ap is_ge is

pub starts_missing : (after : Bool) (key : List ℕ) (es : List Entry) (i : ℕ) → Missing key es i → Starts (passes after key) es i
starts_missing after key es i m = record {
  inside = m.inside;
  before = λ j lt. passes_less after key (key_at es j) (m.below j lt);
  here = λ lt. passes_greater after key (key_at es i) (m.above i (omega arith) lt);
}

-- those before the key's place
lower : (key : List ℕ) (es : List Entry) (i j : ℕ) → IsRising es → StandsAt key es i → j < i → key_cmp (key_at es j) key ≡ Less
lower key es i j r s lt = subst (λ k. key_cmp (key_at es j) k ≡ Less) (same_key (key_at es i) key s.same) (r.each j i lt s.inside)

pub starts_at : (key : List ℕ) (es : List Entry) (i : ℕ) → IsRising es → StandsAt key es i → Starts (passes false key) es i
starts_at key es i r s = record {
  inside = omega (arith, s.inside);
  before = λ j lt. passes_less false key (key_at es j) (lower key es i j r s lt);
  here = λ lt. ap is_ge s.same;
}

after_at : (key : List ℕ) (es : List Entry) (i j : ℕ) → IsRising es → StandsAt key es i → j < i + 1 → (j < i) ⊎ (i ≤ j) → passes true key (key_at es j) ≡ false
after_at key es i j r s lt (inl h) = passes_less true key (key_at es j) (lower key es i j r s h)
after_at key es i j r s lt (inr h) = let e : j ≡ i = omega arith in ap (λ n. passes true key (key_at es n)) e ∙ ap is_gt s.same

pub starts_after : (key : List ℕ) (es : List Entry) (i : ℕ) → IsRising es → StandsAt key es i → Starts (passes true key) es (i + 1)
starts_after key es i r s = record {
  inside = omega (arith, s.inside);
  before = λ j lt. after_at key es i j r s lt (cases_lt j i);
  here = λ lt. passes_greater true key (key_at es (i + 1)) (less_back key (key_at es (i + 1)) (subst (λ k. key_cmp k (key_at es (i + 1)) ≡ Less) (same_key (key_at es i) key s.same) (r.each i (i + 1) (omega arith) lt)));
}

-- ---- the first entry that passes

pub first_in : (test : List ℕ → Bool) (es fs : List Entry) (i : ℕ) → Starts test es i → i < length es → first_where test (es ++ fs) ≡ Some (get_or es i no_entry)
first_in test [] fs i s lt = absurd (omega arith)
first_in test (e ∷ es) fs zero s lt = rw (s.here (omega arith)) refl
first_in test (e ∷ es) fs (suc i) s lt =
    let t : Starts test es i = record { inside = omega (arith, s.inside); before = λ j h. s.before (suc j) (omega arith); here = λ h. s.here (omega arith) } in
    rw (s.before 0 (omega arith)) (first_in test es fs i t (omega arith))

first_past_all : (test : List ℕ → Bool) (es fs : List Entry) → ((j : ℕ) → j < length es → test (get_or es j no_entry).0 ≡ false) → first_where test (es ++ fs) ≡ first_where test fs
first_past_all test [] fs f = refl
first_past_all test (e ∷ es) fs f = rw (f 0 (omega arith)) (first_past_all test es fs (λ j h. f (suc j) (omega arith)))

pub first_past : (test : List ℕ → Bool) (es fs : List Entry) (i : ℕ) → Starts test es i → length es ≤ i → first_where test (es ++ fs) ≡ first_where test fs
first_past test es fs i s le = first_past_all test es fs (λ j h. s.before j (omega arith))

first_head : (test : List ℕ → Bool) (es : List Entry) → (0 < length es → test (get_or es 0 no_entry).0 ≡ true) → first_where test es ≡ slice_get es 0
first_head test [] f = refl
first_head test (e ∷ es) f = rw (f (omega arith)) refl

below_skip : (of : ℕ) (key : List ℕ) (after : Bool) (xs ys : List Item) → AllBelow (of, key) xs → first_where (passes after key) (of_index of (xs ++ ys)) ≡ first_where (passes after key) (of_index of ys)
below_skip of key after [] ys b = refl
below_skip of key after (x ∷ xs) ys b = elim (cases_eq of x.0.0) [
  | inl e ↦
      let less : key_cmp x.0.1 key ≡ Less = sym (same_index x.0.0 x.0.1 key) ∙ subst (λ (i : ℕ). place_cmp x.0 (i, key) ≡ Less) e b.0 in
      let fails : passes after key x.0.1 ≡ false = passes_less after key x.0.1 less in
      ap (first_where (passes after key)) (of_here of x (xs ++ ys) e) ∙ ap (λ t. cond t (Some (x.0.1, x.1)) (first_where (passes after key) (of_index of (xs ++ ys)))) fails ∙ below_skip of key after xs ys b.1
  | inr ne ↦ ap (first_where (passes after key)) (of_other of x (xs ++ ys) ne) ∙ below_skip of key after xs ys b.1
]

above_head : (of : ℕ) (key : List ℕ) (ys : List Item) → AllAbove (of, key) ys → 0 < length (of_index of ys) → key_cmp (get_or (of_index of ys) 0 no_entry).0 key ≡ Greater
above_head of key [] a some = absurd (omega arith)
above_head of key (y ∷ ys) a some = elim (cases_eq of y.0.0) [
  | inl e ↦
      let less : key_cmp key y.0.1 ≡ Less = sym (same_index y.0.0 key y.0.1) ∙ subst (λ (i : ℕ). place_cmp (i, key) y.0 ≡ Less) e a.0 in
      ap (λ (z : List Entry). key_cmp (get_or z 0 no_entry).0 key) (of_here of y ys e) ∙ less_back key y.0.1 less
  | inr ne ↦
      let rest : of_index of (y ∷ ys) ≡ of_index of ys = of_other of y ys ne in
      ap (λ (z : List Entry). key_cmp (get_or z 0 no_entry).0 key) rest ∙ above_head of key ys a.1 (subst (λ (z : List Entry). 0 < length z) rest some)
]

first_above : (of : ℕ) (key : List ℕ) (after : Bool) (ys : List Item) → AllAbove (of, key) ys → first_where (passes after key) (of_index of ys) ≡ slice_get (of_index of ys) 0
first_above of key after ys a = first_head (passes after key) (of_index of ys) (λ some. passes_greater after key _ (above_head of key ys a some))

-- ---- over leaves

-- no leaf from k on has a lower index
pub not_lower : (of k : ℕ) (key : List ℕ) (ls : List Leaf) → Sought (of, key) ls k → k < length ls → of ≤ (get_or ls k no_leaf).0
not_lower of k key ls s lt = let l = get_or ls k no_leaf in at_most_index of l.0 key (get_or l.1 0 no_entry).0 (inl (greater_back (start l) (of, key) (s.after lt)))

-- all leaves before k are below
pub first_beyond : (of k : ℕ) (key : List ℕ) (after : Bool) (ls : List Leaf) → IsForest ls → Sought (of, key) ls k → AllBelow (of, key) (items (take k ls)) → first_where (passes after key) (of_index of (items ls)) ≡ slice_get (of_index of (items (drop k ls))) 0
first_beyond of k key after ls f s b =
    ap (λ z. first_where (passes after key) (of_index of z)) (items_halves ls k)
    ∙ below_skip of key after (items (take k ls)) (items (drop k ls)) b
    ∙ first_above of key after (items (drop k ls)) (above_rest (of, key) ls k f s.after)

-- the leaf before k is the one in question
pub first_landed : (of k : ℕ) (key : List ℕ) (after : Bool) (ls : List Leaf) (es : List Entry) → Landed of key ls k es → first_where (passes after key) (of_index of (items ls)) ≡ first_where (passes after key) (es ++ of_index of (items (drop k ls)))
first_landed of k key after ls es h =
    let rest : items (drop (k - 1 + 1) ls) ≡ items (drop k ls) = ap (λ (n : ℕ). items (drop n ls)) h.back in
    ap (λ z. first_where (passes after key) (of_index of z)) (items_around ls (k - 1) h.inside ∙ ap (λ (l : Leaf). items (take (k - 1) ls) ++ (tagged l.0 l.1 ++ items (drop (k - 1 + 1) ls))) h.is ∙ ap (λ z. items (take (k - 1) ls) ++ (tagged of es ++ z)) rest)
    ∙ below_skip of key after (items (take (k - 1) ls)) (tagged of es ++ items (drop k ls)) h.below
    ∙ ap (first_where (passes after key)) (of_tagged of es (items (drop k ls)))

pub first_next : (of k i : ℕ) (key : List ℕ) (after : Bool) (ls : List Leaf) (es : List Entry) → IsForest ls → Sought (of, key) ls k → Landed of key ls k es → Starts (passes after key) es i → length es ≤ i → first_where (passes after key) (of_index of (items ls)) ≡ slice_get (of_index of (items (drop k ls))) 0
first_next of k i key after ls es f s h t le =
    first_landed of k key after ls es h ∙ first_past (passes after key) es (of_index of (items (drop k ls))) i t le
    ∙ first_above of key after (items (drop k ls)) (above_rest (of, key) ls k f s.after)

-- the first entry of an index from leaf k on
pub front_other : (of k : ℕ) (ls : List Leaf) → IsForest ls → k < length ls → of < (get_or ls k no_leaf).0 → of_index of (items (drop k ls)) ≡ []
front_other of k ls f lt h =
    let l = get_or ls k no_leaf in
    let s = tagged_start l (f.some k lt) in
    let e : items (drop k ls) ≡ (start l, s.0) ∷ (tagged l.0 s.1 ++ items (drop (k + 1) ls)) = ap items (drop_more ls k no_leaf lt) ∙ ap (λ z. z ++ items (drop (k + 1) ls)) s.2 in
    let r : Rising ((start l, s.0) ∷ (tagged l.0 s.1 ++ items (drop (k + 1) ls))) = subst Rising e (rising_rest ls k f.rising) in
    let ne : of ≢ l.0 = omega arith in
    ap (of_index of) e ∙ of_other of (start l, s.0) _ ne ∙ none_after of l.0 (get_or l.1 0 no_entry).0 (tagged l.0 s.1 ++ items (drop (k + 1) ls)) h r.0

head_of : (es fs : List Entry) → 0 < length es → slice_get (es ++ fs) 0 ≡ Some (get_or es 0 no_entry)
head_of [] fs some = absurd (omega arith)
head_of (e ∷ es) fs some = refl

pub front_here : (of k : ℕ) (ls : List Leaf) (es : List Entry) → IsForest ls → k < length ls → get_or ls k no_leaf ≡ (of, es) → slice_get (of_index of (items (drop k ls))) 0 ≡ Some (get_or es 0 no_entry)
front_here of k ls es f lt is =
    let some : 0 < length es = subst (λ (l : Leaf). 0 < length l.1) is (f.some k lt) in
    let e : items (drop k ls) ≡ tagged of es ++ items (drop (k + 1) ls) = ap items (drop_more ls k no_leaf lt) ∙ ap (λ (l : Leaf). tagged l.0 l.1 ++ items (drop (k + 1) ls)) is in
    ap (λ z. slice_get (of_index of z) 0) e ∙ ap (λ (z : List Entry). slice_get z 0) (of_tagged of es (items (drop (k + 1) ls))) ∙ head_of es (of_index of (items (drop (k + 1) ls))) some
