-- The parts of definitions as one list of entries, in the order of their keys.
use Rattle.std.proofs.Common.{◌≡◌, inl, inr, ⊎_elim, ℕ, zero, suc, ◌+◌, ◌^◌, ◌<◌, ◌≤◌, List, [], ◌∷◌, ◌++◌, length, Some, refl, sym, ap, subst, ◌∙◌, arith}
use Rattle.std.specs.Prelude.{slice_get}
use Rattle.std.specs.List.{Contains, AllByRecursion}
use Rattle.std.specs.declared.cmp.Ordering.{Ordering}
use Rattle.std.specs.declared.cmp.Ordering.TheVariants.{Less, Equal, Greater}
use Rattle.std.specs.Ordering.{nat_cmp, ordering_then, ordering_reverse}
use Rattle.std.proofs.lemmas.Option.{none-some, slice_get_within}
use Rattle.std.proofs.lemmas.List.Elements.{Contains-append_left, Contains-append_right, Contains-append_cases}
use Rattle.byteorder.specs.Endian.{big_bytes}
use Rattle.row_codec.proofs.Orders.{cmp_less, cmp_equal, order_numbers}
use Rattle.table_laws.specs.Place.{Place, place_cmp}
use Rattle.table_laws.proofs.Place.{place_cmp_total}
use Rattle.txn_machine.proofs.Basics.{contains_none}
use Rattle.txn_machine.proofs.Holding.{contains_here}
use Rattle.txn_log.specs.Stored.{PageEntry, IsPartEntry}
use Rattle.txn_log.specs.Damaged.{part_key}
use Rattle.txn_log.proofs.Placing.{in_rest}
use Rattle.log_disk.specs.Found.{AreByKey}

-- ---- one list in order

pub less_apart : {P : Type 0} (x y : Place) → place_cmp x y ≡ Less → place_cmp y x ≡ Less → P
less_apart x y h k = absurd (let e : Less ≡ Greater = sym h ∙ (place_cmp_total.antisymm x y ∙ ap ordering_reverse k) in cc)

-- two lists in order with the same elements are one
pub order_once : (xs ys : List PageEntry) → AreByKey xs → AreByKey ys → ((e : PageEntry) → Contains xs e → Contains ys e) → ((e : PageEntry) → Contains ys e → Contains xs e) → xs ≡ ys
order_once [] [] h k f g = refl
order_once [] (y ∷ ys) h k f g = absurd (contains_none y (g y (contains_here y ys)))
order_once (x ∷ xs) [] h k f g = absurd (contains_none x (f x (contains_here x xs)))
order_once (x ∷ xs) (y ∷ ys) h k f g =
    let same : y ≡ x = in_rest y x ys (f x (contains_here x xs)) (λ e. e) (λ later. in_rest x y xs (g y (contains_here y ys)) (λ e. sym e)
    (λ after. less_apart x.0 y.0 (h.0 y after) (k.0 x later))) in
    let rest : xs ≡ ys = order_once xs ys h.1 k.1
    (λ e c. in_rest y e ys (f e (Contains-append_right (x ∷ []) xs e c)) (λ s. less_apart x.0 e.0 (h.0 e c) (subst (λ (z : PageEntry). place_cmp z.0 x.0 ≡ Less) (sym same ∙ s) (subst (λ (z : PageEntry). place_cmp x.0 z.0 ≡ Less) (sym (sym same ∙ s)) (h.0 e c)))) (λ d. d))
    (λ e c. in_rest x e xs (g e (Contains-append_right (y ∷ []) ys e c)) (λ s. less_apart y.0 e.0 (k.0 e c) (subst (λ (z : PageEntry). place_cmp z.0 y.0 ≡ Less) (same ∙ s) (subst (λ (z : PageEntry). place_cmp y.0 z.0 ≡ Less) (sym (same ∙ s)) (k.0 e c)))) (λ d. d)) in
    λ t. sym same t ∷ rest t

order_both : (xs ys : List PageEntry) → AreByKey xs → AreByKey ys → ((e f : PageEntry) → Contains xs e → Contains ys f → place_cmp e.0 f.0 ≡ Less) → AreByKey (xs ++ ys)
order_both [] ys h k less = k
order_both (x ∷ xs) ys h k less = (
  (λ f c. ⊎_elim (h.0 f) (less x f (contains_here x xs)) (Contains-append_cases xs ys f c)),
  order_both xs ys h.1 k (λ e f c d. less e f (Contains-append_right (x ∷ []) xs e c) d),
)

-- ---- keys of parts

keys_by : (m n i j : ℕ) → m < 2 ^ 32 → n < 2 ^ 32 → i < 2 ^ 16 → j < 2 ^ 16 → place_cmp (0, part_key m i) (0, part_key n j) ≡ ordering_then (nat_cmp m n) (nat_cmp i j)
keys_by m n i j fm fn fi fj =
    order_numbers 4 m n (big_bytes 2 i) (big_bytes 2 j) fm fn
    ∙ ap (ordering_then (nat_cmp m n)) (order_numbers 2 i j [] [] fi fj ∙ then_equal (nat_cmp i j))
  where
    then_equal : (o : Ordering) → ordering_then o Equal ≡ o
    then_equal Less = refl
    then_equal Equal = refl
    then_equal Greater = refl

pub next_object : (m n i j : ℕ) → m < n → n < 2 ^ 32 → i < 2 ^ 16 → j < 2 ^ 16 → place_cmp (0, part_key m i) (0, part_key n j) ≡ Less
next_object m n i j less fn fi fj = keys_by m n i j (omega arith) fn fi fj ∙ ap (λ o. ordering_then o (nat_cmp i j)) (cmp_less m n less)

pub next_part : (n i j : ℕ) → i < j → n < 2 ^ 32 → j < 2 ^ 16 → place_cmp (0, part_key n i) (0, part_key n j) ≡ Less
next_part n i j less fn fj = keys_by n n i j fn fn (omega arith) fj ∙ (ap (λ o. ordering_then o (nat_cmp i j)) (cmp_equal n n refl) ∙ cmp_less i j less)

-- ---- the entries of all parts

abbrev pub parts_from : ℕ → ℕ → List (List ℕ) → List PageEntry
parts_from n j [] = []
parts_from n j (part ∷ parts) = ((0, part_key n j), part) ∷ parts_from n (j + 1) parts

abbrev pub texts_from : ℕ → List (List (List ℕ)) → List PageEntry
texts_from n [] = []
texts_from n (parts ∷ texts) = parts_from n 0 parts ++ texts_from (n + 1) texts

some_same : {X : Type 0} (x y : X) → Some x ≡ Some y → x ≡ y
some_same x y e = cc

in_parts : (n j : ℕ) (parts : List (List ℕ)) (e : PageEntry) → Contains (parts_from n j parts) e → (i : ℕ) × (slice_get parts i ≡ Some e.1) × (e.0 ≡ (0, part_key n (j + i)))
in_parts n j [] e c = absurd (contains_none e c)
in_parts n j (part ∷ parts) e c = in_rest ((0, part_key n j), part) e (parts_from n (j + 1) parts) c
    (λ same. (0, ap (λ (x : PageEntry). Some x.1) same, ap (λ (x : PageEntry). x.0) (sym same) ∙ ap (λ k. (0, part_key n k)) (let z : j ≡ j + 0 = omega arith in z)))
    (λ rest. let f = in_parts n (j + 1) parts e rest in (suc f.0, f.1, f.2 ∙ ap (λ k. (0, part_key n k)) (let z : j + 1 + f.0 ≡ j + suc f.0 = omega arith in z)))

parts_in : (n j : ℕ) (parts : List (List ℕ)) (i : ℕ) (part : List ℕ) → slice_get parts i ≡ Some part → Contains (parts_from n j parts) ((0, part_key n (j + i)), part)
parts_in n j [] i part e = absurd (none-some part e)
parts_in n j (p ∷ parts) zero part e =
    subst (Contains (parts_from n j (p ∷ parts))) (λ t. ((0, part_key n (same t)), some_same p part e t)) (contains_here ((0, part_key n j), p) (parts_from n (j + 1) parts))
  where
    same : j ≡ j + 0
    same = omega arith
parts_in n j (p ∷ parts) (suc i) part e = Contains-append_right (((0, part_key n j), p) ∷ []) (parts_from n (j + 1) parts) ((0, part_key n (j + suc i)), part)
    (subst (λ k. Contains (parts_from n (j + 1) parts) ((0, part_key n k), part)) (let z : j + 1 + i ≡ j + suc i = omega arith in z) (parts_in n (j + 1) parts i part e))

-- an entry among them is a part of a text
pub in_texts : (n : ℕ) (texts : List (List (List ℕ))) (e : PageEntry) → Contains (texts_from n texts) e
    → (k : ℕ) × (parts : List (List ℕ)) × (slice_get texts k ≡ Some parts) × (i : ℕ) × (slice_get parts i ≡ Some e.1) × (e.0 ≡ (0, part_key (n + k) i))
in_texts n [] e c = absurd (contains_none e c)
in_texts n (parts ∷ texts) e c = elim (Contains-append_cases (parts_from n 0 parts) (texts_from (n + 1) texts) e c) [
  | inl this ↦
      let f = in_parts n 0 parts e this in
      (0, parts, refl, f.0, f.1, f.2 ∙ (λ t. (0, part_key (same t) (zeroth f.0 t))))
  | inr rest ↦
      let f = in_texts (n + 1) texts e rest in
      (suc f.0, f.1, f.2, f.3, f.4, f.5 ∙ ap (λ k. (0, part_key k f.3)) (let z : n + 1 + f.0 ≡ n + suc f.0 = omega arith in z))
]
  where
    same : n ≡ n + 0
    same = omega arith

    zeroth : (i : ℕ) → 0 + i ≡ i
    zeroth i = omega arith

pub texts_in : (n : ℕ) (texts : List (List (List ℕ))) (k : ℕ) (parts : List (List ℕ)) (i : ℕ) (part : List ℕ) → slice_get texts k ≡ Some parts → slice_get parts i ≡ Some part
    → Contains (texts_from n texts) ((0, part_key (n + k) i), part)
texts_in n [] k parts i part e f = absurd (none-some parts e)
texts_in n (ps ∷ texts) zero parts i part e f =
    Contains-append_left (parts_from n 0 ps) (texts_from (n + 1) texts) ((0, part_key (n + 0) i), part)
    (subst (λ (x : PageEntry). Contains (parts_from n 0 ps) x) (λ t. ((0, part_key (same t) (zeroth t)), part)) (parts_in n 0 ps i part (ap (λ (qs : List (List ℕ)). slice_get qs i) (some_same ps parts e) ∙ f)))
  where
    same : n ≡ n + 0
    same = omega arith

    zeroth : 0 + i ≡ i
    zeroth = omega arith
texts_in n (ps ∷ texts) (suc k) parts i part e f =
    Contains-append_right (parts_from n 0 ps) (texts_from (n + 1) texts) ((0, part_key (n + suc k) i), part)
    (subst (λ m. Contains (texts_from (n + 1) texts) ((0, part_key m i), part)) (let z : n + 1 + k ≡ n + suc k = omega arith in z) (texts_in (n + 1) texts k parts i part e f))

-- they are the entries of parts
pub is_part : (texts : List (List (List ℕ))) (e : PageEntry) → Contains (texts_from 1 texts) e → IsPartEntry texts e
is_part texts e c =
    let f = in_texts 1 texts e c in record {
      index = ap (λ (k : Place). k.0) f.5;
      before = f.0;
      parts = f.1;
      parts_are = f.2;
      part = f.3;
      value = f.4;
      key = ap (λ (k : Place). k.1) f.5 ∙ ap (λ n. part_key n f.3) (let z : 1 + f.0 ≡ f.0 + 1 = omega arith in z);
    }

pub part_there : (texts : List (List (List ℕ))) (e : PageEntry) → IsPartEntry texts e → Contains (texts_from 1 texts) e
part_there texts e is =
    let key : part_key (1 + is.before) is.part ≡ e.0.1 = ap (λ n. part_key n is.part) (let z : 1 + is.before ≡ is.before + 1 = omega arith in z) ∙ sym is.key in
    subst (Contains (texts_from 1 texts)) (λ t. ((sym is.index t, key t), e.1)) (texts_in 1 texts is.before is.parts is.part e.1 is.parts_are is.value)

-- they are in order
parts_order : (n j : ℕ) (parts : List (List ℕ)) → n < 2 ^ 32 → j + length parts ≤ 2 ^ 16 → AreByKey (parts_from n j parts)
parts_order n j [] fn fits = tt
parts_order n j (part ∷ parts) fn fits = (
  (λ f c.
      let i = in_parts n (j + 1) parts f c in
      let inside = slice_get_within parts i.0 f.1 i.1 in
      subst (λ (k : Place). place_cmp (0, part_key n j) k ≡ Less) (sym i.2) (next_part n j (j + 1 + i.0) (omega arith) fn (omega (arith, inside, fits)))),
  parts_order n (j + 1) parts fn (omega (arith, fits)),
)

abbrev pub Short : List (List (List ℕ)) → Type 0
Short texts = AllByRecursion (λ parts. length parts ≤ 2 ^ 16) texts

short_at : (texts : List (List (List ℕ))) (k : ℕ) (parts : List (List ℕ)) → Short texts → slice_get texts k ≡ Some parts → length parts ≤ 2 ^ 16
short_at [] k parts h e = absurd (none-some parts e)
short_at (ps ∷ texts) zero parts h e = subst (λ (qs : List (List ℕ)). length qs ≤ 2 ^ 16) (some_same ps parts e) h.0
short_at (ps ∷ texts) (suc k) parts h e = short_at texts k parts h.1 e

pub texts_order : (n : ℕ) (texts : List (List (List ℕ))) → n + length texts ≤ 2 ^ 32 → Short texts → AreByKey (texts_from n texts)
texts_order n [] few short = tt
texts_order n (parts ∷ texts) few short =
    order_both (parts_from n 0 parts) (texts_from (n + 1) texts) (parts_order n 0 parts (omega (arith, few)) (omega (arith, short.0))) (texts_order (n + 1) texts (omega (arith, few)) short.1)
    (λ e f c d.
    let i = in_parts n 0 parts e c in
    let k = in_texts (n + 1) texts f d in
    let first = slice_get_within parts i.0 e.1 i.1 in
    let there = slice_get_within texts k.0 k.1 k.2 in
    let second = slice_get_within k.1 k.3 f.1 k.4 in
    let least = short_at texts k.0 k.1 short.1 k.2 in
    subst (λ (x : Place). place_cmp x f.0 ≡ Less) (sym i.2) (subst (λ (x : Place). place_cmp (0, part_key n (0 + i.0)) x ≡ Less) (sym k.5)
    (next_object n (n + 1 + k.0) (0 + i.0) k.3 (omega arith) (omega (arith, few, there)) (omega (arith, first, short.0)) (omega (arith, second, least)))))
