-- Entries of index 0 that keep the rules on definitions are the parts of texts.
use Rattle.std.proofs.Common.{◌≡◌, inl, inr, ⊎_elim, ℕ, zero, suc, ◌+◌, ◌%◌, ◌^◌, ◌<◌, ◌≤◌, List, [], ◌∷◌, ◌++◌, map, length, take, drop, Option, Some, refl, sym, ap, subst, ◌∙◌, arith}
use Rattle.std.specs.List.{AllByRecursion}
use Rattle.std.specs.declared.cmp.Ordering.TheVariants.{Less}
use Rattle.std.proofs.lemmas.Bool.{cases_lt}
use Rattle.std.proofs.lemmas.List.{append-nil}
use Rattle.byteorder.specs.Endian.{big_bytes, big_number}
use Rattle.byteorder.specs.Numbers.{big_from-bytes, length-bytes_high_first}
use Rattle.iv_types.proofs.ByteNumbers.{bytes_of_number, back}
use Rattle.table_laws.specs.Place.{place_cmp}
use Rattle.txn_machine.proofs.Holding.{contains_here}
use Rattle.txn_log.specs.Stored.{AreParts}
use Rattle.txn_log.specs.Damaged.{Found, FirstBad, part_key, key_in, IsNextKey, with_next, HasSize}
use Rattle.log_disk.specs.Found.{AreByKey}
use Rattle.log_disk.proofs.Defining.{SizesGood}
use Rattle.log_disk.proofs.Ordered.{Short, less_apart, next_object, next_part, parts_from, texts_from}

-- ---- where none is the first that fails

module _ {X : Type 0} (good : List X → X → Type 0) where
  abbrev pub AllHold : List X → List X → Type 0
  AllHold earlier [] = Unit {0}
  AllHold earlier (y ∷ ys) = good earlier y × AllHold (y ∷ earlier) ys

  pub all_hold : (earlier xs : List X) → ((x : X) → FirstBad (λ former y. good former y → ⊥) earlier xs x → ⊥) → (AllHold earlier xs → ⊥) → ⊥
  all_hold earlier [] none never = never tt
  all_hold earlier (y ∷ ys) none never =
      none y (inl (refl, λ is. all_hold (y ∷ earlier) ys (λ x first. none x (inr ((λ bad. bad is), first))) (λ rest. never (is, rest))))

pub pairs_sizes : (earlier : List (Found × Option Found)) (fs : List Found) → AllHold (λ former (p : Found × Option Found). HasSize p.0 p.1) earlier (with_next fs) → SizesGood fs
pairs_sizes earlier [] h = tt
pairs_sizes earlier (f ∷ []) h = h.0
pairs_sizes earlier (f ∷ g ∷ fs) h = (h.0, pairs_sizes ((f, Some g) ∷ earlier) (g ∷ fs) h.1)

-- ---- keys

take_whole : (bs : List ℕ) (n : ℕ) → length bs ≡ n → take n bs ≡ bs
take_whole [] n e = ap (λ k. take k []) (sym e)
take_whole (b ∷ bs) zero e = absurd (omega (arith, e))
take_whole (b ∷ bs) (suc n) e = ap (λ (l : List ℕ). b ∷ l) (take_whole bs n (omega (arith, e)))

-- bytes have what is left of a number
bytes_left : (n x : ℕ) → big_bytes n x ≡ big_bytes n (x % 256 ^ n)
bytes_left n x =
    let bytes : List ℕ = big_bytes n x in
    let size : length bytes ≡ n = length-bytes_high_first n x in
    let number : big_number n bytes ≡ x % 256 ^ n = ap (big_number n) (sym (append-nil bytes)) ∙ big_from-bytes n x [] in
    sym (take_whole bytes n size) ∙ sym (back n bytes (bytes_of_number n x) (omega (arith, size))) ∙ ap (big_bytes n) number

left_same : (n x y : ℕ) → x % 256 ^ n ≡ y % 256 ^ n → big_bytes n x ≡ big_bytes n y
left_same n x y e = bytes_left n x ∙ ap (big_bytes n) e ∙ sym (bytes_left n y)

module _ (m n i j : ℕ) (same : part_key m i ≡ part_key n j) where
  object_left : m % 256 ^ 4 ≡ n % 256 ^ 4
  object_left = sym (big_from-bytes 4 m (big_bytes 2 i)) ∙ ap (big_number 4) same ∙ big_from-bytes 4 n (big_bytes 2 j)

  part_left : i % 256 ^ 2 ≡ j % 256 ^ 2
  part_left = sym (big_from-bytes 2 i []) ∙ ap (λ (bs : List ℕ). big_number 2 (drop 4 bs)) same ∙ big_from-bytes 2 j []

  further_key : part_key m (i + 1) ≡ part_key n (j + 1)
  further_key = λ t. left_same 4 m n object_left t ++ left_same 2 (i + 1) (j + 1) (let e = part_left in omega (arith, e)) t

  next_key : part_key (m + 1) 0 ≡ part_key (n + 1) 0
  next_key = ap (λ (bs : List ℕ). bs ++ big_bytes 2 0) (left_same 4 (m + 1) (n + 1) (let e = object_left in omega (arith, e)))

-- ---- one part after another

abbrev pub OfDefinitions : List Found → Type 0
OfDefinitions fs = AllByRecursion (λ f. f.entry.0.0 ≡ 0) fs

place_is : (f : Found) (n j : ℕ) → f.entry.0.0 ≡ 0 → key_in f ≡ part_key n j → f.entry.0 ≡ (0, part_key n j)
place_is f n j index key = λ t. (index t, key t)

entry_is : (f : Found) (n j : ℕ) → f.entry.0.0 ≡ 0 → key_in f ≡ part_key n j → f.entry ≡ ((0, part_key n j), f.entry.1)
entry_is f n j index key = λ t. ((index t, key t), f.entry.1)

-- the parts behind part j of object n, and the texts of the objects behind it
record AreParted (n j : ℕ) (d : Found) (fs : List Found) : Type 0 where
  parts : List (List ℕ)
  texts : List (List (List ℕ))
  are : map (λ f. f.entry) fs ≡ parts_from n (j + 1) parts ++ texts_from (n + 1) texts
  whole : AreParts (d.entry.1 ∷ parts)
  all : AllByRecursion AreParts texts
  inside : j + 1 + length parts ≤ 2 ^ 16
  short : Short texts
  few : n + length texts < 2 ^ 32

-- a key stands before the one behind it
module _ (d f : Found) (n j : ℕ) (first : d.entry.0 ≡ (0, part_key n j)) (less : place_cmp d.entry.0 f.entry.0 ≡ Less) where
  never_before : (m i : ℕ) → f.entry.0 ≡ (0, part_key m i) → place_cmp (0, part_key m i) (0, part_key n j) ≡ Less → ⊥
  never_before m i second other =
      less_apart (0, part_key n j) (0, part_key m i) (subst (λ k. place_cmp k (0, part_key m i) ≡ Less) first (subst (λ k. place_cmp d.entry.0 k ≡ Less) second less)) other

  part_fits : n < 2 ^ 32 → j < 2 ^ 16 → f.entry.0 ≡ (0, part_key n (j + 1)) → j + 1 < 2 ^ 16
  part_fits fn fj second = ⊎_elim (λ lt. lt)
      (λ le.
      let last : j + 1 ≡ 65536 = omega (arith, le, fj) in
      absurd (never_before n 0 (second ∙ ap (λ i. (0, part_key n i)) last) (next_part n 0 j (omega (arith, last)) fn fj)))
      (cases_lt (j + 1) (2 ^ 16))

  object_fits : 0 < n → n < 2 ^ 32 → j < 2 ^ 16 → f.entry.0 ≡ (0, part_key (n + 1) 0) → n + 1 < 2 ^ 32
  object_fits some fn fj second = ⊎_elim (λ lt. lt)
      (λ le.
      let last : n + 1 ≡ 4294967296 = omega (arith, le, fn) in
      absurd (never_before 0 0 (second ∙ ap (λ m. (0, part_key m 0)) last) (next_object 0 n 0 j some fn (omega arith) fj)))
      (cases_lt (n + 1) (2 ^ 32))

parted : (n j : ℕ) (d : Found) (fs earlier : List Found) → 0 < n → n < 2 ^ 32 → j < 2 ^ 16 → key_in d ≡ part_key n j → OfDefinitions (d ∷ fs) → AreByKey (map (λ f. f.entry) (d ∷ fs))
    → AllHold IsNextKey (d ∷ earlier) fs → SizesGood (d ∷ fs) → AreParted n j d fs
parted n j d [] earlier some fn fj key index order keys sizes = record { parts = []; texts = []; are = refl; whole = sizes; all = tt; inside = omega (arith, fj); short = tt; few = omega (arith, fn) }
parted n j d (f ∷ fs) earlier some fn fj key index order keys sizes =
    let first : d.entry.0 ≡ (0, part_key n j) = place_is d n j index.0 key in
    let less : place_cmp d.entry.0 f.entry.0 ≡ Less = order.0 f.entry (contains_here f.entry (map (λ x. x.entry) fs)) in
    elim keys.0 [
      | inl further ↦ (
          let next : key_in f ≡ part_key n (j + 1) = further.3 ∙ further_key further.0 n further.1 j (sym further.2 ∙ key) in
          let fits = part_fits d f n j first less fn fj (place_is f n (j + 1) index.1.0 next) in
          let rest = parted n (j + 1) f fs (d ∷ earlier) some fn fits next index.1 order.1 keys.1 sizes.1 in
          let this : f.entry ≡ ((0, part_key n (j + 1)), f.entry.1) = entry_is f n (j + 1) index.1.0 next in
          let inside = rest.inside in
          record {
            parts = f.entry.1 ∷ rest.parts;
            texts = rest.texts;
            are = λ t. this t ∷ rest.are t;
            whole = (sizes.0.0 further, rest.whole);
            all = rest.all;
            inside = omega (arith, inside);
            short = rest.short;
            few = rest.few;
          })
      | inr begins ↦ (
          let next : key_in f ≡ part_key (n + 1) 0 = begins.3 ∙ next_key begins.0 n begins.1 j (sym begins.2 ∙ key) in
          let fits = object_fits d f n j first less some fn fj (place_is f (n + 1) 0 index.1.0 next) in
          let rest = parted (n + 1) 0 f fs (d ∷ earlier) (omega (arith, some)) fits (omega arith) next index.1 order.1 keys.1 sizes.1 in
          let this : f.entry ≡ ((0, part_key (n + 1) 0), f.entry.1) = entry_is f (n + 1) 0 index.1.0 next in
          let inside = rest.inside in
          let few = rest.few in
          record {
            parts = [];
            texts = (f.entry.1 ∷ rest.parts) ∷ rest.texts;
            are = λ t. this t ∷ rest.are t;
            whole = sizes.0.1;
            all = (rest.whole, rest.all);
            inside = omega (arith, fj);
            short = (omega (arith, inside), rest.short);
            few = omega (arith, few);
          })
    ]

-- these are the parts of texts
pub record ArePartsOf (fs : List Found) : Type 0 where
  pub texts : List (List (List ℕ))
  pub are : map (λ f. f.entry) fs ≡ texts_from 1 texts
  pub parts : AllByRecursion AreParts texts
  pub short : Short texts
  pub few : length texts < 2 ^ 32

pub texts_of : (fs : List Found) → OfDefinitions fs → AreByKey (map (λ f. f.entry) fs) → AllHold IsNextKey [] fs → SizesGood fs → ArePartsOf fs
texts_of [] index order keys sizes = record { texts = []; are = refl; parts = tt; short = tt; few = omega arith }
texts_of (f ∷ fs) index order keys sizes =
    let rest = parted 1 0 f fs [] (omega arith) (omega arith) (omega arith) keys.0 index order keys.1 sizes in
    let this : f.entry ≡ ((0, part_key 1 0), f.entry.1) = entry_is f 1 0 index.0 keys.0 in
    let inside = rest.inside in
    let few = rest.few in
    record {
      texts = (f.entry.1 ∷ rest.parts) ∷ rest.texts;
      are = λ t. this t ∷ rest.are t;
      parts = (rest.whole, rest.all);
      short = (omega (arith, inside), rest.short);
      few = omega (arith, few);
    }
