-- Entries that are the parts of texts, in order, keep the rules on definitions.
use Rattle.std.proofs.Common.{◌≡◌, ◌≢◌, inl, inr, true, false, cond, ℕ, ◌+◌, ◌-◌, ◌^◌, ◌<◌, ◌≤◌, List, [], ◌∷◌, ◌++◌, map, length, drop, Option, Some, None, refl, sym, ap, subst, ◌∙◌, arith}
use Rattle.std.specs.Prelude.{reverse}
use Rattle.std.specs.List.{AllByRecursion, concat}
use Rattle.std.specs.Str.{bytes_eq}
use Rattle.std.proofs.lemmas.List.{reverse-append}
use Rattle.std.proofs.lemmas.Slice.Eq.{bytes_eq-Decides}
use Rattle.table_laws.proofs.Tables.{by_bool}
use Rattle.byteorder.specs.Endian.{big_bytes, big_number}
use Rattle.byteorder.specs.Numbers.{big_number-reads_back}
use Rattle.iv_meaning.specs.Schema.{Schema, Object}
use Rattle.txn_machine.specs.Log.{part_bytes}
use Rattle.txn_log.specs.Appended.{Creates}
use Rattle.txn_log.specs.Stored.{PageEntry, AreParts, AllCreate}
use Rattle.txn_log.specs.Damaged.{Found, FirstBad, part_key, key_in, IsFurther, IsNextKey, with_next, HasSize, in_texts, texts_found, MakesNext, DefinitionFails}
use Rattle.log_disk.proofs.Ordered.{parts_from, texts_from}

-- where none is bad, none is the first
pub never_first : {X : Type 0} (bad : List X → X → Type 0) (Good : List X → List X → Type 0) → ((earlier : List X) (y : X) (ys : List X) → Good earlier (y ∷ ys) → (bad earlier y → ⊥) × Good (y ∷ earlier) ys)
    → (earlier xs : List X) (x : X) → Good earlier xs → FirstBad bad earlier xs x → ⊥
never_first bad Good step earlier [] x g h = h
never_first bad Good step earlier (y ∷ ys) x g (inl h) = (step earlier y ys g).0 h.1
never_first bad Good step earlier (y ∷ ys) x g (inr h) = never_first bad Good step (y ∷ earlier) ys x (step earlier y ys g).1 h.1

cons_head : {X : Type 0} (x y : X) (xs ys : List X) → x ∷ xs ≡ y ∷ ys → x ≡ y
cons_head x y xs ys e = cc

cons_tail : {X : Type 0} (x y : X) (xs ys : List X) → x ∷ xs ≡ y ∷ ys → xs ≡ ys
cons_tail x y xs ys e = cc

key_by : (f : Found) (n j : ℕ) (part : List ℕ) → f.entry ≡ ((0, part_key n j), part) → key_in f ≡ part_key n j
key_by f n j part e = ap (λ (x : PageEntry). x.0.1) e

value_by : (f : Found) (n j : ℕ) (part : List ℕ) → f.entry ≡ ((0, part_key n j), part) → f.entry.1 ≡ part
value_by f n j part e = ap (λ (x : PageEntry). x.1) e

-- ---- keys

abbrev KeysGood : List Found → List Found → Type 0
KeysGood earlier [] = Unit {0}
KeysGood earlier (f ∷ fs) = IsNextKey earlier f × KeysGood (f ∷ earlier) fs

-- the latest has this key
abbrev EndsAt : List Found → ℕ → ℕ → Type 0
EndsAt [] n j = ⊥
EndsAt (d ∷ ds) n j = key_in d ≡ part_key n j

parts_keys : (n j : ℕ) (parts : List (List ℕ)) (rest : List PageEntry) (fs earlier : List Found) → map (λ f. f.entry) fs ≡ parts_from n (j + 1) parts ++ rest → EndsAt earlier n j
    → ((i : ℕ) (gs before : List Found) → map (λ f. f.entry) gs ≡ rest → EndsAt before n i → KeysGood before gs) → KeysGood earlier fs
parts_keys n j [] rest fs earlier e ends next = next j fs earlier e ends
parts_keys n j (part ∷ parts) rest [] earlier e ends next = absurd (cc)
parts_keys n j (part ∷ parts) rest (f ∷ fs) [] e ends next = absurd ends
parts_keys n j (part ∷ parts) rest (f ∷ fs) (d ∷ ds) e ends next =
    let this : f.entry ≡ ((0, part_key n (j + 1)), part) = cons_head f.entry ((0, part_key n (j + 1)), part) (map (λ f. f.entry) fs) (parts_from n (j + 1 + 1) parts ++ rest) e in
    let key : key_in f ≡ part_key n (j + 1) = key_by f n (j + 1) part this in (
      inl (n, j, ends, key),
      parts_keys n (j + 1) parts rest fs (f ∷ d ∷ ds) (cons_tail f.entry ((0, part_key n (j + 1)), part) (map (λ f. f.entry) fs) (parts_from n (j + 1 + 1) parts ++ rest) e) key next,
    )

texts_keys : (n j : ℕ) (texts : List (List (List ℕ))) (fs earlier : List Found) → AllByRecursion AreParts texts → map (λ f. f.entry) fs ≡ texts_from (n + 1) texts → EndsAt earlier n j → KeysGood earlier fs
texts_keys n j [] [] earlier parts e ends = tt
texts_keys n j [] (f ∷ fs) earlier parts e ends = absurd (cc)
texts_keys n j ([] ∷ texts) fs earlier parts e ends = absurd parts.0
texts_keys n j ((part ∷ others) ∷ texts) [] earlier parts e ends = absurd (cc)
texts_keys n j ((part ∷ others) ∷ texts) (f ∷ fs) [] parts e ends = absurd ends
texts_keys n j ((part ∷ others) ∷ texts) (f ∷ fs) (d ∷ ds) parts e ends =
    let this : f.entry ≡ ((0, part_key (n + 1) 0), part) = cons_head f.entry ((0, part_key (n + 1) 0), part) (map (λ f. f.entry) fs) (parts_from (n + 1) (0 + 1) others ++ texts_from (n + 1 + 1) texts) e in
    let key : key_in f ≡ part_key (n + 1) 0 = key_by f (n + 1) 0 part this in (
      inr (n, j, ends, key),
      parts_keys (n + 1) 0 others (texts_from (n + 1 + 1) texts) fs (f ∷ d ∷ ds) (cons_tail f.entry ((0, part_key (n + 1) 0), part) (map (λ f. f.entry) fs) (parts_from (n + 1) (0 + 1) others ++ texts_from (n + 1 + 1) texts) e) key
          (λ i gs before is at. texts_keys (n + 1) i texts gs before parts.1 is at),
    )

all_keys : (texts : List (List (List ℕ))) (fs : List Found) → AllByRecursion AreParts texts → map (λ f. f.entry) fs ≡ texts_from 1 texts → KeysGood [] fs
all_keys [] [] parts e = tt
all_keys [] (f ∷ fs) parts e = absurd (cc)
all_keys ([] ∷ texts) fs parts e = absurd parts.0
all_keys ((part ∷ others) ∷ texts) [] parts e = absurd (cc)
all_keys ((part ∷ others) ∷ texts) (f ∷ fs) parts e =
    let this : f.entry ≡ ((0, part_key 1 0), part) = cons_head f.entry ((0, part_key 1 0), part) (map (λ f. f.entry) fs) (parts_from 1 (0 + 1) others ++ texts_from (1 + 1) texts) e in
    let key : key_in f ≡ part_key 1 0 = key_by f 1 0 part this in (
      key,
      parts_keys 1 0 others (texts_from (1 + 1) texts) fs (f ∷ []) (cons_tail f.entry ((0, part_key 1 0), part) (map (λ f. f.entry) fs) (parts_from 1 (0 + 1) others ++ texts_from (1 + 1) texts) e) key
          (λ i gs before is at. texts_keys 1 i texts gs before parts.1 is at),
    )

-- ---- sizes

abbrev pub SizesGood : List Found → Type 0
SizesGood [] = Unit {0}
SizesGood (f ∷ []) = HasSize f None
SizesGood (f ∷ g ∷ fs) = HasSize f (Some g) × SizesGood (g ∷ fs)

-- of two definitions, no key is further than the other
apart_keys : (f g : Found) (n i j : ℕ) → n < 2 ^ 32 - 1 → key_in f ≡ part_key n i → key_in g ≡ part_key (n + 1) j → IsFurther f g → ⊥
apart_keys f g n i j few at next further =
    let one : big_number 4 (part_key n i) ≡ n = big_number-reads_back 4 n (big_bytes 2 i) (omega arith) in
    let two : big_number 4 (part_key (n + 1) j) ≡ n + 1 = big_number-reads_back 4 (n + 1) (big_bytes 2 j) (omega arith) in
    let same : big_number 4 (part_key n i) ≡ big_number 4 (part_key (n + 1) j) =
    ap (big_number 4) (sym at ∙ further.2) ∙ (front further.0 further.1 ∙ ap (big_number 4) (sym further.3 ∙ next)) in
    absurd (omega (arith, one, two, same))
  where
    front : (object part : ℕ) → big_number 4 (part_key object part) ≡ big_number 4 (part_key object (part + 1))
    front object part = refl

size_most : (parts : List (List ℕ)) (part : List ℕ) → AreParts (part ∷ parts) → length part ≤ part_bytes
size_most [] part h = h
size_most (other ∷ parts) part h = omega (arith, h.0)

-- from part j of object n on, of which the first stands in f
parts_sizes : (n j : ℕ) (part : List ℕ) (parts : List (List ℕ)) (rest : List PageEntry) (f : Found) (fs : List Found) → AreParts (part ∷ parts)
    → f.entry ≡ ((0, part_key n j), part) → map (λ f. f.entry) fs ≡ parts_from n (j + 1) parts ++ rest
    → ((i : ℕ) (last : List ℕ) (g : Found) (gs : List Found) → length last ≤ part_bytes → g.entry ≡ ((0, part_key n i), last) → map (λ f. f.entry) gs ≡ rest → SizesGood (g ∷ gs))
    → SizesGood (f ∷ fs)
parts_sizes n j part [] rest f fs parts this e next = next j part f fs parts this e
parts_sizes n j part (other ∷ others) rest f [] parts this e next = absurd (cc)
parts_sizes n j part (other ∷ others) rest f (g ∷ fs) parts this e next =
    let there : g.entry ≡ ((0, part_key n (j + 1)), other) = cons_head g.entry ((0, part_key n (j + 1)), other) (map (λ f. f.entry) fs) (parts_from n (j + 1 + 1) others ++ rest) e in
    let size : length f.entry.1 ≡ part_bytes = ap length (value_by f n j part this) ∙ parts.0 in (
      ((λ further. size), omega (arith, size)),
      parts_sizes n (j + 1) other others rest g fs parts.1 there (cons_tail g.entry ((0, part_key n (j + 1)), other) (map (λ f. f.entry) fs) (parts_from n (j + 1 + 1) others ++ rest) e) next,
    )

-- after the last part of object n
texts_sizes : (n : ℕ) (texts : List (List (List ℕ))) → n + length texts < 2 ^ 32 → AllByRecursion AreParts texts
    → (i : ℕ) (last : List ℕ) (g : Found) (gs : List Found) → length last ≤ part_bytes → g.entry ≡ ((0, part_key n i), last) → map (λ f. f.entry) gs ≡ texts_from (n + 1) texts → SizesGood (g ∷ gs)
texts_sizes n [] few parts i last g [] most this e = subst (λ (bs : List ℕ). length bs ≤ part_bytes) (sym (value_by g n i last this)) most
texts_sizes n [] few parts i last g (h ∷ gs) most this e = absurd (cc)
texts_sizes n ([] ∷ texts) few parts i last g gs most this e = absurd parts.0
texts_sizes n ((part ∷ others) ∷ texts) few parts i last g [] most this e = absurd (cc)
texts_sizes n ((part ∷ others) ∷ texts) few parts i last g (h ∷ gs) most this e =
    let there : h.entry ≡ ((0, part_key (n + 1) 0), part) = cons_head h.entry ((0, part_key (n + 1) 0), part) (map (λ f. f.entry) gs) (parts_from (n + 1) (0 + 1) others ++ texts_from (n + 1 + 1) texts) e in (
      (
        (λ further. absurd (apart_keys g h n i 0 (omega (arith, few)) (key_by g n i last this) (key_by h (n + 1) 0 part there) further)),
        subst (λ (bs : List ℕ). length bs ≤ part_bytes) (sym (value_by g n i last this)) most,
      ),
      parts_sizes (n + 1) 0 part others (texts_from (n + 1 + 1) texts) h gs parts.0 there
          (cons_tail h.entry ((0, part_key (n + 1) 0), part) (map (λ f. f.entry) gs) (parts_from (n + 1) (0 + 1) others ++ texts_from (n + 1 + 1) texts) e)
          (texts_sizes (n + 1) texts (omega (arith, few)) parts.1),
    )

all_sizes : (texts : List (List (List ℕ))) (fs : List Found) → length texts < 2 ^ 32 → AllByRecursion AreParts texts → map (λ f. f.entry) fs ≡ texts_from 1 texts → SizesGood fs
all_sizes [] [] few parts e = tt
all_sizes [] (f ∷ fs) few parts e = absurd (cc)
all_sizes ([] ∷ texts) fs few parts e = absurd parts.0
all_sizes ((part ∷ others) ∷ texts) [] few parts e = absurd (cc)
all_sizes ((part ∷ others) ∷ texts) (f ∷ fs) few parts e =
    parts_sizes 1 0 part others (texts_from (1 + 1) texts) f fs parts.0 (cons_head f.entry ((0, part_key 1 0), part) (map (λ f. f.entry) fs) (parts_from 1 (0 + 1) others ++ texts_from (1 + 1) texts) e)
    (cons_tail f.entry ((0, part_key 1 0), part) (map (λ f. f.entry) fs) (parts_from 1 (0 + 1) others ++ texts_from (1 + 1) texts) e) (texts_sizes 1 texts (omega (arith, few)) parts.1)

-- as pairs, each with the one behind it
abbrev PairsGood : List (Found × Option Found) → List (Found × Option Found) → Type 0
PairsGood earlier [] = Unit {0}
PairsGood earlier (p ∷ ps) = HasSize p.0 p.1 × PairsGood (p ∷ earlier) ps

sizes_pairs : (earlier : List (Found × Option Found)) (fs : List Found) → SizesGood fs → PairsGood earlier (with_next fs)
sizes_pairs earlier [] h = tt
sizes_pairs earlier (f ∷ []) h = (h, tt)
sizes_pairs earlier (f ∷ g ∷ fs) h = (h.0, sizes_pairs ((f, Some g) ∷ earlier) (g ∷ fs) h.1)

-- ---- texts

tell : (xs ys : List ℕ) → xs ≡ ys → bytes_eq xs ys ≡ true
tell xs ys e = (bytes_eq-Decides xs ys).1 e

differ : (xs ys : List ℕ) → xs ≢ ys → bytes_eq xs ys ≡ false
differ xs ys n = by_bool (bytes_eq xs ys) (λ b. absurd (n ((bytes_eq-Decides xs ys).0 b))) (λ b. b)

first_part : (f : Found) (fs : List Found) (n : ℕ) → key_in f ≡ part_key n 0 → in_texts (f ∷ fs) ≡ ([], (f.page, f.entry.1 ++ (in_texts fs).0) ∷ (in_texts fs).1)
first_part f fs n key =
    let test : bytes_eq (drop 4 (key_in f)) (big_bytes 2 0) ≡ true = tell (drop 4 (key_in f)) (big_bytes 2 0) (ap (drop 4) key) in
    ap (λ b. cond b ([], (f.page, f.entry.1 ++ (in_texts fs).0) ∷ (in_texts fs).1) (f.entry.1 ++ (in_texts fs).0, (in_texts fs).1)) test

later_part : (f : Found) (fs : List Found) (n j : ℕ) → key_in f ≡ part_key n (j + 1) → j + 1 < 2 ^ 16 → in_texts (f ∷ fs) ≡ (f.entry.1 ++ (in_texts fs).0, (in_texts fs).1)
later_part f fs n j key few =
    let test : bytes_eq (drop 4 (key_in f)) (big_bytes 2 0) ≡ false =
    differ (drop 4 (key_in f)) (big_bytes 2 0) (λ e. absurd (
    let one : big_number 2 (big_bytes 2 (j + 1)) ≡ j + 1 = big_number-reads_back 2 (j + 1) [] few in
    let none : big_number 2 (big_bytes 2 0) ≡ 0 = big_number-reads_back 2 0 [] (omega arith) in
    let same : big_number 2 (big_bytes 2 (j + 1)) ≡ big_number 2 (big_bytes 2 0) = ap (λ (bs : List ℕ). big_number 2 (drop 4 bs)) (sym key) ∙ ap (big_number 2) e in
    omega (arith, one, none, same))) in
    ap (λ b. cond b ([], (f.page, f.entry.1 ++ (in_texts fs).0) ∷ (in_texts fs).1) (f.entry.1 ++ (in_texts fs).0, (in_texts fs).1)) test

abbrev Joins : List Found → List ℕ → List (List ℕ) → Type 0
Joins fs front texts = ((in_texts fs).0 ≡ front) × (texts_found (in_texts fs).1 ≡ texts)

parts_joined : (n j : ℕ) (parts : List (List ℕ)) (rest : List PageEntry) (texts : List (List ℕ)) (fs : List Found) → j + 1 + length parts ≤ 2 ^ 16
    → map (λ f. f.entry) fs ≡ parts_from n (j + 1) parts ++ rest → ((gs : List Found) → map (λ f. f.entry) gs ≡ rest → Joins gs [] texts) → Joins fs (concat parts) texts
parts_joined n j [] rest texts fs few e next = next fs e
parts_joined n j (part ∷ parts) rest texts [] few e next = absurd (cc)
parts_joined n j (part ∷ parts) rest texts (f ∷ fs) few e next =
    let this : f.entry ≡ ((0, part_key n (j + 1)), part) = cons_head f.entry ((0, part_key n (j + 1)), part) (map (λ f. f.entry) fs) (parts_from n (j + 1 + 1) parts ++ rest) e in
    let step = later_part f fs n j (key_by f n (j + 1) part this) (omega (arith, few)) in
    let more = parts_joined n (j + 1) parts rest texts fs (omega (arith, few)) (cons_tail f.entry ((0, part_key n (j + 1)), part) (map (λ f. f.entry) fs) (parts_from n (j + 1 + 1) parts ++ rest) e) next in (
      ap (λ (x : List ℕ × List (ℕ × List ℕ)). x.0) step ∙ (λ t. value_by f n (j + 1) part this t ++ more.0 t),
      ap (λ (x : List ℕ × List (ℕ × List ℕ)). texts_found x.1) step ∙ more.1,
    )

texts_joined : (n : ℕ) (texts : List (List (List ℕ))) (fs : List Found) → AllByRecursion AreParts texts → AllByRecursion (λ parts. length parts ≤ 2 ^ 16) texts
    → map (λ f. f.entry) fs ≡ texts_from n texts → Joins fs [] (map concat texts)
texts_joined n [] [] parts short e = (refl, refl)
texts_joined n [] (f ∷ fs) parts short e = absurd (cc)
texts_joined n ([] ∷ texts) fs parts short e = absurd parts.0
texts_joined n ((part ∷ others) ∷ texts) [] parts short e = absurd (cc)
texts_joined n ((part ∷ others) ∷ texts) (f ∷ fs) parts short e =
    let this : f.entry ≡ ((0, part_key n 0), part) = cons_head f.entry ((0, part_key n 0), part) (map (λ f. f.entry) fs) (parts_from n (0 + 1) others ++ texts_from (n + 1) texts) e in
    let step = first_part f fs n (key_by f n 0 part this) in
    let more = parts_joined n 0 others (texts_from (n + 1) texts) (map concat texts) fs (omega (arith, short.0))
    (cons_tail f.entry ((0, part_key n 0), part) (map (λ f. f.entry) fs) (parts_from n (0 + 1) others ++ texts_from (n + 1) texts) e)
    (λ gs is. texts_joined (n + 1) texts gs parts.1 short.1 is) in (
      ap (λ (x : List ℕ × List (ℕ × List ℕ)). x.0) step,
      ap (λ (x : List ℕ × List (ℕ × List ℕ)). texts_found x.1) step ∙ (λ t. (value_by f n 0 part this t ++ more.0 t) ∷ more.1 t),
    )

-- each text makes the next object
abbrev TextsGood : List (ℕ × List ℕ) → List (ℕ × List ℕ) → Type 0
TextsGood earlier [] = Unit {0}
TextsGood earlier (t ∷ ts) = MakesNext earlier t × TextsGood (t ∷ earlier) ts

pub create_more : (objects : Schema) (texts : List (List ℕ)) (before all : Schema) (text : List ℕ) (o : Object) → AllCreate objects texts before → Creates before text o → all ≡ before ++ o ∷ [] → AllCreate objects (texts ++ text ∷ []) all
create_more objects [] before all text o h makes is =
    let made : Creates objects text o = subst (λ x. Creates x text o) h makes in
    (o, made, is ∙ ap (λ x. x ++ o ∷ []) h)
create_more objects (t ∷ texts) before all text o h makes is = (h.0, h.1, create_more (objects ++ h.0 ∷ []) texts before all text o h.2 makes is)

all_texts : (earlier ts : List (ℕ × List ℕ)) (objects all : Schema) → AllCreate [] (reverse (texts_found earlier)) objects → AllCreate objects (texts_found ts) all → TextsGood earlier ts
all_texts earlier [] objects all done h = tt
all_texts earlier (t ∷ ts) objects all done h = (
  (objects, done, h.0, h.1),
  all_texts (t ∷ earlier) ts (objects ++ h.0 ∷ []) all
      (subst (λ (xs : List (List ℕ)). AllCreate [] xs (objects ++ h.0 ∷ [])) (sym (reverse-append (t.1 ∷ []) (texts_found earlier))) (create_more [] (reverse (texts_found earlier)) objects (objects ++ h.0 ∷ []) t.1 h.0 done h.1 refl))
      h.2,
)

-- ---- no rule on definitions fails

module _ (texts : List (List (List ℕ))) (few : length texts < 2 ^ 32) (short : AllByRecursion (λ parts. length parts ≤ 2 ^ 16) texts) (parts : AllByRecursion AreParts texts)
    (fs : List Found) (are : map (λ f. f.entry) fs ≡ texts_from 1 texts) where
  pub texts_are : texts_found (in_texts fs).1 ≡ map concat texts
  texts_are = (texts_joined 1 texts fs parts short are).1

  pub definitions_good : (schema : Schema) → AllCreate [] (map concat texts) schema → (place : ℕ) → DefinitionFails fs place → ⊥
  definitions_good schema create place (inl h) = never_first (λ earlier g. IsNextKey earlier g → ⊥) KeysGood (λ earlier y ys g. ((λ bad. bad g.0), g.1)) [] fs h.0 (all_keys texts fs parts are) h.2
  definitions_good schema create place (inr (inl h)) =
      never_first (λ earlier g. HasSize g.0 g.1 → ⊥) PairsGood (λ earlier y ys g. ((λ bad. bad g.0), g.1)) [] (with_next fs) h.1 (sizes_pairs [] fs (all_sizes texts fs few parts are)) h.3
  definitions_good schema create place (inr (inr h)) =
      never_first (λ earlier u. MakesNext earlier u → ⊥) TextsGood (λ earlier y ys g. ((λ bad. bad g.0), g.1)) [] (in_texts fs).1 h.2
      (all_texts [] (in_texts fs).1 [] schema refl (subst (λ (xs : List (List ℕ)). AllCreate [] xs schema) (sym texts_are) create)) h.4
