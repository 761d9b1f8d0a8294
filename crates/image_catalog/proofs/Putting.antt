-- Texts that are put into a map, one after another, and how many they are.
use Rattle.std.proofs.Common.{◌≡◌, ℕ, ◌+◌, ◌^◌, ◌<◌, ◌≤◌, List, [], ◌∷◌, ◌++◌, length, Option, None, refl, sym, ◌∙◌, ap, subst, append_assoc, arith, length-append}
use Rattle.std.specs.List.{AllByRecursion}
use Rattle.std.specs.FinMap.{empty}
use Rattle.std.proofs.lemmas.List.{append-nil, map-append, length-map}
use Rattle.iv_types.specs.Definitions.{Definitions}
use Rattle.iv_types.specs.Maps.{Map, IsWithin, used}
use Rattle.iv_types.specs.declared.lock.IndexEntry.{IndexEntry}
use Rattle.iv_meaning.specs.Schema.{Schema}
use Rattle.iv_meaning.specs.Objects.{object_of, schema_of}
use Rattle.query_laws.proofs.LimitedLemmas.{numbers_law}
use Rattle.txn_machine.specs.Log.{definition_entries}
use Rattle.txn_log.specs.Damaged.{Found, in_texts, texts_found}
use Rattle.txn_log.specs.Stored.{AllCreate, in_parts}
use Rattle.definition_parts.specs.Parts.{part_entries, parts_map, IsShort, CanPutText}
use Rattle.definition_parts.proofs.Entries.{entries_many}
use Rattle.image_entries.specs.Parts.{KeysStand}
use Rattle.image_catalog.specs.Texts.{BeginsAt, texts_from}
use Rattle.image_catalog.specs.Storing.{HasBefore, StoresText}
use Rattle.image_catalog.proofs.Making.{made_so}
use Rattle.image_catalog.proofs.Telling.{Texts, begins_first}

-- ---- how many texts

more_objects : (objects : Schema) (texts : List (List ℕ)) (all : Schema) → AllCreate objects texts all → length all ≡ length objects + length texts
more_objects objects [] all h = let same : length all ≡ length objects = ap length h in omega (arith, same)
more_objects objects (text ∷ texts) all h =
    let rest = more_objects (objects ++ h.0 ∷ []) texts all h.2 in
    let one = length-append objects (h.0 ∷ []) in
    omega (arith, rest, one)

-- one for each definition that they make
pub one_each : (texts : List (List ℕ)) (definitions : Definitions) → AllCreate [] texts (schema_of definitions) → length texts ≡ length definitions
one_each texts definitions h =
    let all = more_objects [] texts (schema_of definitions) h in
    let same = length-map definitions object_of in
    omega (arith, all, same)

-- no more than there may be objects
pub few_texts : (texts : List (List ℕ)) (objects : Schema) → AllCreate [] texts objects → length texts ≤ 192
few_texts texts objects h =
    let all = more_objects [] texts objects h in
    let most = numbers_law.1 objects (made_so objects (record { texts = texts; all_create = h })).limited in
    omega (arith, all, most)

-- ---- one text

-- the parts of the text that comes next can be put in
pub can_put : (number : ℕ) (maps : ℕ → Map) (room : ℕ) (limit : Option ℕ) (texts : List (List ℕ)) (text : List ℕ) (parts : List IndexEntry) → HasBefore number (maps 0) texts → number < 2 ^ 32 → IsShort text
    → parts ≡ part_entries number text → length (in_parts text) ≤ room → limit ≡ None → CanPutText maps room limit texts text parts
can_put number maps room limit texts text parts has fits short are places none =
    let is = has.number_is in
    let many = entries_many number 0 (in_parts text) in
    let all : length parts ≡ length (part_entries number text) = ap length are in
    record {
      are = are ∙ ap (λ n. part_entries n text) is;
      stored = has.stored;
      few = omega (arith, is, fits);
      short = short;
      places = omega (arith, many, all, places);
      within = subst (λ (l : Option ℕ). IsWithin l (used maps + definition_entries text)) (sym none) tt;
    }

pub before_same : (number : ℕ) (m other : Map) (texts : List (List ℕ)) → other ≡ m → HasBefore number m texts → HasBefore number other texts
before_same number m other texts same has = record { stored = same ∙ has.stored; number_is = has.number_is }

-- ---- one text after another

-- the map has the parts of the texts before this place
pub record IsPut (fs : List Found) (at number : ℕ) (m : Map) : Type 0 where
  pub done : Texts
  pub texts : (in_texts fs).1 ≡ done ++ texts_from at fs
  pub has : HasBefore number m (texts_found done)
  pub begins : BeginsAt at fs

pub put_none : (fs : List Found) (m : Map) → KeysStand fs → m ≡ empty → IsPut fs 0 1 m
put_none fs m keys none = record { done = []; texts = refl; has = record { stored = none; number_is = refl }; begins = begins_first fs keys }

module _ (fs : List Found) (at number : ℕ) (m : Map) (put : IsPut fs at number m) where
  pub put_next : (end : ℕ) (after : Map) → StoresText at end fs (texts_found put.done) after → IsPut fs end (number + 1) after
  put_next end after stores =
      let found : texts_found (put.done ++ stores.text ∷ []) ≡ texts_found put.done ++ stores.text.1 ∷ [] = map-append (λ (t : ℕ × List ℕ). t.1) put.done (stores.text ∷ []) in
      let long = length-append (texts_found put.done) (stores.text.1 ∷ []) in
      let same : length (texts_found (put.done ++ stores.text ∷ [])) ≡ length (texts_found put.done ++ stores.text.1 ∷ []) = ap length found in
      let before = put.has.number_is in
      record {
        done = put.done ++ stores.text ∷ [];
        texts = put.texts ∙ (ap (λ (ts : Texts). put.done ++ ts) stores.texts ∙ sym (append_assoc put.done (stores.text ∷ []) (texts_from end fs)));
        has = record { stored = stores.stored ∙ ap parts_map (sym found); number_is = omega (arith, long, same, before) };
        begins = stores.begins;
      }

  pub put_all : texts_from at fs ≡ [] → m ≡ parts_map (texts_found (in_texts fs).1)
  put_all none = put.has.stored ∙ ap (λ (ts : Texts). parts_map (texts_found ts)) (sym (put.texts ∙ (ap (λ (ts : Texts). put.done ++ ts) none ∙ append-nil put.done)))

  all_found : texts_found (in_texts fs).1 ≡ texts_found put.done ++ texts_found (texts_from at fs)
  all_found = ap texts_found put.texts ∙ map-append (λ (t : ℕ × List ℕ). t.1) put.done (texts_from at fs)

  -- numbers do not end
  pub number_few : length (texts_found (in_texts fs).1) ≤ 192 → number ≤ 193
  number_few few =
      let all : length (texts_found (in_texts fs).1) ≡ length (texts_found put.done ++ texts_found (texts_from at fs)) = ap length all_found in
      let both = length-append (texts_found put.done) (texts_found (texts_from at fs)) in
      let is = put.has.number_is in
      omega (arith, all, both, is, few)

  pub rest_short : AllByRecursion IsShort (texts_found (in_texts fs).1) → AllByRecursion IsShort (texts_found (texts_from at fs))
  rest_short short = behind (texts_found put.done) (texts_found (texts_from at fs)) (subst (AllByRecursion IsShort) all_found short)
    where
      behind : (xs ys : List (List ℕ)) → AllByRecursion IsShort (xs ++ ys) → AllByRecursion IsShort ys
      behind [] ys h = h
      behind (x ∷ xs) ys h = behind xs ys h.1
