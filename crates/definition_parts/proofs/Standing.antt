-- The entries of index 0 are the parts of the texts, and no others.
use Rattle.std.specs.Prelude.{◌≡◌, ◌↔◌, ◌⊎◌, ℕ, zero, suc, ◌+◌, ◌^◌, ◌<◌, ◌≤◌, List, [], ◌∷◌, map, length, slice_get, Some}
use Rattle.std.specs.List.{AllByRecursion}
use Rattle.std.specs.FinMap.{get, empty, get-empty}
use Rattle.std.specs.Cmp.Lexicographic.{nat_list_cmp_total}
use mathlib.Core.Path.{refl, sym, ap, subst, ◌∙◌}
use mathlib.Core.Logic.{inl, inr}
use Rattle.std.proofs.Common.{arith}
use Rattle.std.proofs.lemmas.Option.{none-some, slice_get_within}
use Rattle.iv_types.specs.Maps.{Map}
use Rattle.table_laws.proofs.Tables.{by_key, get-write_at, get-write_other}
use Rattle.table_store.specs.Filling.{filled}
use Rattle.table_store.proofs.Maps.{by_bytes, bytes_same}
use Rattle.table_store.proofs.Rows.{some_same}
use Rattle.txn_log.specs.Damaged.{part_key}
use Rattle.txn_log.specs.Stored.{in_parts, IsPartEntry}
use Rattle.definition_parts.specs.Parts.{entries_from, part_entries, IsShort, with_texts, parts_map}
use Rattle.definition_parts.proofs.Entries.{part_of_key}
use Rattle.definition_parts.proofs.Texts.{apart_texts}

-- ---- each part is there

part_there : (m : Map) (n j : ℕ) (parts : List (List ℕ)) → j + length parts ≤ 2 ^ 16 → (i : ℕ) (part : List ℕ) → slice_get parts i ≡ Some part → get (filled m (entries_from n j parts)) (part_key n (j + i)) ≡ Some part
part_there m n j [] fits i part e = absurd (none-some part e)
part_there m n j (p ∷ parts) fits zero part e =
    get-write_at nat_list_cmp_total bytes_same (filled m (entries_from n (suc j) parts)) (part_key n j) (Some p) (part_key n (j + 0)) (ap (part_key n) (let same : j + 0 ≡ j = omega arith in same)) ∙ e
part_there m n j (p ∷ parts) fits (suc i) part e =
    let within = slice_get_within parts i part e in
    get-write_other nat_list_cmp_total bytes_same (filled m (entries_from n (suc j) parts)) (part_key n j) (Some p) (part_key n (j + suc i))
    (λ same. let number = part_of_key n n (j + suc i) j (omega (arith, fits, within)) (omega (arith, fits)) same in absurd (omega (arith, number)))
    ∙ (ap (λ k. get (filled m (entries_from n (suc j) parts)) (part_key n k)) (let same : j + suc i ≡ suc j + i = omega arith in same)
    ∙ part_there m n (suc j) parts (omega (arith, fits)) i part e)

text_there : (m : Map) (s : ℕ) (texts : List (List ℕ)) → AllByRecursion IsShort texts → s + length texts ≤ 2 ^ 32 → (before : ℕ) (parts : List (List ℕ)) → slice_get (map in_parts texts) before ≡ Some parts
    → (i : ℕ) (part : List ℕ) → slice_get parts i ≡ Some part → get (with_texts s m texts) (part_key (s + before) i) ≡ Some part
text_there m s [] short few before parts at i part e = absurd (none-some parts at)
text_there m s (text ∷ texts) short few zero parts at i part e =
    ap (λ n. get (with_texts (suc s) (filled m (part_entries s text)) texts) (part_key n i)) (let same : s + 0 ≡ s = omega arith in same)
    ∙ (apart_texts (filled m (part_entries s text)) s i (suc s) texts (omega (arith, few)) (omega (arith, few)) (inl (omega arith))
    ∙ (ap (λ k. get (filled m (part_entries s text)) (part_key s k)) (let same : i ≡ 0 + i = omega arith in same)
    ∙ part_there m s 0 (in_parts text) (let own : length (in_parts text) ≤ 2 ^ 16 = short.0 in omega (arith, own)) i part (subst (λ ps. slice_get ps i ≡ Some part) (sym (some_same (in_parts text) parts at)) e)))
text_there m s (text ∷ texts) short few (suc before) parts at i part e =
    ap (λ n. get (with_texts (suc s) (filled m (part_entries s text)) texts) (part_key n i)) (let same : s + suc before ≡ suc s + before = omega arith in same)
    ∙ text_there (filled m (part_entries s text)) (suc s) texts short.1 (omega (arith, few)) before parts at i part e

-- ---- no other entry is

part_found : (m : Map) (n j : ℕ) (parts : List (List ℕ)) (key value : List ℕ) → get (filled m (entries_from n j parts)) key ≡ Some value
    → (get m key ≡ Some value) ⊎ ((i : ℕ) × (slice_get parts i ≡ Some value) × (key ≡ part_key n (j + i)))
part_found m n j [] key value e = inl e
part_found m n j (p ∷ parts) key value e = by_key nat_list_cmp_total bytes_same key (part_key n j)
    (λ same. inr (0, sym (get-write_at nat_list_cmp_total bytes_same (filled m (entries_from n (suc j) parts)) (part_key n j) (Some p) key same) ∙ e, same ∙ ap (part_key n) (let none : j ≡ j + 0 = omega arith in none)))
    (λ other. elim (part_found m n (suc j) parts key value (sym (get-write_other nat_list_cmp_total bytes_same (filled m (entries_from n (suc j) parts)) (part_key n j) (Some p) key other) ∙ e)) [
      | inl old ↦ inl old
      | inr new ↦ inr (suc new.0, new.1, new.2 ∙ ap (part_key n) (let same : suc j + new.0 ≡ j + suc new.0 = omega arith in same))
    ])

text_found : (m : Map) (s : ℕ) (texts : List (List ℕ)) (key value : List ℕ) → get (with_texts s m texts) key ≡ Some value
    → (get m key ≡ Some value) ⊎ ((before : ℕ) × (parts : List (List ℕ)) × (slice_get (map in_parts texts) before ≡ Some parts) × (i : ℕ) × (slice_get parts i ≡ Some value) × (key ≡ part_key (s + before) i))
text_found m s [] key value e = inl e
text_found m s (text ∷ texts) key value e = elim (text_found (filled m (part_entries s text)) (suc s) texts key value e) [
  | inl old ↦ elim (part_found m s 0 (in_parts text) key value old) [
    | inl older ↦ inl older
    | inr own ↦ inr (0, in_parts text, refl, own.0, own.1, own.2 ∙ (λ t. part_key (here t) (plain own.0 t)))
  ]
  | inr later ↦ inr (suc later.0, later.1, later.2, later.3, later.4, later.5 ∙ ap (λ n. part_key n later.3) (let same : suc s + later.0 ≡ s + suc later.0 = omega arith in same))
]
  where
    here : s ≡ s + 0
    here = omega arith

    plain : (i : ℕ) → 0 + i ≡ i
    plain i = omega arith

-- ---- both

pub parts_stand : (texts : List (List ℕ)) → AllByRecursion IsShort texts → length texts < 2 ^ 32 → (key value : List ℕ) → (get (parts_map texts) key ≡ Some value) ↔ IsPartEntry (map in_parts texts) ((0, key), value)
parts_stand texts short few key value = (forth, back)
  where
    forth : get (parts_map texts) key ≡ Some value → IsPartEntry (map in_parts texts) ((0, key), value)
    forth e = elim (text_found empty 1 texts key value e) [
      | inl old ↦ absurd (none-some value (sym (get-empty by_bytes key) ∙ old))
      | inr of ↦ record {
        index = refl;
        before = of.0;
        parts = of.1;
        parts_are = of.2;
        part = of.3;
        value = of.4;
        key = of.5 ∙ ap (λ n. part_key n of.3) (let same : 1 + of.0 ≡ of.0 + 1 = omega arith in same);
      }
    ]

    back : IsPartEntry (map in_parts texts) ((0, key), value) → get (parts_map texts) key ≡ Some value
    back h =
        ap (get (parts_map texts)) (h.key ∙ ap (λ n. part_key n h.part) (let same : h.before + 1 ≡ 1 + h.before = omega arith in same))
        ∙ text_there empty 1 texts short (omega (arith, few)) h.before h.parts h.parts_are h.part value h.value
