-- The parts of texts in one map, and the parts of one text more.
use Rattle.std.specs.Prelude.{◌≡◌, ◌≢◌, ◌⊎◌, ℕ, suc, ◌+◌, ◌^◌, ◌<◌, ◌≤◌, List, [], ◌∷◌, ◌++◌, length, Option, Some, None}
use Rattle.std.specs.List.{AllByRecursion}
use Rattle.std.specs.FinMap.{get, empty, get-empty}
use Rattle.std.specs.Cmp.Lexicographic.{nat_list_cmp_total}
use mathlib.Core.Path.{refl, sym, ap, subst, ◌∙◌}
use mathlib.Core.Logic.{inl, inr}
use Rattle.std.proofs.Common.{arith}
use Rattle.iv_types.specs.Maps.{Map, CanHold, IsWithin, used}
use Rattle.iv_types.specs.declared.lock.IndexEntry.{IndexEntry}
use Rattle.table_laws.proofs.Tables.{get-write_other}
use Rattle.table_store.specs.Changes.{sizes}
use Rattle.table_store.specs.Filling.{HaveOwnKeys, CanPutAll, filled}
use Rattle.table_store.proofs.Maps.{by_bytes, bytes_same}
use Rattle.txn_log.specs.Damaged.{part_key}
use Rattle.txn_log.specs.Stored.{in_parts}
use Rattle.definition_parts.specs.Parts.{entries_from, part_entries, with_texts, parts_map, CanPutText}
use Rattle.definition_parts.proofs.Entries.{object_of_key, own_keys, short_parts, each_held, text_counts}

-- ---- keys that are not among them

-- the parts of another object say nothing of a key
pub apart_filled : (m : Map) (n k s j : ℕ) (parts : List (List ℕ)) → n < 2 ^ 32 → s < 2 ^ 32 → n ≢ s → get (filled m (entries_from s j parts)) (part_key n k) ≡ get m (part_key n k)
apart_filled m n k s j [] fn fs apart = refl
apart_filled m n k s j (part ∷ parts) fn fs apart =
    get-write_other nat_list_cmp_total bytes_same (filled m (entries_from s (suc j) parts)) (part_key s j) (Some part) (part_key n k) (λ e. apart (object_of_key n s k j fn fs e))
    ∙ apart_filled m n k s (suc j) parts fn fs apart

pub apart_texts : (m : Map) (n k s : ℕ) (texts : List (List ℕ)) → n < 2 ^ 32 → s + length texts ≤ 2 ^ 32 → (n < s) ⊎ (s + length texts ≤ n) → get (with_texts s m texts) (part_key n k) ≡ get m (part_key n k)
apart_texts m n k s [] fits few away = refl
apart_texts m n k s (text ∷ texts) fits few away =
    apart_texts (filled m (part_entries s text)) n k (suc s) texts fits (omega (arith, few)) (elim away [ inl before ↦ inl (omega (arith, before)) | inr behind ↦ inr (omega (arith, behind)) ])
    ∙ apart_filled m n k s 0 (in_parts text) fits (omega (arith, few)) (λ e. elim away [ inl before ↦ absurd (omega (arith, before, e)) | inr behind ↦ absurd (omega (arith, behind, e)) ])

-- no part of a later object is among those of texts
pub none_behind : (texts : List (List ℕ)) (n k : ℕ) → length texts < n → n < 2 ^ 32 → get (parts_map texts) (part_key n k) ≡ None
none_behind texts n k less fits = apart_texts empty n k 1 texts fits (omega (arith, less, fits)) (inr (omega (arith, less))) ∙ get-empty by_bytes (part_key n k)

absent_each : (texts : List (List ℕ)) (n j : ℕ) (parts : List (List ℕ)) → length texts < n → n < 2 ^ 32 → AllByRecursion (λ (e : IndexEntry). get (parts_map texts) e.key ≡ None) (entries_from n j parts)
absent_each texts n j [] less fits = tt
absent_each texts n j (part ∷ parts) less fits = (none_behind texts n j less fits, absent_each texts n (suc j) parts less fits)

-- ---- one text more

more_texts : (s : ℕ) (m : Map) (texts : List (List ℕ)) (text : List ℕ) → with_texts s m (texts ++ text ∷ []) ≡ filled (with_texts s m texts) (part_entries (s + length texts) text)
more_texts s m [] text = ap (λ n. filled m (part_entries n text)) (let same : s ≡ s + 0 = omega arith in same)
more_texts s m (t ∷ ts) text =
    more_texts (suc s) (filled m (part_entries s t)) ts text
    ∙ ap (λ n. filled (with_texts (suc s) (filled m (part_entries s t)) ts) (part_entries n text)) (let same : suc s + length ts ≡ s + suc (length ts) = omega arith in same)

-- its parts come to those of the others
pub one_more : (texts : List (List ℕ)) (text : List ℕ) → parts_map (texts ++ text ∷ []) ≡ filled (parts_map texts) (part_entries (suc (length texts)) text)
one_more texts text = more_texts 1 empty texts text ∙ ap (λ n. filled (parts_map texts) (part_entries n text)) (let same : 1 + length texts ≡ suc (length texts) = omega arith in same)

module _ (maps : ℕ → Map) (room : ℕ) (limit : Option ℕ) (texts : List (List ℕ)) (text : List ℕ) (parts : List IndexEntry) (can : CanPutText maps room limit texts text parts) where
  abbrev n : ℕ
  n = suc (length texts)

  pub can_put : CanPutAll 0 maps room limit parts
  can_put = record {
    apart = subst HaveOwnKeys (sym can.are) (own_keys n 0 (in_parts text) (let short : length (in_parts text) ≤ 2 ^ 16 = can.short in omega (arith, short)));
    absent = subst (λ (m : Map). AllByRecursion (λ (e : IndexEntry). get m e.key ≡ None) parts) (sym can.stored)
        (subst (AllByRecursion (λ (e : IndexEntry). get (parts_map texts) e.key ≡ None)) (sym can.are) (absent_each texts n 0 (in_parts text) (omega arith) can.few));
    held = subst (AllByRecursion (λ (e : IndexEntry). CanHold 0 e.key e.value)) (sym can.are) (each_held n 0 (in_parts text) (short_parts _ text));
    places = can.places;
    within = subst (λ x. IsWithin limit (used maps + x)) (sym (ap sizes can.are ∙ text_counts n text)) can.within;
  }

  pub put_is : (new : Map) → new ≡ filled (maps 0) parts → new ≡ parts_map (texts ++ text ∷ [])
  put_is new is = is ∙ (λ i. filled (can.stored i) (can.are i)) ∙ sym (one_more texts text)
