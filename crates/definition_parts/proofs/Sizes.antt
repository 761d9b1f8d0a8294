-- What the parts of texts count.
use Rattle.std.specs.Prelude.{◌≡◌, ◌≢◌, ℕ, suc, ◌+◌, ◌<◌, ◌≤◌, ◌^◌, List, [], ◌∷◌, map, length, Some, None}
use Rattle.std.specs.List.{AllByRecursion, sum}
use Rattle.std.specs.FinMap.{get, empty, get-empty}
use Rattle.std.specs.Cmp.Lexicographic.{nat_list_cmp_total}
use mathlib.Core.Path.{refl, sym, ap, ◌∙◌}
use Rattle.std.proofs.Common.{arith}
use Rattle.iv_types.specs.Maps.{Map, map_size}
use Rattle.iv_types.specs.declared.lock.IndexEntry.{IndexEntry}
use Rattle.iv_types.proofs.MapSizes.{size_insert}
use Rattle.table_laws.proofs.Tables.{get-write_other}
use Rattle.table_store.specs.Changes.{sizes}
use Rattle.table_store.specs.Filling.{HaveOwnKeys, filled}
use Rattle.table_store.proofs.Counting.{size_of_empty}
use Rattle.table_store.proofs.Maps.{by_bytes, bytes_same}
use Rattle.table_store.proofs.Rooms.{sizes_cons}
use Rattle.txn_machine.specs.Log.{definition_entries}
use Rattle.txn_machine.proofs.LogSums.{sum_first}
use Rattle.txn_log.specs.Damaged.{part_key}
use Rattle.txn_log.specs.Stored.{in_parts}
use Rattle.definition_parts.specs.Parts.{entries_from, part_entries, with_texts, parts_map, IsShort}
use Rattle.definition_parts.proofs.Entries.{own_keys, text_counts}
use Rattle.definition_parts.proofs.Texts.{apart_filled}

-- a key that none of them has is not among them
none_filled : (m : Map) (es : List IndexEntry) (key : List ℕ) → AllByRecursion (λ e. e.key ≢ key) es → get m key ≡ None → get (filled m es) key ≡ None
none_filled m [] key others none = none
none_filled m (e ∷ es) key others none =
    get-write_other nat_list_cmp_total bytes_same (filled m es) e.key (Some e.value) key (λ same. others.0 (sym same)) ∙ none_filled m es key others.1 none

-- entries that come to a map count beside it
pub size_filled : (m : Map) (es : List IndexEntry) → HaveOwnKeys es → AllByRecursion (λ e. get m e.key ≡ None) es → map_size (filled m es) ≡ map_size m + sizes es
size_filled m [] apart absent = omega arith
size_filled m (e ∷ es) apart absent =
    let one = size_insert (filled m es) e.key e.value (none_filled m es e.key apart.0 absent.0) in
    let rest = size_filled m es apart.1 absent.1 in
    let all = sizes_cons e es in
    omega (arith, one, rest, all)

-- no key of the parts of these objects is in a map
abbrev NoneFrom : ℕ → Map → Type 0
NoneFrom s m = (n k : ℕ) → s ≤ n → n < 2 ^ 32 → get m (part_key n k) ≡ None

absent_from : (m : Map) (s j : ℕ) (parts : List (List ℕ)) → s < 2 ^ 32 → NoneFrom s m → AllByRecursion (λ (e : IndexEntry). get m e.key ≡ None) (entries_from s j parts)
absent_from m s j [] few none = tt
absent_from m s j (part ∷ parts) few none = (none s j (omega arith) few, absent_from m s (suc j) parts few none)

sizes_from : (s : ℕ) (m : Map) (texts : List (List ℕ)) → AllByRecursion IsShort texts → s + length texts ≤ 2 ^ 32 → NoneFrom s m → map_size (with_texts s m texts) ≡ map_size m + sum (map definition_entries texts)
sizes_from s m [] short few none = omega arith
sizes_from s m (text ∷ texts) short few none =
    let here = size_filled m (part_entries s text) (own_keys s 0 (in_parts text) (let few_parts = short.0 in omega (arith, few_parts))) (absent_from m s 0 (in_parts text) (omega (arith, few)) none) in
    let counts = text_counts s text in
    let rest = sizes_from (suc s) (filled m (part_entries s text)) texts short.1 (omega (arith, few))
    (λ n k later fits. apart_filled m n k s 0 (in_parts text) fits (omega (arith, few)) (λ same. absurd (omega (arith, same, later))) ∙ none n k (omega (arith, later)) fits) in
    let all = sum_first (definition_entries text) (map definition_entries texts) in
    omega (arith, here, counts, rest, all)

pub sizes_are : (texts : List (List ℕ)) → AllByRecursion IsShort texts → length texts < 2 ^ 32 → map_size (parts_map texts) ≡ sum (map definition_entries texts)
sizes_are texts short few =
    let all = sizes_from 1 empty texts short (omega (arith, few)) (λ n k later fits. get-empty by_bytes (part_key n k)) in
    let none = size_of_empty in
    omega (arith, all, none)
