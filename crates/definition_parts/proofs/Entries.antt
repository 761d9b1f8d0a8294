-- The entries of parts: their keys, what an index can hold, and what they count.
use Rattle.std.specs.Prelude.{◌≡◌, ◌≢◌, ℕ, zero, suc, ◌+◌, ◌-◌, ◌*◌, ◌/◌, ◌^◌, ◌<◌, ◌≤◌, min, List, [], ◌∷◌, length, take, drop}
use Rattle.std.specs.List.{AllByRecursion}
use mathlib.Core.Path.{refl, sym, ap, ◌∙◌}
use Rattle.std.proofs.Common.{arith}
use Rattle.std.proofs.lemmas.List.{length-append, length-take, length-drop}
use Rattle.byteorder.specs.Endian.{big_bytes, big_number}
use Rattle.byteorder.specs.Numbers.{big_number-reads_back, length-bytes_high_first}
use Rattle.iv_types.specs.Maps.{CanHold}
use Rattle.iv_types.specs.declared.lock.IndexEntry.{IndexEntry}
use Rattle.table_store.specs.Changes.{sizes}
use Rattle.table_store.specs.Filling.{HaveOwnKeys}
use Rattle.table_store.proofs.Rooms.{sizes_cons}
use Rattle.txn_machine.specs.Log.{definition_entries, part_bytes, entry_bytes}
use Rattle.txn_log.specs.Damaged.{part_key}
use Rattle.txn_log.specs.Stored.{first_parts}
use Rattle.definition_parts.specs.Parts.{part_entry, entries_from, part_entries}

-- ---- keys

key_long : (n k : ℕ) → length (part_key n k) ≡ 6
key_long n k = omega (arith, length-append (big_bytes 4 n) (big_bytes 2 k), length-bytes_high_first 4 n, length-bytes_high_first 2 k)

pub object_of_key : (m n i j : ℕ) → m < 2 ^ 32 → n < 2 ^ 32 → part_key m i ≡ part_key n j → m ≡ n
object_of_key m n i j fm fn e = sym (big_number-reads_back 4 m (big_bytes 2 i) fm) ∙ ap (big_number 4) e ∙ big_number-reads_back 4 n (big_bytes 2 j) fn

pub part_of_key : (m n i j : ℕ) → i < 2 ^ 16 → j < 2 ^ 16 → part_key m i ≡ part_key n j → i ≡ j
part_of_key m n i j fi fj e = sym (big_number-reads_back 2 i [] fi) ∙ ap (λ (bs : List ℕ). big_number 2 (drop 4 bs)) e ∙ big_number-reads_back 2 j [] fj

-- later parts have other keys
others_behind : (n i j : ℕ) (parts : List (List ℕ)) → i < j → j + length parts ≤ 2 ^ 16 → AllByRecursion (λ (e : IndexEntry). e.key ≢ part_key n i) (entries_from n j parts)
others_behind n i j [] less fits = tt
others_behind n i j (part ∷ parts) less fits = (
  (λ e. let same = part_of_key n n j i (omega (arith, fits)) (omega (arith, less, fits)) e in absurd (omega (arith, less, same))),
  others_behind n i (suc j) parts (omega (arith, less)) (omega (arith, fits)),
)

pub own_keys : (n j : ℕ) (parts : List (List ℕ)) → j + length parts ≤ 2 ^ 16 → HaveOwnKeys (entries_from n j parts)
own_keys n j [] fits = tt
own_keys n j (part ∷ parts) fits = (others_behind n j (suc j) parts (omega arith) (omega (arith, fits)), own_keys n (suc j) parts (omega (arith, fits)))

-- ---- parts of a text

pub parts_many : (c : ℕ) (text : List ℕ) → length (first_parts c text) ≡ c
parts_many zero text = refl
parts_many (suc c) text = ap suc (parts_many c (drop part_bytes text))

pub short_parts : (c : ℕ) (text : List ℕ) → AllByRecursion (λ (part : List ℕ). length part ≤ part_bytes) (first_parts c text)
short_parts zero text = tt
short_parts (suc c) text = (let few = length-take part_bytes text in omega (arith, few), short_parts c (drop part_bytes text))

pub entries_many : (n j : ℕ) (parts : List (List ℕ)) → length (entries_from n j parts) ≡ length parts
entries_many n j [] = refl
entries_many n j (part ∷ parts) = ap suc (entries_many n (suc j) parts)

-- an index can hold each
pub each_held : (n j : ℕ) (parts : List (List ℕ)) → AllByRecursion (λ (part : List ℕ). length part ≤ part_bytes) parts → AllByRecursion (λ (e : IndexEntry). CanHold 0 e.key e.value) (entries_from n j parts)
each_held n j [] short = tt
each_held n j (part ∷ parts) short = (
  (let key = key_long n j in let value = short.0 in record { of_index = omega arith; of_key = omega (arith, key); of_value = omega (arith, value) }),
  each_held n (suc j) parts short.1,
)

-- ---- what they count

enough_count : (n j c : ℕ) (text : List ℕ) → length text ≤ c * part_bytes → sizes (entries_from n j (first_parts c text)) ≡ length text + entry_bytes 6 0 * c
enough_count n j zero text few = omega (arith, few)
enough_count n j (suc c) text few =
    let taken : length (take part_bytes text) ≡ min part_bytes (length text) = length-take part_bytes text in
    let left : length (drop part_bytes text) ≡ length text - part_bytes = length-drop part_bytes text in
    let key = key_long n j in
    let one = sizes_cons (part_entry n j (take part_bytes text)) (entries_from n (suc j) (first_parts c (drop part_bytes text))) in
    let rest = enough_count n (suc j) c (drop part_bytes text) (omega (arith, left, few)) in
    omega (arith, taken, left, key, one, rest)

-- as much as the machine says
pub text_counts : (n : ℕ) (text : List ℕ) → sizes (part_entries n text) ≡ definition_entries text
text_counts n text = enough_count n 0 ((length text + (part_bytes - 1)) / part_bytes) text (omega arith)
