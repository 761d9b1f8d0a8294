-- What the entries of a row count, and those of a change.
use Rattle.std.specs.Prelude.{◌≡◌, ℕ, ◌+◌, Bool, true, false, cond, List, [], ◌∷◌, ◌++◌, map, length, Option, Some, None, refl}
use Rattle.std.specs.List.{flat_map, sum}
use Rattle.std.specs.Str.{bytes_eq}
use mathlib.Core.Path.{sym, ap, ◌∙◌}
use Rattle.std.proofs.Common.{arith}
use Rattle.std.proofs.lemmas.Slice.Eq.{bytes_eq-Decides}
use Rattle.iv_types.specs.declared.catalog.TableDef.{TableDef}
use Rattle.iv_types.specs.declared.catalog.IndexDef.{IndexDef}
use Rattle.iv_types.specs.declared.lock.IndexEntry.{IndexEntry}
use Rattle.iv_types.specs.declared.value.Value.{Value}
use Rattle.iv_types.specs.Definitions.{Definitions}
use Rattle.iv_types.specs.Encoding.{kinds_of, row_bytes}
use Rattle.iv_meaning.specs.Objects.{schema_of}
use Rattle.iv_meaning.specs.Schema.{Schema, Object, table, numbered, indexes_of, kinds_of_table}
use Rattle.iv_meaning.specs.View.{index_key}
use Rattle.table_laws.specs.Place.{Place}
use Rattle.table_store.specs.Changes.{entry_in, own_entries, sizes}
use Rattle.table_store.proofs.Rooms.{sizes_cons}
use Rattle.txn_machine.specs.Counts.{row_size}
use Rattle.txn_machine.specs.Log.{entry_bytes, row_entries, perhaps_entries}
use Rattle.txn_machine.proofs.LogSums.{sum_first}

abbrev Row : Type 0
Row = List Value

-- the entry of a row in an index
abbrev pub key_entry : TableDef → Row → IndexDef → ℕ
key_entry t row i = entry_bytes (length (index_key t i row)) 0

abbrev one_entry : TableDef → Row → IndexDef → IndexEntry
one_entry t row i = record { index = i.number; key = index_key t i row; value = [] }

-- of a table's row
pub known_row : (objects : Schema) (place : Place) (row : Row) (t : TableDef) → numbered objects place.0 ≡ Some (table t)
    → row_entries objects place row ≡ entry_bytes (length place.1) (row_size (kinds_of t) row) + sum (map (key_entry t row) (indexes_of objects place.0))
known_row objects place row t e =
    ap (λ (o : Option Object). entry_bytes (length place.1) (row_size (kinds_of_table o) row) + elim o [ Some (table u) ↦ sum (map (key_entry u row) (indexes_of objects place.0)) | _ ↦ 0 ]) e

more_sums : (f : IndexDef → ℕ) (i : IndexDef) (is : List IndexDef) → sum (map f (i ∷ is)) ≡ f i + sum (map f is)
more_sums f i is = sum_first (f i) (map f is)

-- ---- all entries of a row

all_keys : (t : TableDef) (row : Row) (is : List IndexDef) → sizes (flat_map (entry_in t row None) is) ≡ sum (map (key_entry t row) is)
all_keys t row [] = refl
all_keys t row (i ∷ is) =
    let rest = all_keys t row is in
    let one : sizes (one_entry t row i ∷ flat_map (entry_in t row None) is) ≡ (length (index_key t i row) + 0 + 8) + sizes (flat_map (entry_in t row None) is) = sizes_cons (one_entry t row i) (flat_map (entry_in t row None) is) in
    let other = more_sums (key_entry t row) i is in
    omega (arith, rest, one, other)

-- ---- the entries of each of two rows that the other has not

module _ (t : TableDef) (a b : Row) where
  abbrev of_one : List IndexDef → List IndexEntry
  of_one is = flat_map (entry_in t a (Some b)) is

  abbrev of_other : List IndexDef → List IndexEntry
  of_other is = flat_map (entry_in t b (Some a)) is

  abbrev after_one : Bool → IndexDef → List IndexEntry → List IndexEntry
  after_one x i es = cond x [] (one_entry t a i ∷ []) ++ es

  abbrev after_other : Bool → IndexDef → List IndexEntry → List IndexEntry
  after_other x i es = cond x [] (one_entry t b i ∷ []) ++ es

  step : (i : IndexDef) (one other : List IndexEntry) (na nb : ℕ) → sizes one + nb ≡ sizes other + na → (x y : Bool) → bytes_eq (index_key t i b) (index_key t i a) ≡ x → bytes_eq (index_key t i a) (index_key t i b) ≡ y
      → sizes (after_one x i one) + (key_entry t b i + nb) ≡ sizes (after_other y i other) + (key_entry t a i + na)
  step i one other na nb h true true e f =
      let same : length (index_key t i b) ≡ length (index_key t i a) = ap length ((bytes_eq-Decides (index_key t i b) (index_key t i a)).0 e) in
      omega (arith, h, same)
  step i one other na nb h false false e f =
      let first : sizes (one_entry t a i ∷ one) ≡ (length (index_key t i a) + 0 + 8) + sizes one = sizes_cons (one_entry t a i) one in
      let second : sizes (one_entry t b i ∷ other) ≡ (length (index_key t i b) + 0 + 8) + sizes other = sizes_cons (one_entry t b i) other in
      omega (arith, h, first, second)
  step i one other na nb h true false e f =
      let same : bytes_eq (index_key t i a) (index_key t i b) ≡ true = (bytes_eq-Decides (index_key t i a) (index_key t i b)).1 (sym ((bytes_eq-Decides (index_key t i b) (index_key t i a)).0 e)) in
      absurd (let bad : true ≡ false = sym same ∙ f in cc)
  step i one other na nb h false true e f =
      let same : bytes_eq (index_key t i b) (index_key t i a) ≡ true = (bytes_eq-Decides (index_key t i b) (index_key t i a)).1 (sym ((bytes_eq-Decides (index_key t i a) (index_key t i b)).0 f)) in
      absurd (let bad : true ≡ false = sym same ∙ e in cc)

  both_keys : (is : List IndexDef) → sizes (of_one is) + sum (map (key_entry t b) is) ≡ sizes (of_other is) + sum (map (key_entry t a) is)
  both_keys [] = refl
  both_keys (i ∷ is) =
      let all = step i (of_one is) (of_other is) (sum (map (key_entry t a) is)) (sum (map (key_entry t b) is)) (both_keys is) (bytes_eq (index_key t i b) (index_key t i a)) (bytes_eq (index_key t i a) (index_key t i b)) refl refl in
      let one = more_sums (key_entry t a) i is in
      let other = more_sums (key_entry t b) i is in
      omega (arith, all, one, other)

module _ (ds : Definitions) (t : TableDef) (n : ℕ) (same : t.number ≡ n) (is_table : numbered (schema_of ds) n ≡ Some (table t)) (key : List ℕ) where
  abbrev objects : Schema
  objects = schema_of ds

  abbrev those : List IndexDef
  those = indexes_of objects t.number

  abbrev first : Row → IndexEntry
  first row = record { index = t.number; key = key; value = row_bytes (kinds_of t) row }

  of_row : (row : Row) → row_entries objects (n, key) row ≡ entry_bytes (length key) (row_size (kinds_of t) row) + sum (map (key_entry t row) those)
  of_row row = known_row objects (n, key) row t is_table ∙ ap (λ m. entry_bytes (length key) (row_size (kinds_of t) row) + sum (map (key_entry t row) (indexes_of objects m))) (sym same)

  -- those of a row alone
  pub own_sizes : (row : Row) → sizes (own_entries ds t key (Some row) None) ≡ row_entries objects (n, key) row
  own_sizes row =
      let all : sizes (first row ∷ flat_map (entry_in t row None) those) ≡ (length key + length (row_bytes (kinds_of t) row) + 8) + sizes (flat_map (entry_in t row None) those) = sizes_cons (first row) (flat_map (entry_in t row None) those) in
      let keys = all_keys t row those in
      let is = of_row row in
      omega (arith, all, keys, is)

  -- what one row has alone and the other in all is what the other has alone and the one in all
  pub change_sizes : (one other : Option Row) → sizes (own_entries ds t key one other) + perhaps_entries objects (n, key) other ≡ sizes (own_entries ds t key other one) + perhaps_entries objects (n, key) one
  change_sizes None None = refl
  change_sizes (Some a) None = let own = own_sizes a in omega (arith, own)
  change_sizes None (Some b) = let own = own_sizes b in omega (arith, own)
  change_sizes (Some a) (Some b) =
      let one : sizes (first a ∷ flat_map (entry_in t a (Some b)) those) ≡ (length key + length (row_bytes (kinds_of t) a) + 8) + sizes (flat_map (entry_in t a (Some b)) those) = sizes_cons (first a) (flat_map (entry_in t a (Some b)) those) in
      let other : sizes (first b ∷ flat_map (entry_in t b (Some a)) those) ≡ (length key + length (row_bytes (kinds_of t) b) + 8) + sizes (flat_map (entry_in t b (Some a)) those) = sizes_cons (first b) (flat_map (entry_in t b (Some a)) those) in
      let keys = both_keys t a b those in
      let of_a = of_row a in
      let of_b = of_row b in
      omega (arith, one, other, keys, of_a, of_b)
