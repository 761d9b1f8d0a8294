-- The row that stood under a key.
use Rattle.std.specs.Prelude.{◌≡◌, ℕ, List, Option, Some, None, IfSome}
use mathlib.Core.Path.{refl, sym, ap, ◌∙◌}
use Rattle.std.specs.FinMap.{get, entries, get-entries, entries_sorted, from_sorted, get-from_sorted}
use Rattle.iv_types.specs.declared.catalog.TableDef.{TableDef}
use Rattle.iv_types.specs.Encoding.{kinds_of, FitAll, value_bytes, row_bytes}
use Rattle.iv_types.specs.Maps.{Map}
use Rattle.iv_meaning.specs.Database.{Row, Rows}
use Rattle.row_codec.specs.Laws.{OneSpelling}
use Rattle.iv_types.specs.Definitions.{Definitions}
use Rattle.table_store.specs.Stored.{stored, table_of, StandsUnder, HoldsTable, AreRows}
use Rattle.table_store.proofs.Maps.{by_bytes}
use Rattle.table_store.proofs.Fresh.{changed, changed_sorted, find_changed}
use Rattle.data_store.specs.Past.{RowVersions, Pendings, value_at, WereRows, IsMapAt}
use Rattle.data_store.proofs.ByIndex.{of_index, index_sorted, find_index}

some_same : {A : Type 0} (x y : A) → Some x ≡ Some y → x ≡ y
some_same x y e = cc

pub same_table : (ds : Definitions) (n : ℕ) (one other : TableDef) → table_of ds n ≡ Some one → table_of ds n ≡ Some other → one ≡ other
same_table ds n one other a b = some_same one other (sym a ∙ b)

-- the row whose bytes these are
pub bytes_row : (t : TableDef) (key bytes : List ℕ) (row : Option Row) → ((r : Row) → row ≡ Some r → StandsUnder t key r) → stored t row ≡ Some bytes
    → (r : Row) × FitAll (kinds_of t) r × (bytes ≡ row_bytes (kinds_of t) r)
bytes_row t key bytes None fits e = absurd (cc)
bytes_row t key bytes (Some r) fits e = (r, (fits r refl).0, sym (some_same _ _ e))

same_row : OneSpelling value_bytes → (t : TableDef) (key : List ℕ) (row found : Option Row) → ((r : Row) → row ≡ Some r → StandsUnder t key r) → IfSome found (FitAll (kinds_of t)) → stored t row ≡ stored t found → row ≡ found
same_row one t key None None fits f e = refl
same_row one t key None (Some r) fits f e = absurd (cc)
same_row one t key (Some r) None fits f e = absurd (cc)
same_row one t key (Some r) (Some s) fits f e = ap Some (one (kinds_of t) r s (fits r refl).0 f (some_same _ _ e))

module _ (number : ℕ) (versions : RowVersions) (pending : Pendings) (maps : ℕ → Map) (rows : Rows) (t : TableDef) (were : WereRows number versions pending maps rows t) where
  pub row_there : (key bytes : List ℕ) → value_at number versions pending maps (t.number, key) ≡ Some bytes → (r : Row) × FitAll (kinds_of t) r × (bytes ≡ row_bytes (kinds_of t) r)
  row_there key bytes e = bytes_row t key bytes (get rows (t.number, key)) (were.fitting key) (sym (were.same key) ∙ e)

  pub row_is : OneSpelling value_bytes → (key : List ℕ) (found : Option Row) → IfSome found (FitAll (kinds_of t)) → value_at number versions pending maps (t.number, key) ≡ stored t found → get rows (t.number, key) ≡ found
  row_is one key found fits e = same_row one t key (get rows (t.number, key)) found (were.fitting key) fits (sym (were.same key) ∙ e)

  -- ---- all of them

  -- the map of the table then
  abbrev pub map_then : Map
  map_then = from_sorted (changed by_bytes (row_bytes (kinds_of t)) (of_index t.number (entries rows)))

  pub is_then : IsMapAt number versions pending maps t.number map_then
  is_then key =
      let es = of_index t.number (entries rows) in
      get-from_sorted by_bytes (changed by_bytes (row_bytes (kinds_of t)) es) key (changed_sorted by_bytes (row_bytes (kinds_of t)) es (index_sorted t.number (entries rows) (entries_sorted rows)))
      ∙ (find_changed by_bytes (row_bytes (kinds_of t)) key es
      ∙ (ap (stored t) (find_index t.number key (entries rows) ∙ sym (get-entries rows (t.number, key))) ∙ sym (were.same key)))

  pub held_then : (m : Map) → IsMapAt number versions pending maps t.number m → HoldsTable rows t m
  held_then m is = record { same = λ key. is key ∙ were.same key; fitting = were.fitting }

  pub rows_then : AreRows t map_then
  rows_then key value there = bytes_stand key value (get rows (t.number, key)) refl (sym (were.same key) ∙ (sym (is_then key) ∙ there))
    where
      bytes_stand : (key value : List ℕ) (row : Option Row) → get rows (t.number, key) ≡ row → stored t row ≡ Some value → (r : Row) × StandsUnder t key r × (value ≡ row_bytes (kinds_of t) r)
      bytes_stand key value None is e = absurd (cc)
      bytes_stand key value (Some r) is e = (r, were.fitting key r is, sym (some_same _ _ e))
