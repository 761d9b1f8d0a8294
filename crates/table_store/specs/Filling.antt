-- No clause of `run` rests on this module: it serves contracts between crates.
--
-- A new index, filled from the rows of its table.
use Rattle.std.specs.Prelude.{◌≡◌, ◌≢◌, ℕ, ◌+◌, ◌≤◌, List, [], ◌∷◌, length, Option, None}
use Rattle.std.specs.List.{AllByRecursion, AllZip}
use Rattle.std.specs.FinMap.{get, insert, entries, empty}
use Rattle.iv_types.specs.declared.value.Value.{Value}
use Rattle.iv_types.specs.declared.lock.IndexEntry.{IndexEntry}
use Rattle.iv_types.specs.declared.catalog.TableDef.{TableDef}
use Rattle.iv_types.specs.declared.catalog.IndexDef.{IndexDef}
use Rattle.iv_types.specs.Encoding.{kinds_of, row_bytes}
use Rattle.iv_types.specs.Maps.{Map, Entry, CanHold, IsWithin, used}
use Rattle.iv_meaning.specs.View.{index_key}
use Rattle.table_store.specs.Stored.{StandsUnder}
use Rattle.table_store.specs.Changes.{sizes, CanHoldEach}

-- ---- the entries

abbrev pub index_entry : TableDef → IndexDef → List Value → IndexEntry
index_entry t i row = record { index = i.number; key = index_key t i row; value = [] }

-- it is that of the row whose bytes stand in an entry of the table
pub record IsIndexEntry (t : TableDef) (i : IndexDef) (stored : Entry) (e : IndexEntry) : Type 0 where
  pub row : List Value
  pub stands : StandsUnder t stored.0 row
  pub bytes : stored.1 ≡ row_bytes (kinds_of t) row
  pub is : e ≡ index_entry t i row

-- one for each entry of the table, in their order
abbrev pub AreIndexEntries : TableDef → IndexDef → Map → List IndexEntry → Type 0
AreIndexEntries t i m es = AllZip (IsIndexEntry t i) (entries m) es

-- ---- the index

-- with all of them
abbrev pub filled : Map → List IndexEntry → Map
filled m [] = m
filled m (e ∷ es) = insert (filled m es) e.key e.value

-- no two have one key
abbrev pub HaveOwnKeys : List IndexEntry → Type 0
HaveOwnKeys [] = Unit {0}
HaveOwnKeys (e ∷ es) = AllByRecursion (λ x. x.key ≢ e.key) es × HaveOwnKeys es

-- an index can hold them, and has none of their keys; there is room for them, and all entries are within the limit then
pub record CanPutAll (index : ℕ) (maps : ℕ → Map) (room : ℕ) (limit : Option ℕ) (es : List IndexEntry) : Type 0 where
  pub apart : HaveOwnKeys es
  pub absent : AllByRecursion (λ e. get (maps index) e.key ≡ None) es
  pub held : AllByRecursion (λ e. CanHold index e.key e.value) es
  pub places : length es ≤ room
  pub within : IsWithin limit (used maps + sizes es)

-- they are the entries of the rows of its table, and the index has none
pub record CanFill (i : IndexDef) (maps : ℕ → Map) (room : ℕ) (limit : Option ℕ) (es : List IndexEntry) (t : TableDef) : Type 0 where
  pub are : AreIndexEntries t i (maps t.number) es
  pub none : maps i.number ≡ empty
  pub held : CanHoldEach es
  pub places : length es ≤ room
  pub within : IsWithin limit (used maps + sizes es)
