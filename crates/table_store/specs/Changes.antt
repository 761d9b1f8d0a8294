-- No clause of `run` rests on this module: it serves contracts between crates.
--
-- A change of a row, with its entries in all indexes of its table.
use Rattle.std.specs.Prelude.{◌≡◌, ◌≢◌, ℕ, ◌+◌, ◌-◌, ◌≤◌, ◌==◌, Bool, false, List, [], ◌∷◌, length, filter, sum_by, Option, Some, None, IfSome, if◌then◌else◌}
use Rattle.std.specs.List.{AllByRecursion, flat_map}
use Rattle.std.specs.Str.{bytes_eq}
use Rattle.std.specs.Option.{option_map_or}
use Rattle.std.specs.FinMap.{get, insert, remove}
use Rattle.iv_types.specs.declared.value.Value.{Value}
use Rattle.iv_types.specs.declared.lock.Change.{Change}
use Rattle.iv_types.specs.declared.lock.IndexEntry.{IndexEntry}
use Rattle.iv_types.specs.declared.lock.Kept.{Kept}
use Rattle.iv_types.specs.declared.catalog.TableDef.{TableDef}
use Rattle.iv_types.specs.declared.catalog.IndexDef.{IndexDef}
use Rattle.iv_types.specs.Definitions.{Definitions}
use Rattle.iv_types.specs.Encoding.{kinds_of, row_bytes}
use Rattle.iv_types.specs.Maps.{Map, CanHold, IsWithin, entry_size, used, last_index}
use Rattle.iv_meaning.specs.Schema.{indexes_of}
use Rattle.iv_meaning.specs.Objects.{schema_of}
use Rattle.iv_meaning.specs.Database.{Rows, set_row}
use Rattle.iv_meaning.specs.View.{index_key}
use Rattle.table_laws.specs.Table.{write}
use Rattle.table_store.specs.Stored.{stored, StandsUnder, IsIndexOf, HoldsAll, Holds}
use Rattle.table_store.specs.Entries.{AreApart, AreThere, AreAbsent, HavePlaces, TakesOut, PutsIn}

-- ---- the entries of a change

-- whether a row, if there is one, has this key in an index
abbrev pub has_key : TableDef → IndexDef → Option (List Value) → List ℕ → Bool
has_key t i row key = option_map_or (λ r. bytes_eq (index_key t i r) key) row false

-- the entry of a row in an index that CREATE INDEX made, unless the other row has the same
abbrev pub entry_in : TableDef → List Value → Option (List Value) → IndexDef → List IndexEntry
entry_in t row other i = if has_key t i other (index_key t i row) then [] else record { index = i.number; key = index_key t i row; value = [] } ∷ []

-- The entries of a row that another one in its place has not: that of the primary index first, and then those of the other indexes
-- in the order of their numbers.
abbrev pub own_entries : Definitions → TableDef → List ℕ → Option (List Value) → Option (List Value) → List IndexEntry
own_entries definitions t key None other = []
own_entries definitions t key (Some row) other =
    record { index = t.number; key = key; value = row_bytes (kinds_of t) row } ∷ flat_map (entry_in t row other) (indexes_of (schema_of definitions) t.number)

-- those that a change takes away, and those that it makes
abbrev pub gone_by : Definitions → Change → TableDef → List IndexEntry
gone_by definitions change t = own_entries definitions t change.key change.before change.after

abbrev pub made_by : Definitions → Change → TableDef → List IndexEntry
made_by definitions change t = own_entries definitions t change.key change.after change.before

-- the change, with the entries that it removed and made
pub record IsKept (definitions : Definitions) (change : Change) (kept : Kept) (t : TableDef) : Type 0 where
  pub change_is : kept.change ≡ change
  pub removed : kept.gone ≡ gone_by definitions change t
  pub made : kept.made ≡ made_by definitions change t

-- ---- what entries take

-- the entries count
abbrev pub sizes : List IndexEntry → ℕ
sizes es = sum_by (λ e. entry_size (e.key, e.value)) es

-- how many of them are of an index
abbrev pub how_many : ℕ → List IndexEntry → ℕ
how_many index es = length (filter (λ e. e.index == index) es)

-- an index can hold each of them
abbrev pub CanHoldEach : List IndexEntry → Type 0
CanHoldEach es = AllByRecursion (λ e. CanHold e.index e.key e.value) es

-- There is room for those that come, each where one goes or in a place to spare, and all entries are within the limit then.
pub record HasRoom (maps : ℕ → Map) (spare : ℕ → ℕ) (limit : Option ℕ) (go come : List IndexEntry) : Type 0 where
  pub places : (index : ℕ) → how_many index come ≤ spare index + how_many index go
  pub within : IsWithin limit (used maps + sizes come - sizes go)

-- Entries that are there can go, and others come in their place: an index can hold each, there is a place for it, and all are within
-- the limit then.
pub record CanExchange (maps : ℕ → Map) (spare : ℕ → ℕ) (limit : Option ℕ) (go come : List IndexEntry) : Type 0 where
  pub go_apart : AreApart go
  pub come_apart : AreApart come
  pub there : AreThere maps go
  pub absent : (between : ℕ → Map) → TakesOut go maps between → AreAbsent between come
  pub can_hold : CanHoldEach come
  pub places : HavePlaces (λ index. spare index + how_many index go) come
  pub numbers : come ≢ [] → AllByRecursion (λ e. e.index ≤ last_index) go
  pub within : IsWithin limit (used maps + sizes come - sizes go)

-- some are taken out, and then others are put in
pub record Exchanges (go come : List IndexEntry) (old new : ℕ → Map) : Type 0 where
  pub between : ℕ → Map
  pub out : TakesOut go old between
  pub put : PutsIn come between new

-- those that come take room, and those that go give it back
abbrev pub TakesRoom : (ℕ → ℕ) → (ℕ → ℕ) → List IndexEntry → List IndexEntry → Type 0
TakesRoom old new go come = (index : ℕ) → old index + how_many index go ≤ new index + how_many index come

-- ---- a row in place of another

-- a map of an index without a row's entry, and with it
abbrev pub without_row : TableDef → IndexDef → Option (List Value) → Map → Map
without_row t i None m = m
without_row t i (Some row) m = remove m (index_key t i row)

abbrev pub with_row : TableDef → IndexDef → Option (List Value) → Map → Map
with_row t i None m = m
with_row t i (Some row) m = insert m (index_key t i row) []

-- A row or none is put in place of one or none under a key of a table: in its primary index and in all others. Any other map stays.
pub record Sets (definitions : Definitions) (key : List ℕ) (one other : Option (List Value)) (old new : ℕ → Map) (t : TableDef) : Type 0 where
  pub primary : new t.number ≡ write (old t.number) key (stored t other)
  pub secondary : (i : IndexDef) → IsIndexOf definitions t i → new i.number ≡ with_row t i other (without_row t i one (old i.number))
  pub rest : (n : ℕ) → n ≢ t.number → ((i : IndexDef) → IsIndexOf definitions t i → n ≢ i.number) → new n ≡ old n

-- what holds the rows before holds them after with this row or none under a key of a table
abbrev pub SetsRow : Definitions → ℕ → List ℕ → Option (List Value) → (ℕ → Map) → (ℕ → Map) → Type 0
SetsRow definitions table key row old new = (rows : Rows) → Holds definitions rows old → Holds definitions (set_row rows table key row) new

-- the maps hold the rows of the table, and this one or none under the key
pub record IsThere (definitions : Definitions) (key : List ℕ) (row : Option (List Value)) (maps : ℕ → Map) (t : TableDef) : Type 0 where
  pub rows : Rows
  pub held : HoldsAll definitions rows maps t
  pub is : get rows (t.number, key) ≡ row

-- The change is one of the table: its row before is the one that is there, its row after stands under its key, they differ, and
-- the entries that it makes can be held, all within the limit.
pub record IsChange (definitions : Definitions) (change : Change) (maps : ℕ → Map) (limit : Option ℕ) (t : TableDef) : Type 0 where
  pub there : IsThere definitions change.key change.before maps t
  pub row_after : IfSome change.after (StandsUnder t change.key)
  pub differ : change.before ≢ change.after
  pub can_hold : CanHoldEach (made_by definitions change t)
  pub within : IsWithin limit (used maps + sizes (made_by definitions change t) - sizes (gone_by definitions change t))

-- Each index of the table has room for so many entries more, and for those that went.
pub record KeepsRoom (definitions : Definitions) (room : ℕ) (gone : List IndexEntry) (spare : ℕ → ℕ) (t : TableDef) : Type 0 where
  pub primary : room + how_many t.number gone ≤ spare t.number
  pub secondary : (i : IndexDef) → IsIndexOf definitions t i → room + how_many i.number gone ≤ spare i.number

-- The change can be taken back: it was kept so, its row after is the one that is there, its row before stands under its key, and
-- there is room for the entries that go back in, which indexes can hold.
pub record CanTakeBack (definitions : Definitions) (kept : Kept) (maps : ℕ → Map) (spare : ℕ → ℕ) (limit : Option ℕ) (t : TableDef) : Type 0 where
  pub is_kept : IsKept definitions kept.change kept t
  pub there : IsThere definitions kept.change.key kept.change.after maps t
  pub row_before : IfSome kept.change.before (StandsUnder t kept.change.key)
  pub can_hold : CanHoldEach kept.gone
  pub room : HasRoom maps spare limit kept.made kept.gone
