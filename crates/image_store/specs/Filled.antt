-- No clause of `run` rests on this module: it serves contracts between crates.
--
-- A store that has the entries of an image as rows of its tables and as rows of its views.
use Rattle.std.specs.Prelude.{◌≡◌, ◌≢◌, ◌⊎◌, ◌↔◌, ℕ, suc, ℤ, List, [], length, Some, None}
use Rattle.std.specs.List.{AllByRecursion}
use Rattle.std.specs.FinMap.{FinMap, get, insert, empty}
use Rattle.iv_types.specs.Maps.{Map}
use Rattle.iv_types.specs.Definitions.{Definitions}
use Rattle.iv_types.specs.declared.catalog.TableDef.{TableDef}
use Rattle.iv_types.specs.Encoding.{IsHuge}
use Rattle.table_laws.specs.Place.{Place, place_cmp}
use Rattle.iv_meaning.specs.Database.{Row}
use Rattle.table_store.specs.Stored.{StandsUnder, table_of}
use Rattle.txn_log.specs.Fitting.{IsGroup}
use Rattle.txn_log.specs.Replay.{Pages}
use Rattle.txn_log.specs.Stored.{PageEntry, IsRowEntry, IsTotalEntry, AreProper}
use Rattle.ghost_rows.specs.Rows.{no_rows, row_at}
use Rattle.ghost_rows.specs.State.{State}
use Rattle.data_store.specs.Contents.{Contents}
use Rattle.data_store.specs.Held.{IsHeld}
use Rattle.image_entries.specs.declared.stored.StoredEntry.{StoredEntry}

-- ---- the entries

abbrev pub Entries : Type 0
Entries = FinMap place_cmp StoredEntry

-- an entry with this value stands at the place
abbrev pub HasEntry : Entries → PageEntry → Type 0
HasEntry m e = (s : StoredEntry) × (get m e.0 ≡ Some s) × (s.value ≡ e.1)

-- a row of a table, or a row of a view
abbrev pub IsDataEntry : Pages → PageEntry → Type 0
IsDataEntry p e = IsRowEntry p e ⊎ IsTotalEntry p e

-- but for the parts of definitions, the entries are just the rows of these pages
abbrev pub AreOf : Entries → Pages → Type 0
AreOf m p = (e : PageEntry) → e.0.0 ≢ 0 → HasEntry m e ↔ IsDataEntry p e

-- ---- a store that has them

-- the contents of a store that has what these pages have but for the texts of definitions, where no transaction is open
abbrev pub contents_of : Pages → Contents
contents_of p = record { objects = p.db.schema; rows = p.db.rows; view = p.view; kept = λ session. []; texts = Some empty }

-- the store has what some proper pages have, of which these are the entries, and no row of a view is open in memory
pub record IsFilled (m : Entries) (definitions : Definitions) (maps : ℕ → Map) (state : State) : Type 0 where
  pub pages : Pages
  pub held : IsHeld definitions maps state (contents_of pages)
  pub entries : AreOf m pages
  pub proper : AreProper pages
  pub closed : state.rows ≡ no_rows

-- Some entries are in the store, and the others are left.
pub record IsFilling (all left : Entries) (definitions : Definitions) (maps : ℕ → Map) (state : State) : Type 0 where
  pub done : Entries
  pub filled : IsFilled done definitions maps state
  pub apart : (place : Place) (s : StoredEntry) → get left place ≡ Some s → get done place ≡ None
  pub still : (place : Place) (s : StoredEntry) → get left place ≡ Some s → get all place ≡ Some s
  pub others : (place : Place) → get left place ≡ None → get all place ≡ get done place

-- ---- one row more

-- a row of a table that stands under its key, where none is yet
pub record IsNewRow (definitions : Definitions) (maps : ℕ → Map) (state : State) (place : Place) (row : Row) (c : Contents) : Type 0 where
  pub held : IsHeld definitions maps state c
  pub of : TableDef
  pub table_is : table_of definitions place.0 ≡ Some of
  pub stands : StandsUnder of place.1 row
  pub absent : get c.rows place ≡ None

abbrev pub with_row : Contents → Place → Row → Contents
with_row c place row = record c { rows = insert c.rows place row }

-- the numbers of a group of a view, which has no row yet, and on which nothing is kept
pub record IsNewGroup (definitions : Definitions) (maps : ℕ → Map) (state : State) (place : Place) (numbers : List ℤ) (c : Contents) : Type 0 where
  pub held : IsHeld definitions maps state c
  pub group : IsGroup c.objects place
  pub width : length numbers ≡ suc (length group.of.sums)
  pub in_range : AllByRecursion IsHuge numbers
  pub absent : get c.view place ≡ None
  pub unkept : (session : ℕ) → c.kept session ≡ []
  pub closed : row_at state.rows place ≡ None

abbrev pub with_group : Contents → Place → List ℤ → Contents
with_group c place numbers = record c { view = insert c.view place numbers }
