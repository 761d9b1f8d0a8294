-- No clause of `run` rests on this module: it serves contracts between crates.
--
-- A change that is made ready, and then made.
use Rattle.std.specs.Prelude.{◌≡◌, ℕ, ◌≤◌, Option, IfSome}
use Rattle.iv_types.specs.declared.lock.Change.{Change}
use Rattle.iv_types.specs.declared.catalog.TableDef.{TableDef}
use Rattle.iv_types.specs.declared.catalog.IndexDef.{IndexDef}
use Rattle.iv_types.specs.Definitions.{Definitions}
use Rattle.iv_types.specs.Encoding.{kinds_of, FitAll}
use Rattle.iv_types.specs.Maps.{Map}
use Rattle.table_store.specs.Stored.{IsIndexOf}
use Rattle.table_store.specs.Changes.{IsChange, IsKept}
use Rattle.table_store.specs.declared.tables.Ready.{Ready}

-- the rows before and after fit the table
pub record RowsFit (change : Change) (t : TableDef) : Type 0 where
  pub before : IfSome change.before (FitAll (kinds_of t))
  pub after : IfSome change.after (FitAll (kinds_of t))

-- each index of the table has room for so many entries
pub record HasPlaces (definitions : Definitions) (more : ℕ) (spare : ℕ → ℕ) (t : TableDef) : Type 0 where
  pub primary : more ≤ spare t.number
  pub secondary : (i : IndexDef) → IsIndexOf definitions t i → more ≤ spare i.number

-- The change can be made, what is kept of it is its own, and each index of the table has room for an entry.
pub record IsReady (definitions : Definitions) (ready : Ready) (maps : ℕ → Map) (spare : ℕ → ℕ) (limit : Option ℕ) (t : TableDef) : Type 0 where
  pub change : IsChange definitions ready.kept.change maps limit t
  pub kept : IsKept definitions ready.kept.change ready.kept t
  pub coming : ready.coming ≡ ready.kept.made
  pub places : HasPlaces definitions 1 spare t
