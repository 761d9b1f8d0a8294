-- No clause of `run` rests on this module: it serves contracts between crates.
--
-- What is asked of a store that is read at a commit number.
use Rattle.std.specs.Prelude.{◌≡◌, ℕ, Some}
use Rattle.iv_types.specs.declared.catalog.TableDef.{TableDef}
use Rattle.iv_types.specs.Definitions.{Definitions}
use Rattle.iv_types.specs.Maps.{Map}
use Rattle.iv_meaning.specs.Schema.{view, ViewTree, numbered}
use Rattle.iv_meaning.specs.Database.{Rows}
use Rattle.table_store.specs.Stored.{table_of}
use Rattle.txn_machine.specs.Stored.{ViewRows, AreStored}
use Rattle.txn_machine.specs.May.{MayPeek}
use Rattle.ghost_rows.specs.State.{State}
use Rattle.data_store.specs.Contents.{Contents}
use Rattle.data_store.specs.Reading.{CanBeRead}
use Rattle.data_store.specs.Past.{Pendings, RowVersions, WereRows}
use Rattle.data_store.specs.ViewPast.{DeltaVersions, WereViewRows}

-- of some contents these were the rows of the tables and the stored rows of the views at a commit number
pub record WereAll (number : ℕ) (row_versions : RowVersions) (delta_versions : DeltaVersions) (pending : Pendings) (definitions : Definitions) (maps : ℕ → Map) (state : State) (c : Contents) (rows : Rows) (past : ViewRows) : Type 0 where
  pub tables : (t : TableDef) → table_of definitions t.number ≡ Some t → WereRows number row_versions pending maps rows t
  pub views : (n : ℕ) (v : ViewTree) → numbered c.objects n ≡ Some (view v) → WereViewRows number delta_versions state maps n past
  pub stored : AreStored c.objects past

-- the store has some contents that can be read, what they were then is told, and the index is one that a snapshot reads by
pub record CanPeek (number : ℕ) (row_versions : RowVersions) (delta_versions : DeltaVersions) (pending : Pendings) (definitions : Definitions) (maps : ℕ → Map) (state : State) (index : ℕ) : Type 0 where
  pub contents : Contents
  pub readable : CanBeRead definitions maps state contents
  pub rows : Rows
  pub past : ViewRows
  pub were : WereAll number row_versions delta_versions pending definitions maps state contents rows past
  pub may : MayPeek (numbered contents.objects index)
