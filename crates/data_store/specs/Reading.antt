-- No clause of `run` rests on this module: it serves contracts between crates.
--
-- What readings ask of a store.
use Rattle.std.specs.Prelude.{ℕ, ◌+◌, List, map, Option, Some, None}
use Rattle.std.specs.List.{sum}
use Rattle.iv_meaning.specs.Database.{Row}
use Rattle.txn_machine.specs.Counts.{row_size, listed_kinds}
use Rattle.iv_types.specs.Maps.{Map}
use Rattle.iv_types.specs.declared.lock.Change.{Change}
use Rattle.iv_types.specs.Definitions.{Definitions}
use Rattle.iv_meaning.specs.Schema.{Schema, Object, table, index, view, numbered}
use Rattle.iv_meaning.specs.Sound.{IsTable}
use Rattle.txn_machine.specs.Stored.{AreStored}
use Rattle.txn_machine.specs.ViewLaws.{IsRight}
use Rattle.txn_machine.specs.RowChanges.{row_change}
use Rattle.ghost_rows.specs.State.{State}
use Rattle.data_store.specs.Contents.{Contents}
use Rattle.data_store.specs.Held.{IsHeld}

-- the store has these contents, of which each stored view row is one of a view
pub record CanBeRead (definitions : Definitions) (maps : ℕ → Map) (state : State) (c : Contents) : Type 0 where
  pub held : IsHeld definitions maps state c
  pub stored : AreStored c.objects c.view

-- a table, an index of a table or a view
abbrev pub HasRows : Schema → Option Object → Type 0
HasRows objects (Some (table t)) = Unit {0}
HasRows objects (Some (index i)) = IsTable objects i.table
HasRows objects (Some (view v)) = Unit {0}
HasRows objects None = ⊥

-- the store has some contents, and an index of them has rows
pub record CanFind (definitions : Definitions) (maps : ℕ → Map) (state : State) (number : ℕ) : Type 0 where
  pub contents : Contents
  pub readable : CanBeRead definitions maps state contents
  pub has_rows : HasRows contents.objects (numbered contents.objects number)

-- the store has some contents, and the change is one of a row of a table of them: sound rows, of which it finds its row as it says,
-- and sound rows after it
pub record CanChange (definitions : Definitions) (maps : ℕ → Map) (state : State) (change : Change) : Type 0 where
  pub contents : Contents
  pub held : IsHeld definitions maps state contents
  pub of_table : IsTable contents.objects change.table
  pub right : IsRight contents.objects contents.rows (row_change change)

-- what rows of an index count in a note, without the interval
abbrev pub rows_size : Schema → ℕ → List Row → ℕ
rows_size objects number rows = sum (map (λ row. row_size (listed_kinds objects number) row + 16) rows)
