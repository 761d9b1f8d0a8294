-- No clause of `run` rests on this module: it serves contracts between crates.
--
-- Changes of rows as they are handed to the crate, and what is asked of them.
use Rattle.std.specs.Prelude.{◌≡◌, ℕ, IfSome, Some}
use Rattle.std.specs.Prelude.{pos}
use Rattle.std.specs.List.{AllByRecursion}
use Rattle.iv_types.specs.declared.lock.Change.{Change}
use Rattle.iv_types.specs.declared.lock.GroupDelta.{GroupDelta}
use Rattle.iv_types.specs.Encoding.{FitAll, IsHuge}
use Rattle.iv_meaning.specs.Schema.{Schema, ViewTree, view, numbered, kinds_of_table}
use Rattle.txn_machine.specs.RowChanges.{row_change}
use Rattle.txn_machine.specs.ViewLaws.{IsJoined, IsRight}
use Rattle.iv_types.specs.Definitions.{Definitions}
use Rattle.iv_types.specs.Maps.{Map}
use Rattle.iv_meaning.specs.Database.{Rows}
use Rattle.iv_meaning.specs.Objects.{schema_of}
use Rattle.table_store.specs.Stored.{Holds}

-- its rows fit the table that it changes
pub record RowsFit (objects : Schema) (c : Change) : Type 0 where
  pub before : IfSome c.before (λ row. FitAll (kinds_of_table (numbered objects c.table)) row)
  pub after : IfSome c.after (λ row. FitAll (kinds_of_table (numbered objects c.table)) row)

-- each view of two tables joins them by the whole primary key of the second, and names an index that begins with the joined columns
abbrev pub AreJoined : Schema → Type 0
AreJoined objects = (n : ℕ) (v : ViewTree) → numbered objects n ≡ Some (view v) → IsJoined objects v

-- one row more in its group, with sums that can be negated
pub record AddsOne (d : GroupDelta) : Type 0 where
  pub count : d.count ≡ pos 1
  pub sums : AllByRecursion IsHuge d.sums

-- The maps hold these rows, which are sound, and so are those after the change, which finds its row as it says.
pub record Finds (definitions : Definitions) (maps : ℕ → Map) (c : Change) (rows : Rows) : Type 0 where
  pub holds : Holds definitions rows maps
  pub right : IsRight (schema_of definitions) rows (row_change c)
