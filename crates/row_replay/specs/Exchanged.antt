-- No clause of `run` rests on this module: it serves contracts between crates.
--
-- Rows under a key, one in place of another.
use Rattle.std.specs.Prelude.{ℕ, List, Option, IfSome}
use Rattle.iv_types.specs.declared.catalog.TableDef.{TableDef}
use Rattle.iv_meaning.specs.Database.{Row, Rows}
use Rattle.table_store.specs.Stored.{StandsUnder}
use Rattle.data_store.specs.Contents.{Contents}

-- each of them fits the table and stands under the key, or there is none
pub record AreRowsUnder (key : List ℕ) (one other : Option Row) (t : TableDef) : Type 0 where
  pub one_stands : IfSome one (StandsUnder t key)
  pub other_stands : IfSome other (StandsUnder t key)

-- with other rows of tables
abbrev pub with_rows : Contents → Rows → Contents
with_rows c rows = record c { rows = rows }
