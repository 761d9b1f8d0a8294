-- No clause of `run` rests on this module: it serves contracts between crates.
--
-- What deltas are for: they carry a view from before a change to after it.
use Rattle.std.specs.Prelude.{◌≡◌, ℕ, ℤ, pos, ◌+ℤ◌, get_or, IfSome}
use Rattle.std.specs.FinMap.{get}
use Rattle.iv_types.specs.Encoding.{FitAll, key_bytes}
use Rattle.table_laws.specs.Place.{Place}
use Rattle.iv_meaning.specs.Schema.{Schema, ViewTree, group_kinds}
use Rattle.iv_meaning.specs.Database.{Row, Rows, Database}
use Rattle.iv_meaning.specs.Sound.{IsSound, IsRow}
use Rattle.iv_meaning.specs.View.{share}
use Rattle.txn_machine.specs.Deltas.{RowChange, rows_after, owed_to, due}

-- what a group has in a column of a view
abbrev pub share_in : Schema → Rows → ViewTree → Row → ℕ → ℤ
share_in objects rows v g column = get_or (share objects rows v g) column (pos 0)

-- where the view's row of a group is stored
abbrev pub place_of_group : Schema → ViewTree → Row → Place
place_of_group objects v g = (v.number, key_bytes (group_kinds objects v) g)

-- the change finds its row as it says, and leaves one that fits its table, or none
pub record IsChangeOf (db : Database) (c : RowChange) : Type 0 where
  pub before : get db.rows c.key ≡ c.before
  pub after : IfSome c.after (λ row. IsRow db.schema c.key row)

-- Of a view of one table or of two, and a change of whichever table: what a group has in a column after the change is what
-- it had before and what the change owes it.
abbrev pub DeltaLaw : Type 0
DeltaLaw =
    (db : Database) (v : ViewTree) (c : RowChange) (g : Row) (column : ℕ) → IsSound db → IsChangeOf db c
    → FitAll (group_kinds db.schema v) g
    → share_in db.schema (rows_after c db.rows) v g column
    ≡ share_in db.schema db.rows v g column +ℤ due (place_of_group db.schema v g) column (owed_to db.schema db.rows c v)
