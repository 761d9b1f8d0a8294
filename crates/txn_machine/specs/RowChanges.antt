-- No clause of `run` rests on this module: it serves contracts between crates.
--
-- A change of the code, as the machine has it.
use Rattle.iv_types.specs.declared.lock.Change.{Change}
use Rattle.txn_machine.specs.Deltas.{RowChange}

-- the change of the row at a place
abbrev pub row_change : Change → RowChange
row_change c = record { key = (c.table, c.key); before = c.before; after = c.after }
