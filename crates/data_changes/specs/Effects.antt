-- No clause of `run` rests on this module: it serves contracts between crates.
--
-- What changes make of the contents of a store.
use Rattle.std.specs.Prelude.{ℕ, List, ◌∷◌, Some, None}
use Rattle.iv_types.specs.declared.lock.GroupDelta.{GroupDelta}
use Rattle.table_laws.specs.Place.{Place}
use Rattle.table_laws.specs.Table.{write}
use Rattle.txn_machine.specs.Locks.{with_one}
use Rattle.txn_machine.specs.Deltas.{RowChange, negated}
use Rattle.txn_machine.specs.Keeping.{KeptStep, Put, Pay}
use Rattle.txn_machine.specs.Stored.{add_to, zeros}
use Rattle.data_store.specs.Contents.{Contents}

-- the session keeps these steps
abbrev pub keeping : Contents → ℕ → List KeptStep → Contents
keeping c session ks = record c { kept = with_one c.kept session ks }

-- a change is made, and kept with what it owes
abbrev pub with_put : Contents → ℕ → RowChange → List GroupDelta → Contents
with_put c session change owed = record (keeping c session (Put change owed ∷ c.kept session)) { rows = write c.rows change.key change.after }

-- a change is taken back; these are the steps before it
abbrev pub without_put : Contents → ℕ → RowChange → List KeptStep → Contents
without_put c session change ks = record (keeping c session ks) { rows = write c.rows change.key change.before }

-- a delta is paid to its view row
abbrev pub with_pay : Contents → ℕ → GroupDelta → Contents
with_pay c session d = record (keeping c session (Pay d ∷ c.kept session)) { view = add_to c.view d }

-- a pay is taken back; these are the steps before it
abbrev pub without_pay : Contents → ℕ → GroupDelta → List KeptStep → Contents
without_pay c session d ks = record (keeping c session ks) { view = add_to c.view (negated d) }

-- a row of zeros with so many columns is made at a place, or the row there is removed
abbrev pub with_ghost : Contents → Place → ℕ → Contents
with_ghost c place columns = record c { view = write c.view place (Some (zeros columns)) }

abbrev pub without_ghost : Contents → Place → Contents
without_ghost c place = record c { view = write c.view place None }
