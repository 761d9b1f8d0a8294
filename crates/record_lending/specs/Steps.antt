-- No clause of `run` rests on this module: it serves contracts between crates.
--
-- The record that the log has of a step that can be taken back.
use Rattle.std.specs.Prelude.{ℕ, List, [], ◌∷◌, Option, Some, None}
use Rattle.iv_types.specs.Definitions.{Definitions}
use Rattle.iv_types.specs.declared.lock.IndexEntry.{IndexEntry}
use Rattle.iv_types.specs.declared.lock.KeptStep.{KeptStep}
use Rattle.iv_types.specs.declared.lock.KeptStep.TheVariants.{Put, Pay}
use Rattle.table_store.specs.Stored.{IsTableAnd}
use Rattle.table_store.specs.Changes.{IsKept}
use Rattle.txn_machine.specs.RowChanges.{row_change}
use Rattle.txn_machine.specs.Records.{Record, Write, Delta}

-- of a change its Write, and of a pay its Delta
abbrev pub record_of : ℕ → KeptStep → Record
record_of transaction (Put k txn_bytes history_bytes number) = Write transaction (row_change k.change)
record_of transaction (Pay d before number) = Delta transaction d

-- and that record's number
abbrev pub number_of : KeptStep → ℕ
number_of (Put k txn_bytes history_bytes number) = number
number_of (Pay d before number) = number

-- a change has the entries that it took away and made
abbrev pub HasItsEntries : Definitions → KeptStep → Type 0
HasItsEntries definitions (Put k txn_bytes history_bytes number) = IsTableAnd definitions k.change.table (IsKept definitions k.change k)
HasItsEntries definitions (Pay d before number) = Unit {0}

-- what stands in the first of some entries
abbrev pub first_value : List IndexEntry → Option (List ℕ)
first_value [] = None
first_value (e ∷ es) = Some e.value
