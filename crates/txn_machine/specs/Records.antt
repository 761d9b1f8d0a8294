-- No clause of `run` rests on this module: it serves contracts between crates.
--
-- The records that steps append to the log, and their bytes: a record is its kind, its number and its fields; bytes are a length of
-- two and then these, and an option is one byte and then, where there is one, its bytes.
use Rattle.std.specs.Prelude.{ℕ, ◌+◌, ◌*◌, List, length, Option}
use Rattle.std.specs.Option.{option_map_or}
use Rattle.iv_types.specs.declared.value.Kind.{Kind}
use Rattle.iv_types.specs.declared.lock.GroupDelta.{GroupDelta}
use Rattle.table_laws.specs.Place.{Place}
use Rattle.iv_meaning.specs.Schema.{Schema, numbered, kinds_of_table}
use Rattle.iv_meaning.specs.Database.{Row}
use Rattle.txn_machine.specs.Deltas.{RowChange}
use Rattle.txn_machine.specs.Keeping.{KeptStep, Put, Pay}
use Rattle.txn_machine.specs.Counts.{row_size}

-- Transactions and records have the numbers that the log gave them.
pub data Record : Type 0 where
  Write : (transaction : ℕ) → RowChange → Record
  Delta : (transaction : ℕ) → GroupDelta → Record
  -- a row of zeros was made for a group of a view
  Ghost : Place → Record
  -- and one was removed
  Clean : Place → Record
  -- the transaction took back its record of this number
  Undo : (transaction number : ℕ) → Record
  Commit : (transaction number session : ℕ) → Record
  Abort : (transaction : ℕ) → Record
  -- a definition by its text, with its commit number
  Definition : (number session : ℕ) (text : List ℕ) → Record

-- ---- bytes

-- a kind of one byte and a number of eight
abbrev head_bytes : ℕ
head_bytes = 9

abbrev with_length : ℕ → ℕ
with_length bytes = 2 + bytes

abbrev row_or_none : List Kind → Option Row → ℕ
row_or_none kinds row = 1 + option_map_or (λ r. with_length (row_size kinds r)) row 0

-- of a Write: transaction, table, key, the rows before and after
abbrev pub write_bytes : Schema → RowChange → ℕ
write_bytes objects c =
    let kinds : List Kind = kinds_of_table (numbered objects c.key.0) in
    head_bytes + 8 + 4 + with_length (length c.key.1) + row_or_none kinds c.before + row_or_none kinds c.after

-- of a Delta: transaction, view, group, the count, how many sums there are, and these
abbrev pub delta_bytes : GroupDelta → ℕ
delta_bytes d = head_bytes + 8 + 4 + with_length (length d.group) + 1 + 1 + 16 * length d.sums

-- of a Ghost and of a Clean: view and group
abbrev pub group_bytes : Place → ℕ
group_bytes place = head_bytes + 4 + with_length (length place.1)

-- transaction and number
abbrev pub undo_bytes : ℕ
undo_bytes = head_bytes + 8 + 8

-- transaction, commit number and session
abbrev pub commit_bytes : ℕ
commit_bytes = head_bytes + 8 + 8 + 4

abbrev pub abort_bytes : ℕ
abort_bytes = head_bytes + 8

-- commit number, session and text, of which the length takes four
abbrev pub definition_bytes : List ℕ → ℕ
definition_bytes text = head_bytes + 8 + 4 + 4 + length text

abbrev pub record_bytes : Schema → Record → ℕ
record_bytes objects (Write transaction c) = write_bytes objects c
record_bytes objects (Delta transaction d) = delta_bytes d
record_bytes objects (Ghost place) = group_bytes place
record_bytes objects (Clean place) = group_bytes place
record_bytes objects (Undo transaction number) = undo_bytes
record_bytes objects (Commit transaction number session) = commit_bytes
record_bytes objects (Abort transaction) = abort_bytes
record_bytes objects (Definition number session text) = definition_bytes text

-- the record of a kept step
abbrev pub step_bytes : Schema → KeptStep → ℕ
step_bytes objects (Put c owed) = write_bytes objects c
step_bytes objects (Pay d) = delta_bytes d
