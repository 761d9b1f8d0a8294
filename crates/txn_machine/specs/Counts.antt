-- No clause of `run` rests on this module: it serves contracts between crates.
--
-- How many bytes a transaction and the history take, and the most that they may.
use Rattle.std.specs.Prelude.{ℕ, ◌+◌, ◌*◌, ◌-◌, ◌^◌, min, List, [], map, length, Option, Some, None}
use Rattle.std.specs.List.{sum}
use Rattle.std.specs.Option.{option_map_or}
use Rattle.iv_types.specs.declared.value.Kind.{Kind}
use Rattle.iv_types.specs.declared.value.Interval.{Interval}
use Rattle.iv_types.specs.declared.statement.Mode.TheVariants.{Serial, Snapshot}
use Rattle.iv_types.specs.declared.lock.GroupDelta.{GroupDelta}
use Rattle.iv_types.specs.Encoding.{row_bytes}
use Rattle.iv_types.specs.Syntax.{StatementTree}
use Rattle.iv_types.specs.Printing.{statement_text}
use Rattle.iv_meaning.specs.Schema.{Schema, table, index, view, numbered, kinds_of_table, object_kinds}
use Rattle.iv_meaning.specs.Database.{Row}
use Rattle.iv_meaning.specs.Statement.{Kept, sets, defines}
use Rattle.iv_meaning.specs.History.{Entry}
use Rattle.txn_machine.specs.Deltas.{RowChange}
use Rattle.txn_machine.specs.Keeping.{KeptStep, Put, Pay, changes_of, Note, Open}

-- ---- rows

-- the kinds of the rows that an object lists: an index lists those of its table
abbrev pub listed_kinds : Schema → ℕ → List Kind
listed_kinds objects number = elim (numbered objects number) [
  | None ↦ []
  | Some o ↦ elim o [
    | table t ↦ object_kinds objects (table t)
    | index i ↦ kinds_of_table (numbered objects i.table)
    | view v ↦ object_kinds objects (view v)
  ]
]

abbrev pub row_size : List Kind → Row → ℕ
row_size kinds row = length (row_bytes kinds row)

abbrev pub perhaps_size : List Kind → Option Row → ℕ
perhaps_size kinds row = option_map_or (row_size kinds) row 0

-- the key and the rows before and after
abbrev pub change_size : Schema → RowChange → ℕ
change_size objects c =
    let kinds : List Kind = kinds_of_table (numbered objects c.key.0) in
    length c.key.1 + perhaps_size kinds c.before + perhaps_size kinds c.after

-- ---- a transaction

abbrev pub interval_size : Interval → ℕ
interval_size interval = length interval.low + option_map_or length interval.high 0

abbrev pub fetch_size : Schema → ℕ → Interval → List Row → ℕ
fetch_size objects number interval rows =
    64 + interval_size interval + sum (map (λ row. row_size (listed_kinds objects number) row + 16) rows)

abbrev pub note_size : Schema → Note → ℕ
note_size objects n = fetch_size objects n.index n.interval n.rows

abbrev pub delta_size : GroupDelta → ℕ
delta_size d = 128 + length d.group + 16 * length d.sums

abbrev pub put_size : Schema → RowChange → List GroupDelta → ℕ
put_size objects c owed = 128 + change_size objects c + sum (map delta_size owed)

abbrev pub kept_size : Schema → KeptStep → ℕ
kept_size objects (Put c owed) = put_size objects c owed
kept_size objects (Pay d) = 0

abbrev pub transaction_size : Schema → Open → ℕ
transaction_size objects t = sum (map (note_size objects) t.notes) + sum (map (kept_size objects) t.kept)

abbrev pub most_of_transaction : ℕ
most_of_transaction = 67108864

-- ---- the history

-- an entry or an open serial transaction, without its changes
abbrev pub entry_size : ℕ
entry_size = 256

-- a change that an entry keeps
abbrev pub kept_change_size : Schema → RowChange → ℕ
kept_change_size objects c = 32 + change_size objects c

-- a definition that an entry keeps, by its text
abbrev pub text_size : List ℕ → ℕ
text_size text = 32 + length text

abbrev pub definition_size : StatementTree → ℕ
definition_size statement = text_size (statement_text statement)

-- the rows that an entry set. The size of a definition is not told by what it defined, so that definitions are counted apart.
abbrev pub set_size : Schema → Kept → ℕ
set_size objects (sets c) = kept_change_size objects c
set_size objects (defines o) = 0

abbrev pub size_of_entry : Schema → Entry → ℕ
size_of_entry objects e = entry_size + sum (map (set_size objects) e.kept)

abbrev pub open_size : Schema → Option Open → ℕ
open_size objects None = 0
open_size objects (Some t) = elim t.mode [
  | Serial ↦ entry_size + sum (map (kept_change_size objects) (changes_of t.kept))
  | Snapshot ↦ 0
]

-- over the sessions 1 to n
abbrev pub sum_over : ℕ → (ℕ → ℕ) → ℕ
sum_over ℕ.zero f = 0
sum_over (ℕ.suc n) f = sum_over n f + f (ℕ.suc n)

abbrev pub open_sizes : Schema → (ℕ → Option Open) → ℕ → ℕ
open_sizes objects open_of n = sum_over n (λ session. open_size objects (open_of session))

-- of the sessions 1 to 64, and of definitions with so many bytes
abbrev pub history_size : Schema → List Entry → ℕ → (ℕ → Option Open) → ℕ
history_size objects history definitions open_of =
    sum (map (size_of_entry objects) history) + definitions + open_sizes objects open_of 64

-- the bytes of definitions with these texts
abbrev pub definition_sizes : List (List ℕ) → ℕ
definition_sizes texts = sum (map text_size texts)

abbrev pub most_of_history : ℕ
most_of_history = 268435456

-- ---- refusals

-- the bytes that a step needs as a refusal tells them: a number of 64 bits, which stands still at its end
abbrev pub told_need : ℕ → ℕ
told_need bytes = min bytes (2 ^ 64 - 1)
