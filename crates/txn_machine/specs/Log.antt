-- No clause of `run` rests on this module: it serves contracts between crates.
--
-- What an engine knows of its log, and what it has room for: the limits of an opening, what each effect of a step appends, and the
-- bytes that are used and reserved.
use Rattle.std.specs.Prelude.{ℕ, ◌+◌, ◌*◌, ◌-◌, ◌/◌, ◌<◌, ◌≤◌, Bool, true, false, List, [], ◌∷◌, map, length, drop, Option, Some, None, if◌then◌else◌}
use Rattle.std.specs.List.{sum}
use Rattle.std.specs.Option.{option_map_or}
use Rattle.std.specs.FinMap.{empty, entries}
use Rattle.iv_types.specs.declared.statement.Mode.{Mode}
use Rattle.iv_types.specs.declared.statement.Mode.TheVariants.{Serial, Snapshot}
use Rattle.iv_types.specs.declared.lock.GroupDelta.{GroupDelta}
use Rattle.iv_types.specs.declared.catalog.TableDef.{TableDef}
use Rattle.iv_types.specs.Syntax.{StatementTree}
use Rattle.iv_types.specs.Printing.{statement_text}
use Rattle.table_laws.specs.Place.{Place}
use Rattle.iv_meaning.specs.Schema.{Schema, Object, table, index, view, numbered, kinds_of_table, indexes_of}
use Rattle.iv_meaning.specs.Database.{Row, Rows, rows_of}
use Rattle.iv_meaning.specs.View.{index_key}
use Rattle.txn_machine.specs.Acts as act
use Rattle.txn_machine.specs.Acts.{Act}
use Rattle.txn_machine.specs.Locks.{with_one}
use Rattle.txn_machine.specs.Deltas.{RowChange, place_of, columns_of}
use Rattle.txn_machine.specs.Keeping.{KeptStep, Put, Pay, Open}
use Rattle.txn_machine.specs.Stored.{ViewRows, add_all}
use Rattle.txn_machine.specs.Fresh.{made_of}
use Rattle.txn_machine.specs.Store.{Store, committed, schema_of, now, change_at, Effect, Opens, Writes, Pays, Ghosts, Undoes, Ends, Commits, Defines, Cleans, does}
use Rattle.txn_machine.specs.Counts.{row_size, sum_over}
use Rattle.txn_machine.specs.Ghosts.{the_views}
use Rattle.txn_machine.specs.Records.{Record, Write, Delta, Ghost, Clean, Undo, Commit, Abort, Definition, record_bytes, write_bytes, delta_bytes, group_bytes, undo_bytes, definition_bytes, step_bytes}

-- ---- an opening

-- what does not change while an engine is open
pub record Opening : Type 0 where
  -- the bytes of a log area, and the most bytes that data may take, where there is such a limit
  pub log_limit : Option ℕ
  pub data_limit : Option ℕ
  -- the texts of the definitions that were there, in order
  pub definitions : List (List ℕ)
  -- the number of the first record
  pub next : ℕ
  -- the disk's count of faults, and its moment, a number that does not fall
  pub faults : ℕ
  pub moment : ℕ

-- without limits, on a database that defines nothing
abbrev pub unlimited : Opening
unlimited = record { log_limit = None; data_limit = None; definitions = []; next = 1; faults = 0; moment = 0 }

abbrev pub Within : Option ℕ → ℕ → Type 0
Within None bytes = Unit {0}
Within (Some most) bytes = bytes ≤ most

abbrev pub Above : Option ℕ → ℕ → Type 0
Above None bytes = ⊥
Above (Some most) bytes = most < bytes

-- ---- the log

-- what the log knows of a session's transaction
pub record Logged : Type 0 where
  -- its number, which is 0 where it has none
  pub transaction : ℕ
  -- the number of the record of each kept step, the latest first
  pub kept : List ℕ
  -- it appended a record since its Begin
  pub wrote : Bool
  -- the first owed delta that is not coming back had its Ghost
  pub ghosted : Bool

abbrev pub not_logged : Logged
not_logged = record { transaction = 0; kept = []; wrote = false; ghosted = false }

pub record Log : Type 0 where
  pub logged : ℕ → Logged
  -- how many serial transactions began in this opening
  pub begun : ℕ
  -- the number of the next record
  pub next : ℕ
  -- up to the next block's gate and with it, and of the records that wait
  pub used : ℕ

-- a block's gate and its length, before its records
abbrev pub block_bytes : ℕ
block_bytes = 5

-- an empty block, and the gate of the next
abbrev pub opened_log : ℕ → Log
opened_log next = record { logged = λ session. not_logged; begun = 0; next = next; used = block_bytes + 1 }

-- ---- records

-- a record is appended
abbrev pub appended : Schema → Option Record → Log → Log
appended objects None l = l
appended objects (Some r) l = record l { next = l.next + 1; used = l.used + record_bytes objects r }

abbrev pub text_of : Act → List ℕ
text_of (act.Schema statement) = statement_text statement
text_of _ = []

abbrev pub pay_record : Logged → List GroupDelta → Option Record
pay_record t [] = None
pay_record t (d ∷ ds) = Some (Delta t.transaction d)

abbrev pub undo_record : Logged → List ℕ → Option Record
undo_record t [] = None
undo_record t (number ∷ numbers) = Some (Undo t.transaction number)

-- what an effect of a session's act on this store appends
abbrev pub record_of : Store → ℕ → Act → Log → Effect → Option Record
record_of s session a l (Writes place new) = Some (Write (l.logged session).transaction (change_at s place new))
record_of s session a l Pays = pay_record (l.logged session) (now s session).owed
record_of s session a l (Ghosts place columns) = Some (Ghost place)
record_of s session a l Undoes = undo_record (l.logged session) (l.logged session).kept
-- an Abort is due exactly where the transaction has appended a record
record_of s session a l Ends = if (l.logged session).wrote then Some (Abort (l.logged session).transaction) else None
record_of s session a l Commits = Some (Commit (l.logged session).transaction ((committed s).number + 1) session)
record_of s session a l (Defines object) = Some (Definition ((committed s).number + 1) session (text_of a))
record_of s session a l (Cleans place) = Some (Clean place)
record_of s session a l _ = None

abbrev pub begins : Mode → Log → Logged
begins Serial l = record not_logged { transaction = l.begun + 1 }
begins Snapshot l = not_logged

abbrev pub keeps : Logged → ℕ → Logged
keeps t number = record t { kept = number ∷ t.kept; wrote = true; ghosted = false }

abbrev pub rest : List ℕ → List ℕ
rest [] = []
rest (number ∷ numbers) = numbers

abbrev pub undoes : Logged → List KeptStep → Logged
undoes t [] = t
undoes t (Put c owed ∷ ks) = record t { kept = rest t.kept; ghosted = false }
undoes t (Pay d ∷ ks) = record t { kept = rest t.kept }

-- what the log then knows of the transaction
abbrev pub logged_after : Store → ℕ → Log → Effect → Logged
logged_after s session l (Opens mode) = begins mode l
logged_after s session l (Writes place new) = keeps (l.logged session) l.next
logged_after s session l Pays = keeps (l.logged session) l.next
logged_after s session l Undoes = undoes (l.logged session) (now s session).kept
logged_after s session l Ends = not_logged
logged_after s session l Commits = not_logged
logged_after s session l _ = l.logged session

abbrev pub begun_after : Effect → ℕ → ℕ
begun_after (Opens Serial) begun = begun + 1
begun_after _ begun = begun

-- a commit and a definition are flushed, which ends a block
abbrev pub flushed_after : Effect → Log → Log
flushed_after Commits l = record l { used = l.used + block_bytes }
flushed_after (Defines object) l = record l { used = l.used + block_bytes }
flushed_after _ l = l

abbrev pub with_logged : Log → ℕ → Logged → Log
with_logged l session t = record l { logged = with_one l.logged session t }

abbrev pub logs : Store → ℕ → Act → Effect → Log → Log
logs s session a e l =
    flushed_after e (record (appended (schema_of s) (record_of s session a l e) (with_logged l session (logged_after s session l e))) { begun = begun_after e l.begun })

-- effects one after another
abbrev pub log_all : Store → ℕ → Act → List Effect → Log → Log
log_all s session a [] l = l
log_all s session a (e ∷ es) l = log_all (does the_views s session e) session a es (logs s session a e l)

-- ---- bytes of the log

-- what a transaction owes, without what is coming back
abbrev pub still_owed : Open → List GroupDelta
still_owed t = drop t.back t.owed

-- those that may still need a ghost: the first one does not, where it had its Ghost
abbrev pub unghosted : Bool → List GroupDelta → List GroupDelta
unghosted true [] = []
unghosted true (d ∷ ds) = ds
unghosted false ds = ds

-- a serial transaction's Commit, with the end of its block, or its Abort
abbrev pub end_bytes : ℕ
end_bytes = 40

-- a delta's record, and that of its undo
abbrev pub pay_bytes : GroupDelta → ℕ
pay_bytes d = delta_bytes d + undo_bytes

abbrev pub ghost_bytes : GroupDelta → ℕ
ghost_bytes d = group_bytes (place_of d)

-- what owed deltas reserve
abbrev pub owed_bytes : Bool → List GroupDelta → ℕ
owed_bytes ghosted owed = sum (map pay_bytes owed) + sum (map ghost_bytes (unghosted ghosted owed))

abbrev pub reserved_by : Option Open → Bool → ℕ
reserved_by None ghosted = 0
reserved_by (Some t) ghosted = elim t.mode [
  | Serial ↦ end_bytes + undo_bytes * length t.kept + owed_bytes ghosted (still_owed t)
  | Snapshot ↦ 0
]

abbrev pub reserved : Store → Log → ℕ
reserved s l = sum_over 64 (λ session. reserved_by (s.open_of session) (l.logged session).ghosted)

-- what a checkpoint carries: the records of kept steps of open transactions
abbrev pub carried : Store → ℕ
carried s = sum_over 64 (λ session. sum (map (step_bytes (schema_of s)) (now s session).kept))

-- what a change needs: its record, that of its undo, and what its deltas reserve
abbrev pub write_need : Schema → RowChange → List GroupDelta → ℕ
write_need objects c owed = write_bytes objects c + undo_bytes + owed_bytes false owed

abbrev pub definition_need : StatementTree → ℕ
definition_need statement = definition_bytes (statement_text statement) + block_bytes

-- ---- bytes of data

-- an entry: its key, its value and eight
abbrev pub entry_bytes : ℕ → ℕ → ℕ
entry_bytes key value = key + value + 8

abbrev secondary_bytes : Schema → Place → Row → TableDef → ℕ
secondary_bytes objects place row t = sum (map (λ i. entry_bytes (length (index_key t i row)) 0) (indexes_of objects place.0))

-- the entries of a row in all indexes of its table
abbrev pub row_entries : Schema → Place → Row → ℕ
row_entries objects place row =
    entry_bytes (length place.1) (row_size (kinds_of_table (numbered objects place.0)) row)
    + elim (numbered objects place.0) [
      | Some (table t) ↦ secondary_bytes objects place row t
      | _ ↦ 0
    ]

abbrev pub perhaps_entries : Schema → Place → Option Row → ℕ
perhaps_entries objects place row = option_map_or (row_entries objects place) row 0

-- by how much a change enlarges the entries, and by how much it does to take it back
abbrev pub growth : Schema → RowChange → ℕ
growth objects c = perhaps_entries objects c.key c.after - perhaps_entries objects c.key c.before

abbrev pub growth_back : Schema → RowChange → ℕ
growth_back objects c = perhaps_entries objects c.key c.before - perhaps_entries objects c.key c.after

-- of a view row with so many columns
abbrev pub view_entry : Place → ℕ → ℕ
view_entry place columns = entry_bytes (length place.1) (16 * columns)

abbrev pub delta_entry : GroupDelta → ℕ
delta_entry d = view_entry (place_of d) (length (columns_of d))

abbrev pub view_entries : ViewRows → ℕ
view_entries stored = sum (map (λ e. view_entry e.0 (length e.1)) (entries stored))

-- a definition's text stands in parts of so many bytes, each under the object's number and its own
abbrev pub part_bytes : ℕ
part_bytes = 1024

abbrev pub definition_entries : List ℕ → ℕ
definition_entries text = length text + entry_bytes 6 0 * ((length text + (part_bytes - 1)) / part_bytes)

-- what an opened or committed definition makes besides its text: an index has an entry for each row of its table, and a view its rows
abbrev pub made_entries : Schema → Rows → Object → ℕ
made_entries objects rows (table t) = 0
made_entries objects rows (index i) = elim (numbered objects i.table) [
  | Some (table t) ↦ sum (map (λ row. entry_bytes (length (index_key t i row)) 0) (rows_of rows i.table))
  | _ ↦ 0
]
made_entries objects rows (view v) = view_entries (add_all empty (made_of objects rows (view v)))

-- what taking back kept changes would enlarge
abbrev kept_growth : Schema → List KeptStep → ℕ
kept_growth objects [] = 0
kept_growth objects (Put c owed ∷ ks) = growth_back objects c + kept_growth objects ks
kept_growth objects (Pay d ∷ ks) = kept_growth objects ks

abbrev pub room_kept : Schema → Option Open → Bool → ℕ
room_kept objects None ghosted = 0
room_kept objects (Some t) ghosted = kept_growth objects t.kept + sum (map delta_entry (unghosted ghosted (still_owed t)))

-- all entries, and the room that open transactions keep
abbrev pub data_bytes : Store → Log → List (List ℕ) → ℕ
data_bytes s l texts =
    sum (map (λ e. row_entries (schema_of s) e.0 e.1) (entries s.rows)) + view_entries s.view + sum (map definition_entries texts)
    + sum_over 64 (λ session. room_kept (schema_of s) (s.open_of session) (l.logged session).ghosted)

abbrev pub change_need : Schema → RowChange → List GroupDelta → ℕ
change_need objects c owed = growth objects c + sum (map delta_entry owed)

abbrev pub object_need : Schema → Rows → StatementTree → Object → ℕ
object_need objects rows statement o = definition_entries (statement_text statement) + made_entries objects rows o
