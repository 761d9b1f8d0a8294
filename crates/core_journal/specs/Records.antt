-- No clause of `run` rests on this module: it serves contracts between crates.
--
-- The records that a journal has, and those that a step gives to it.
use Rattle.std.specs.Prelude.{ℕ, ◌+◌, List, [], ◌∷◌, ◌++◌, Option, Some, None}
use Rattle.iv_types.specs.Definitions.{Definitions}
use Rattle.iv_types.specs.Maps.{Map}
use Rattle.iv_types.specs.declared.refusal.EngineRefusal.TheVariants.{DiskFault}
use Rattle.iv_types.specs.Printing.{statement_text}
use Rattle.iv_meaning.specs.Schema.{Schema}
use Rattle.txn_machine.specs.Acts as act
use Rattle.txn_machine.specs.Acts.{Act}
use Rattle.txn_machine.specs.Answers as answer
use Rattle.txn_machine.specs.Answers.{Answer, Refused}
use Rattle.txn_machine.specs.Ghosts.{the_views}
use Rattle.txn_machine.specs.Log.{Log, logs, record_of, block_bytes, carried}
use Rattle.txn_machine.specs.Records.{Record, Definition, record_bytes}
use Rattle.txn_machine.specs.State.{State}
use Rattle.txn_machine.specs.Store.{Store, Effect, Commits, Defines, committed, schema_of, does}
use Rattle.txn_log.specs.Appended.{Numbered}
use Rattle.log_records.specs.Area.{Entry}
use Rattle.log_disk.specs.Spelled.{spelled}

-- what a checkpoint saved
pub record Saved : Type 0 where
  -- the entries of the maps, by their indexes, and the definitions beside them
  pub maps : ℕ → Map
  pub definitions : Definitions
  -- the greatest commit number, and the number of the next record
  pub commits : ℕ
  pub next : ℕ
  -- the records that it carried; the latest stands first
  pub carried : List Entry

pub record Records : Type 0 where
  -- what the last checkpoint saved
  pub saved : Saved
  -- those that were flushed, and those that wait; the latest stands first
  pub flushed : List Entry
  pub waiting : List Entry
  -- the bytes that they take of an area, with those that begin and end blocks
  pub used : ℕ
  -- how many checkpoints were saved before them
  pub saves : ℕ
  -- the limit of the maps that checkpoints save
  pub image_limit : Option ℕ

-- none, as a journal begins behind a checkpoint
abbrev pub begun : Option ℕ → Saved → ℕ → Records
begun image_limit saved used = record { saved = saved; flushed = []; waiting = []; used = used; saves = 0; image_limit = image_limit }

abbrev pub with_one : Schema → Numbered → Records → Records
with_one objects r rs = record rs { waiting = spelled objects r ∷ rs.waiting; used = rs.used + record_bytes objects r.of }

abbrev pub with_perhaps : Schema → ℕ → Option Record → Records → Records
with_perhaps objects number None rs = rs
with_perhaps objects number (Some r) rs = with_one objects (record { number = number; of = r }) rs

-- what waits is on the disk, in a block
abbrev pub flushed_all : Records → Records
flushed_all rs = record rs { flushed = rs.waiting ++ rs.flushed; waiting = []; used = rs.used + block_bytes }

abbrev pub with_saved : Saved → Records → Records
with_saved saved rs = record rs { saved = saved }

-- none: a checkpoint has taken over what they say
abbrev pub taken_over : Records → ℕ → Records
taken_over rs used = record rs { flushed = []; waiting = []; used = used; saves = rs.saves + 1 }

-- that saved this
abbrev pub restarted : Records → Saved → ℕ → Records
restarted rs saved used = with_saved saved (taken_over rs used)

-- a commit and a definition are flushed
abbrev pub flushed_after : Effect → Records → Records
flushed_after Commits rs = flushed_all rs
flushed_after (Defines object) rs = flushed_all rs
flushed_after _ rs = rs

-- an effect of a session's act gives the record that the log has of it
abbrev pub recorded : Store → ℕ → Act → Effect → Log → Records → Records
recorded s session a e l rs = flushed_after e (with_perhaps (schema_of s) l.next (record_of s session a l e) rs)

-- effects one after another
abbrev pub recorded_all : Store → ℕ → Act → List Effect → Log → Records → Records
recorded_all s session a [] l rs = rs
recorded_all s session a (e ∷ es) l rs = recorded_all (does the_views s session e) session a es (logs s session a e l) (recorded s session a e l rs)

-- A step that is answered so gives the records of its effects. Where the disk fails to flush a commit or a definition, its record waits;
-- a checkpoint takes over what all records say, and what it saves stands beside.
abbrev pub records_after : State → ℕ → Act → Answer → List Effect → Records → Records
records_after s session act.Commit (Refused DiskFault) es rs = with_perhaps (schema_of s.store) s.log.next (record_of s.store session act.Commit s.log Commits) rs
records_after s session (act.Schema statement) (Refused DiskFault) es rs =
    with_one (schema_of s.store) (record { number = s.log.next; of = Definition ((committed s.store).number + 1) session (statement_text statement) }) rs
records_after s session act.Checkpoint (answer.Saved number) es rs = taken_over rs (block_bytes + 1 + carried s.store)
records_after s session a said es rs = recorded_all s.store session a es s.log rs

-- It gives these, or after a checkpoint these with what that saved.
abbrev pub GivesTo : (Records → Type 0) → (Saved → Type 0) → Act → Answer → Records → Type 0
GivesTo Has Saves act.Checkpoint (answer.Saved number) rs = (saved : Saved) × Saves saved × Has (with_saved saved rs)
GivesTo Has Saves a said rs = Has rs
