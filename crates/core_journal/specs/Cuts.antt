-- No clause of `run` rests on this module: it serves contracts between crates.
--
-- What a crash leaves of what a journal has.
use Rattle.std.specs.Prelude.{List, []}
use Rattle.log_records.specs.Area.{Entry}
use Rattle.txn_machine.specs.Acts as act
use Rattle.txn_machine.specs.Acts.{Act}
use Rattle.core_journal.specs.Records.{Saved, Records, flushed_all}

-- what a checkpoint saved, and the records behind it, the latest first
pub record Cut : Type 0 where
  pub saved : Saved
  pub records : List Entry

-- of these records all but those that wait
abbrev pub cut_of : Records → Cut
cut_of rs = record { saved = rs.saved; records = rs.flushed }

-- Where the disk fails an act, it may have what the act was to write: what a checkpoint saves, or these records with those that wait.
abbrev pub MayHave : (Cut → Type 0) → (Saved → Type 0) → Act → Records → Type 0
MayHave Has Saves act.Checkpoint rs = (saved : Saved) × Saves saved × Has (record { saved = saved; records = [] })
MayHave Has Saves a rs = Has (cut_of (flushed_all rs))
