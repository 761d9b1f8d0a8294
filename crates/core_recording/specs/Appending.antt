-- No clause of `run` rests on this module: it serves contracts between crates.
--
-- When a record can be given to a journal, and the record of a kept step.
use Rattle.std.specs.Prelude.{◌≡◌, ℕ, ◌+◌, ◌≤◌, ◌^◌, List, ◌∷◌, Option}
use Rattle.iv_meaning.specs.Schema.{Schema}
use Rattle.txn_machine.specs.Keeping.{KeptStep, Put, Pay}
use Rattle.txn_machine.specs.Log.{Log, Within}
use Rattle.txn_machine.specs.Records.{Record, Write, Delta, Undo, record_bytes}
use Rattle.log_records.specs.declared.record.Record as bytes
use Rattle.log_records.specs.Spelling.{IsShort}
use Rattle.log_disk.specs.Spelled.{in_bytes}
use Rattle.core_journal.specs.Records.{Records}

-- its bytes hold it, its number is one, and an area of this size has room for it
pub record CanAppend (most : Option ℕ) (objects : Schema) (number : ℕ) (r : Record) (rs : Records) : Type 0 where
  pub short : IsShort (in_bytes objects r)
  pub numbered : number ≤ 2 ^ 63
  pub room : Within most (rs.used + record_bytes objects r)

-- of a change its Write, of a pay its Delta
abbrev pub kept_record : ℕ → KeptStep → Record
kept_record transaction (Put c owed) = Write transaction c
kept_record transaction (Pay d) = Delta transaction d

-- in bytes the record of taking back the step that a session's transaction kept last
abbrev pub IsUndoOfLatest : Log → ℕ → bytes.Record → Type 0
IsUndoOfLatest l session lent =
    (number : ℕ) × (numbers : List ℕ) × ((l.logged session).kept ≡ number ∷ numbers) × ((objects : Schema) → lent ≡ in_bytes objects (Undo (l.logged session).transaction number))
