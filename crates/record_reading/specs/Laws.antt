-- No clause of `run` rests on this module: it serves contracts between crates.
--
-- How a change stands in the log.
use Rattle.std.specs.Prelude.{◌≡◌, ◌↔◌, ℕ, List, Option}
use Rattle.table_laws.specs.Place.{Place}
use Rattle.iv_meaning.specs.Schema.{Schema}
use Rattle.txn_machine.specs.Deltas.{RowChange}
use Rattle.txn_machine.specs.Records as machine
use Rattle.log_records.specs.declared.record.Record.TheVariants.{Write}
use Rattle.log_disk.specs.Spelled.{in_bytes}
use Rattle.record_reading.specs.Changes.{HasBytes}

-- a Write of rows in bytes is the record of just those changes that have these bytes, beside the same definitions
abbrev pub WriteLaw : Type 0
WriteLaw = (objects : Schema) (transaction : ℕ) (place : Place) (before after : Option (List ℕ)) (c : RowChange)
    → HasBytes objects place before after c ↔ (Write transaction place.0 place.1 before after ≡ in_bytes objects (machine.Write transaction c))
