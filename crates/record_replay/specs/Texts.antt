-- No clause of `run` rests on this module: it serves contracts between crates.
--
-- What the texts of definitions among records count.
use Rattle.std.specs.Prelude.{ℕ, ◌+◌, List, [], ◌∷◌}
use Rattle.txn_machine.specs.Log.{definition_entries}
use Rattle.log_records.specs.declared.record.Record.{Record}
use Rattle.log_records.specs.declared.record.Record.TheVariants.{Schema}
use Rattle.log_records.specs.declared.record.Scanned.{Scanned}

abbrev pub text_entries : Record → ℕ
text_entries (Schema commit session text) = definition_entries text
text_entries _ = 0

abbrev pub texts_entries : List Scanned → ℕ
texts_entries [] = 0
texts_entries (s ∷ ss) = text_entries s.entry + texts_entries ss
