-- No clause of `run` rests on this module: it serves contracts between crates.
--
-- What a session keeps of the data, and reserves in the log, for the latest step of its transaction.
use Rattle.std.specs.Prelude.{◌≡◌, ℕ, ◌+◌, Bool, List, [], ◌∷◌, map, Option, Some, None}
use Rattle.std.specs.List.{sum}
use Rattle.iv_types.specs.declared.lock.GroupDelta.{GroupDelta}
use Rattle.iv_types.specs.declared.lock.Kept.{Kept}
use Rattle.iv_types.specs.declared.lock.KeptStep.{KeptStep as Step}
use Rattle.iv_types.specs.declared.lock.KeptStep.TheVariants as step
use Rattle.iv_meaning.specs.Schema.{Schema}
use Rattle.txn_machine.specs.Counts.{told_need}
use Rattle.txn_machine.specs.Deltas.{RowChange}
use Rattle.txn_machine.specs.Keeping.{KeptStep, Put, Pay, Open}
use Rattle.txn_machine.specs.Log.{Log, growth_back, delta_entry, owed_bytes, unghosted, still_owed}
use Rattle.txn_machine.specs.Store.{Store, now}
use Rattle.log_room.specs.Rooms.{KeepsLatest}

-- the change of a kept step, unless it is a pay
abbrev pub change_in : Step → Option Kept
change_in (step.Put kept txn_bytes history_bytes number) = Some kept
change_in (step.Pay d before number) = None

-- For a change it keeps by how much taking it back enlarges the entries, and the rows of what the transaction still owes. A pay that is
-- taken back is owed again, and needs nothing.
abbrev pub latest_bytes : Schema → Open → Bool → List KeptStep → ℕ
latest_bytes objects t ghosted [] = 0
latest_bytes objects t ghosted (Pay d ∷ ks) = 0
latest_bytes objects t ghosted (Put c owed ∷ ks) = growth_back objects c + sum (map delta_entry (unghosted ghosted (still_owed t)))

-- A change is the latest step, and so many bytes are reserved for what is still owed, or a pay is.
abbrev pub IsOwedOfLatest : Store → Log → ℕ → Option ℕ → Type 0
IsOwedOfLatest s l session (Some bytes) =
    (c : RowChange) × (deltas : List GroupDelta) × KeepsLatest s l session (Put c deltas) × (bytes ≡ told_need (owed_bytes (l.logged session).ghosted (still_owed (now s session))))
IsOwedOfLatest s l session None = (d : GroupDelta) × KeepsLatest s l session (Pay d)
