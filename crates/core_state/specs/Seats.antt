-- No clause of `run` rests on this module: it serves contracts between crates.
--
-- What sessions and the cleaner were told, as the machine has it.
use Rattle.std.specs.Prelude.{ℕ, ◌+◌, List, slice_index_or, Option, None, Some, Bool, true, false, if◌then◌else◌}
use Rattle.std.specs.Option.{option_map}
use Rattle.iv_types.specs.declared.refusal.EngineRefusal.{EngineRefusal}
use Rattle.iv_types.specs.declared.refusal.EngineRefusal.TheVariants as refused
use Rattle.txn_machine.specs.State as machine
use Rattle.txn_book.specs.Acts.{last_refusal}
use Rattle.txn_book.specs.declared.step.Answer.{Answer}
use Rattle.txn_book.specs.declared.step.Answer.TheVariants as answer
use Rattle.core_state.specs.declared.seat.Seat.{Seat}
use Rattle.core_state.specs.declared.seat.Cleaner.{Cleaner}

abbrev pub machine_seat : Seat → machine.Seat
machine_seat seat = record { steps = seat.steps; last = seat.last; refused = option_map last_refusal seat.refused; told_of_stop = seat.told_of_stop }

abbrev pub machine_cleaner : Cleaner → machine.Cleaner
machine_cleaner cleaner = record { pruned = cleaner.pruned; found_none = cleaner.found_none; removed = cleaner.removed; saved = cleaner.saved }

-- one that has done nothing
abbrev pub new_seat : Seat
new_seat = record { steps = 0; last = 0; refused = None; told_of_stop = false }

-- session k's at place k
abbrev pub seat_at : List Seat → ℕ → Seat
seat_at seats session = slice_index_or seats session new_seat

-- the refusal that an answer is
abbrev pub refusal_in : Answer → Option EngineRefusal
refusal_in (answer.Refused why) = Some why
refusal_in _ = None

-- whether a refusal tells of the stop
abbrev pub tells : Option EngineRefusal → Bool
tells (Some refused.DiskFault) = true
tells _ = false

-- a seat after a step of this number that was refused so, if it was
abbrev pub told : Seat → ℕ → Option EngineRefusal → Seat
told seat number why = record {
  steps = seat.steps + 1;
  last = number;
  refused = elim why [ None ↦ seat.refused | Some refusal ↦ Some (record { step = number; refusal = refusal }) ];
  told_of_stop = if tells why then true else seat.told_of_stop;
}

-- what the cleaner did, after a step of this number with so many entries in the history
abbrev pub cleaned : Cleaner → ℕ → ℕ → Answer → Cleaner
cleaned cleaner number entries answer.Pruned = record cleaner { pruned = number }
cleaned cleaner number entries (answer.Cleaned ℕ.zero) = record cleaner { found_none = number }
cleaned cleaner number entries (answer.Cleaned (ℕ.suc n)) = record cleaner { removed = cleaner.removed + ℕ.suc n }
cleaned cleaner number entries (answer.Saved greatest) = record cleaner { saved = entries }
cleaned cleaner number entries _ = cleaner
