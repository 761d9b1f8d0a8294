-- No clause of `run` rests on this module: it serves contracts between crates.
--
-- The state of an engine between two steps: what it stores, what sessions wait for, and what steps were done.
use Rattle.std.specs.Prelude.{ℕ, ◌+◌, ◌^◌, ◌==◌, Bool, true, false, List, [], length, Option, Some, None, if◌then◌else◌}
use Rattle.iv_types.specs.declared.lock.Want.{Want}
use Rattle.iv_types.specs.declared.refusal.EngineRefusal.{EngineRefusal}
use Rattle.iv_types.specs.declared.refusal.EngineRefusal.TheVariants as refusal
use Rattle.txn_machine.specs.Locks.{Locks, with_one}
use Rattle.txn_machine.specs.Acts.{Act}
use Rattle.txn_machine.specs.Answers as answer
use Rattle.txn_machine.specs.Answers.{Answer}
use Rattle.txn_machine.specs.Store.{Store}
use Rattle.txn_machine.specs.Log.{Opening, Log, opened_log}

pub record LastRefusal : Type 0 where
  pub step : ℕ
  pub refusal : EngineRefusal

-- what a session was told so far
pub record Seat : Type 0 where
  -- how many steps it did
  pub steps : ℕ
  -- the number of the last of them
  pub last : ℕ
  pub refused : Option LastRefusal
  -- it was told that the engine is stopped
  pub told_of_stop : Bool

-- what the cleaner did, which is session 0
pub record Cleaner : Type 0 where
  -- the number of its last Prune
  pub pruned : ℕ
  -- of its last Clean that found nothing to clean
  pub found_none : ℕ
  -- how many ghosts it removed
  pub removed : ℕ
  -- how many entries the history had at its last Checkpoint
  pub saved : ℕ

pub record Stop : Type 0 where
  pub step : ℕ
  pub act : Act

pub record State : Type 0 where
  pub store : Store
  -- what each session waits for
  pub waiting : Locks
  -- how many steps were done
  pub steps : ℕ
  pub seat_of : ℕ → Seat
  pub cleaner : Cleaner
  -- the texts of the definitions in the history, in order
  pub definitions : List (List ℕ)
  pub log : Log
  pub opening : Opening
  -- the step that stopped the engine
  pub stop : Option Stop

abbrev pub new_seat : Seat
new_seat = record { steps = 0; last = 0; refused = None; told_of_stop = false }

abbrev pub opened_state : Opening → Store → State
opened_state opening store = record {
  store = store;
  waiting = λ session. [];
  steps = 0;
  seat_of = λ session. new_seat;
  cleaner = record { pruned = 0; found_none = 0; removed = 0; saved = 0 };
  definitions = [];
  log = opened_log opening.next;
  opening = opening;
  stop = None;
}

-- so many steps stop an engine
abbrev pub most_steps : ℕ
most_steps = 2 ^ 62

-- ---- a step is counted

abbrev pub refusal_after : Option LastRefusal → ℕ → Answer → Option LastRefusal
refusal_after former number (answer.Refused why) = Some (record { step = number; refusal = why })
refusal_after former number _ = former

-- the disk failed
abbrev pub is_fault : Answer → Bool
is_fault (answer.Refused refusal.DiskFault) = true
is_fault _ = false

-- a session whose step failed at the disk is told by that of the stop
abbrev pub seat_after : Seat → ℕ → Answer → Seat
seat_after seat number a = record {
  steps = seat.steps + 1;
  last = number;
  refused = refusal_after seat.refused number a;
  told_of_stop = if is_fault a then true else seat.told_of_stop;
}

-- after a step of this number, with so many entries in the history
abbrev pub cleaner_after : Cleaner → ℕ → ℕ → Answer → Cleaner
cleaner_after cleaner number entries answer.Pruned = record cleaner { pruned = number }
cleaner_after cleaner number entries (answer.Cleaned ℕ.zero) = record cleaner { found_none = number }
cleaner_after cleaner number entries (answer.Cleaned (ℕ.suc n)) = record cleaner { removed = cleaner.removed + ℕ.suc n }
cleaner_after cleaner number entries (answer.Saved greatest) = record cleaner { saved = entries }
cleaner_after cleaner number entries _ = cleaner

abbrev pub stop_after : Option Stop → ℕ → Act → Answer → Option Stop
stop_after former number a said = if is_fault said then Some (record { step = number; act = a }) else if number == most_steps then Some (record { step = number; act = a }) else former

-- The state after a step that left this store, these wants for which its session waits, these texts of definitions, and this log.
-- No other session's part changes.
abbrev pub counted : State → ℕ → Act → Answer → Store → List Want → List (List ℕ) → Log → State
counted s session a said store waits definitions log = record {
  store = store;
  waiting = with_one s.waiting session waits;
  steps = s.steps + 1;
  seat_of = with_one s.seat_of session (seat_after (s.seat_of session) (s.steps + 1) said);
  cleaner = cleaner_after s.cleaner (s.steps + 1) (length s.store.history) said;
  definitions = definitions;
  log = log;
  opening = s.opening;
  stop = stop_after s.stop (s.steps + 1) a said;
}

-- a stopped engine says so, and only keeps that it did
abbrev pub told_of_stop : State → ℕ → State
told_of_stop s session = record s { seat_of = with_one s.seat_of session (record (s.seat_of session) { told_of_stop = true }) }
