-- No clause of `run` rests on this module: it serves contracts between crates.
--
-- The part of a session: plain data that no step of another session changes.
use Rattle.std.specs.Prelude.{◌≡◌, ◌≢◌, ℕ, ◌==◌, Bool, true, false, List, map, filter, Option, Some, None, if◌then◌else◌}
use Rattle.std.specs.Option.{option_map}
use Rattle.iv_types.specs.declared.lock.LockMode.TheVariants.{Share, Exclusive, Increment}
use Rattle.iv_types.specs.declared.lock.Want.{Want}
use Rattle.iv_meaning.specs.Schema.{Schema}
use Rattle.iv_meaning.specs.Database.{Row, Database}
use Rattle.iv_meaning.specs.View.{read}
use Rattle.txn_machine.specs.Keeping.{Open}
use Rattle.txn_machine.specs.Store.{committed, schema_of, now}
use Rattle.txn_machine.specs.Log.{Opening}
use Rattle.txn_machine.specs.State.{State, Seat, Cleaner, Stop}
use Rattle.txn_machine.specs.Steps.{Did, Step}
use Rattle.txn_machine.specs.Laws.{IsReached}

pub record Part : Type 0 where
  -- the database as it was opened, and the opening
  pub origin : Database
  pub opening : Opening
  pub transaction : Option Open
  -- the definitions, while its transaction is open
  pub objects : Option Schema
  -- what is committed in each interval that it locked in Share or Exclusive
  pub readings : List (List Row)
  pub waiting : List Want
  -- how many steps it did, the last of them, and its last refusal
  pub seat : Seat
  -- where it was told of the stop, the step that stopped the engine
  pub stop : Option Stop
  -- number 0's: what the cleaner did
  pub cleaner : Option Cleaner

-- a lock by which rows may be read
abbrev pub is_read : Want → Bool
is_read w = elim w.mode [ Share ↦ true | Exclusive ↦ true | Increment ↦ false ]

-- what is committed in the locked interval
abbrev pub reading_of : Database → Want → List Row
reading_of db w = read db w.index w.interval

abbrev pub part_of : State → ℕ → Part
part_of s session = record {
  origin = s.store.origin;
  opening = s.opening;
  transaction = s.store.open_of session;
  objects = option_map (λ t. schema_of s.store) (s.store.open_of session);
  readings = map (reading_of (committed s.store)) (filter is_read (now s.store session).locks);
  waiting = s.waiting session;
  seat = s.seat_of session;
  stop = if (s.seat_of session).told_of_stop then s.stop else None;
  cleaner = if session == 0 then Some s.cleaner else None;
}

-- a step leaves every other number's part
abbrev pub SeatLaw : Type 0
SeatLaw = (s : State) → IsReached s → (d : Did) (after : State) → Step s d.session d.act d.said after → (other : ℕ) → other ≢ d.session → part_of after other ≡ part_of s other
