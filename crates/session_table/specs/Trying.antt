-- No clause of `run` rests on this module: it serves contracts between crates.
--
-- What is done with one session that waits, and with all of them.
use Rattle.std.specs.Prelude.{◌≡◌, ◌≢◌, ◌≤◌, ◌<◌, Some, slice_get, ℕ, suc, ◌+◌, ◌-◌, Bool, false, List, ◌++◌, length}
use Rattle.txn_machine.specs.Alone.{Story}
use Rattle.script_law.specs.RunLines.{Outcome, seat_run, printed_later, RunsOn, Pass, Passes}
use Rattle.script_law.specs.Machine.{DoesOf}
use Rattle.txn_sessions.specs.Sessions.{todo_of}
use Rattle.session_table.specs.declared.slot.LineKind.{LineKind}
use Rattle.session_table.specs.declared.slot.LineKind.TheVariants.{Waiting}
use Rattle.session_table.specs.declared.slot.Slot.{Slot}
use Rattle.session_asks.specs.Askable.{the_programs}
use Rattle.session_table.specs.Going.{the_tell, MayGo, IsMoved}
use Rattle.session_table.specs.Slots.{seat_by, table_of, numbers, AllGo, weight, waits_in}

-- one that waits has gone on, and any other stays
abbrev pub TriedBy : LineKind → Story → Slot → List ℕ → Bool → Slot → List ℕ → Story → Type 0
TriedBy Waiting s slot out moved slot' out' after =
    (count : ℕ) × (o : Outcome) × IsMoved moved count × RunsOn DoesOf the_programs the_tell slot.session.number (todo_of slot.session) s count o after
    × (seat_by slot' ≡ seat_run o) × (out' ≡ out ++ printed_later slot.session.number o) × (count + weight slot'.line + s.state.steps ≤ after.state.steps + 1)
TriedBy _ s slot out moved slot' out' after = (moved ≡ false) × (slot' ≡ slot) × (after ≡ s) × (out' ≡ out)

pub record Tried (s : Story) (slot : Slot) (out : List ℕ) (moved : Bool) (slot' : Slot) (out' : List ℕ) (after : Story) : Type 0 where
  pub tried : TriedBy slot.line s slot out moved slot' out' after
  pub go : MayGo slot'.session after

-- of so many sessions from a place on none waits
abbrev pub NoneWaits : ℕ → ℕ → List Slot → Type 0
NoneWaits place count slots = (i : ℕ) (slot : Slot) → place ≤ i → i < place + count → slice_get slots i ≡ Some slot → slot.line ≢ Waiting

-- a pass over the sessions from a place on
pub record Passed (place : ℕ) (s : Story) (slots : List Slot) (out : List ℕ) (moved : Bool) (slots' : List Slot) (out' : List ℕ) (after : Story) : Type 0 where
  pub count : ℕ
  pub piece : List ℕ
  pub moved_is : IsMoved moved count
  pub told : out' ≡ out ++ piece
  pub pass : Pass DoesOf the_programs the_tell (numbers (suc place) (length slots - place)) count (table_of slots) s piece (table_of slots') after
  -- each step was counted, or a session that waited has ended by it
  pub counts : count + waits_in slots' + s.state.steps ≤ after.state.steps + waits_in slots
  pub go : AllGo slots' after

-- passes until one moves none
pub record Retried (s : Story) (slots : List Slot) (out : List ℕ) (slots' : List Slot) (out' : List ℕ) (after : Story) : Type 0 where
  pub count : ℕ
  pub piece : List ℕ
  pub told : out' ≡ out ++ piece
  pub passes : Passes DoesOf the_programs the_tell (numbers 1 (length slots)) count (table_of slots) s piece (table_of slots') after
  pub go : AllGo slots' after
