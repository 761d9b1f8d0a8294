-- No clause of `run` rests on this module: it serves contracts between crates.
--
-- How sessions leave at the end of the input.
use Rattle.std.specs.Prelude.{◌≡◌, ℕ, Bool, true, false, IsTrue, List, length, Some}
use Rattle.iv_types.specs.declared.refusal.EngineRefusal.{EngineRefusal}
use Rattle.txn_machine.specs.Acts as act
use Rattle.txn_machine.specs.Answers as answer
use Rattle.txn_machine.specs.Answers.{Answer}
use Rattle.txn_machine.specs.Alone.{Story}
use Rattle.txn_machine.specs.Laws.{IsReachedStory}
use Rattle.script_law.specs.Seen.{Fails, is_stop, Txn}
use Rattle.script_law.specs.RunLines.{idle, open_at, all_sessions, RollsBack, Leaves, LeaveAll}
use Rattle.script_law.specs.Machine.{DoesOf, seen_of}
use Rattle.session_asks.specs.Askable.{the_programs}
use Rattle.session_table.specs.declared.slot.Slot.{Slot}
use Rattle.session_table.specs.Going.{the_tell}
use Rattle.session_table.specs.Slots.{seat_by, table_of}

-- the session's transaction is open and keeps so many steps
pub record IsOpenAt (session kept : ℕ) (s : Story) : Type 0 where
  pub reached : IsReachedStory s
  pub txn : Txn
  pub is_open : (seen_of s).open_of session ≡ Some txn
  pub keeps : length txn.kept ≡ kept

-- ---- what UndoOne is answered

abbrev pub IsUndone : Answer → Type 0
IsUndone (answer.Undone left) = Unit {0}
IsUndone (answer.Refused why) = Unit {0}
IsUndone _ = ⊥

abbrev pub WasUndone : Bool → Answer → Type 0
WasUndone true said = (left : ℕ) × (said ≡ answer.Undone left)
WasUndone false said = (why : EngineRefusal) × (said ≡ answer.Refused why)

-- one kept step was taken back, or the engine is stopped
abbrev pub TookOne : ℕ → ℕ → Story → Bool → Story → Type 0
TookOne session fewer s true after = (left : ℕ) × DoesOf s session act.UndoOne (answer.Undone left) after × IsOpenAt session fewer after
TookOne session fewer s false after = (why : EngineRefusal) × DoesOf s session act.UndoOne (answer.Refused why) after × IsTrue (is_stop (Fails why)) × IsReachedStory after

pub record RolledBack (session kept : ℕ) (s after : Story) : Type 0 where
  pub rolls : RollsBack DoesOf the_programs the_tell session kept s after
  pub reached : IsReachedStory after

-- its transaction was rolled back, if one was open
pub record EndedOpen (session : ℕ) (s after : Story) : Type 0 where
  pub leaves : Leaves DoesOf the_programs the_tell session idle ((seen_of s).open_of session) s after
  pub reached : IsReachedStory after

-- what it waits for is forgotten, and its transaction is as it was
pub record Cancelled (session : ℕ) (s after : Story) : Type 0 where
  pub said : Answer
  pub does : DoesOf s session act.Cancel said after
  pub same : (seen_of after).open_of session ≡ (seen_of s).open_of session
  pub reached : IsReachedStory after

pub record LeftWaiting (session : ℕ) (s after : Story) : Type 0 where
  pub mid : Story
  pub forgets : Cancelled session s mid
  pub ends : EndedOpen session mid after

pub record LeftBy (slot : Slot) (s after : Story) : Type 0 where
  pub leaves : Leaves DoesOf the_programs the_tell slot.session.number (seat_by slot).line (open_at (seat_by slot) ((seen_of s).open_of slot.session.number)) s after
  pub reached : IsReachedStory after

abbrev pub LeftAll : List Slot → Story → Story → Type 0
LeftAll slots s after = LeaveAll DoesOf the_programs the_tell seen_of all_sessions (table_of slots) s after
