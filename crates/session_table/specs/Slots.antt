-- No clause of `run` rests on this module: it serves contracts between crates.
--
-- The table of sessions as it is kept.
use Rattle.std.specs.Prelude.{◌≡◌, ℕ, zero, suc, ◌+◌, List, [], ◌∷◌, length, Option, Some, None, slice_get}
use Rattle.iv_meaning.specs.Database.{Database}
use Rattle.txn_machine.specs.Stored.{ViewRows}
use Rattle.txn_machine.specs.Store.{opened}
use Rattle.txn_machine.specs.Log.{Opening}
use Rattle.txn_machine.specs.State.{opened_state}
use Rattle.txn_machine.specs.Laws.{IsOpened}
use Rattle.txn_machine.specs.Alone.{Story, begun_story}
use Rattle.script_law.specs.Programs.{outside_with, Todo}
use Rattle.script_law.specs.RunLines.{AtTable, Table, idle, waiting, stepping, held, under}
use Rattle.txn_sessions.specs.declared.session.Session.{Session}
use Rattle.txn_sessions.specs.Sessions.{todo_of, stands, IsIdle}
use Rattle.txn_sessions.specs.Within.{IsWithin}
use Rattle.session_table.specs.declared.slot.LineKind.{LineKind}
use Rattle.session_table.specs.declared.slot.LineKind.TheVariants.{Idle, Waiting, Stepping, Held}
use Rattle.session_table.specs.declared.slot.Slot.{Slot}
use Rattle.session_table.specs.Going.{MayGo, standing_in}

abbrev pub seat_in : LineKind → Todo → AtTable
seat_in Idle todo = record { standing = standing_in todo; line = idle }
seat_in Waiting todo = under (waiting todo)
seat_in Stepping todo = under (stepping todo)
seat_in Held todo = under (held todo)

abbrev pub seat_by : Slot → AtTable
seat_by slot = seat_in slot.line (todo_of slot.session)

abbrev pub seat_or_none : Option Slot → AtTable
seat_or_none (Some slot) = seat_by slot
seat_or_none None = record { standing = outside_with []; line = idle }

-- session n stands at place n - 1
abbrev pub seat_at : List Slot → ℕ → AtTable
seat_at slots zero = seat_or_none None
seat_at slots (suc place) = seat_or_none (slice_get slots place)

abbrev pub table_of : List Slot → Table
table_of slots = λ n. seat_at slots n

-- so many numbers from this one on
abbrev pub numbers : ℕ → ℕ → List ℕ
numbers n zero = []
numbers n (suc count) = n ∷ numbers (suc n) count

-- ---- what holds of each

-- a session is idle where it has no unfinished line
abbrev pub FitsLine : LineKind → Session → Type 0
FitsLine Idle session = IsIdle session
FitsLine line session = IsIdle session → ⊥

pub record IsSlot (number : ℕ) (slot : Slot) : Type 0 where
  pub number_is : slot.session.number ≡ number
  pub fits : FitsLine slot.line slot.session

abbrev pub EachSlot : (ℕ → Slot → Type 0) → List Slot → Type 0
EachSlot P slots = (place : ℕ) (slot : Slot) → slice_get slots place ≡ Some slot → P place slot

abbrev pub AreSlots : List Slot → Type 0
AreSlots = EachSlot (λ place slot. IsSlot (place + 1) slot)

-- sessions 1 to 64
pub record IsTable (slots : List Slot) : Type 0 where
  pub count : length slots ≡ 64
  pub are : AreSlots slots

abbrev pub AllGo : List Slot → Story → Type 0
AllGo slots s = EachSlot (λ place slot. MayGo slot.session s) slots

-- ---- before the first line

pub record IsNew (number : ℕ) (slot : Slot) : Type 0 where
  pub number_is : slot.session.number ≡ number
  pub line_is : slot.line ≡ Idle
  pub is_idle : IsIdle slot.session
  pub stands_is : stands slot.session ≡ outside_with []
  pub within : IsWithin 0 slot.session

abbrev pub AreNew : List Slot → Type 0
AreNew = EachSlot (λ place slot. IsNew (place + 1) slot)

-- each may go on with an engine that was opened
abbrev pub GoFirst : List Slot → Type 0
GoFirst slots = (db : Database) (stored : ViewRows) (opening : Opening) → IsOpened db stored → AllGo slots (begun_story (opened_state opening (opened db stored)))

-- ---- how many wait

abbrev pub weight : LineKind → ℕ
weight Waiting = 1
weight _ = 0

abbrev pub waits_in : List Slot → ℕ
waits_in [] = 0
waits_in (slot ∷ slots) = weight slot.line + waits_in slots
