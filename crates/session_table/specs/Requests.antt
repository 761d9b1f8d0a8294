-- No clause of `run` rests on this module: it serves contracts between crates.
--
-- What is done with a line that was read.
use Rattle.std.specs.Prelude.{◌≡◌, ◌≢◌, ◌⊎◌, ◌++◌, ℕ, List, Option, Some, None, Result, Ok, Err}
use Rattle.iv_types.specs.declared.refusal.Refusal.{Refusal}
use Rattle.iv_types.specs.declared.refusal.Refusal.TheVariants as refusal
use Rattle.iv_types.specs.Syntax.{StatementTree}
use Rattle.iv_meaning.specs.Said.{Said, unread}
use Rattle.txn_machine.specs.Alone.{Story}
use Rattle.script_law.specs.Programs.{Standing}
use Rattle.script_law.specs.RunLines.{Line, idle, Table, set_seat, all_sessions, StepsOnce, Own, RunsLine}
use Rattle.script_law.specs.Machine.{DoesOf}
use Rattle.session_asks.specs.Askable.{the_programs}
use Rattle.line_requests.specs.declared.asked.Ask.{Ask}
use Rattle.line_requests.specs.declared.asked.Ask.TheVariants as ask
use Rattle.line_requests.specs.declared.asked.Request.{Request}
use Rattle.line_requests.specs.declared.asked.Request.TheVariants as request
use Rattle.line_requests.specs.Requests.{read_of, SaysOf, SaysSo}
use Rattle.txn_sessions.specs.declared.session.Session.{Session}
use Rattle.txn_sessions.specs.Sessions.{todo_of, stands, IsIdle}
use Rattle.session_table.specs.declared.going.Came.{Came}
use Rattle.session_table.specs.declared.going.Came.TheVariants as came
use Rattle.session_table.specs.declared.slot.LineKind.{LineKind}
use Rattle.session_table.specs.declared.slot.LineKind.TheVariants.{Idle}
use Rattle.session_table.specs.declared.slot.Slot.{Slot}
use Rattle.session_table.specs.Going.{the_tell, MayGo, outcome_in}
use Rattle.session_table.specs.Slots.{seat_by, table_of, AllGo}

-- ---- want of memory

-- there may be no memory to begin a statement that was read, in a session with no unfinished line; a refusal needs none
abbrev pub MayLack : Line → Result StatementTree Refusal → Type 0
MayLack idle (Ok statement) = Unit {0}
MayLack line read = ⊥

-- where the text of a session's line may count as unread
abbrev pub MayBeUnread : Line → Ask → Type 0
MayBeUnread line (ask.Runs read) = MayLack line (read_of read)
MayBeUnread line (ask.Loads read) = MayLack line (read_of read)
MayBeUnread line ask.Unread = Unit {0}
MayBeUnread line ask.Steps = ⊥

-- if it does, it may
abbrev pub LacksOnly : Line → Ask → Said → Type 0
LacksOnly line a (unread session) = MayBeUnread line a
LacksOnly line a said = Unit {0}

-- as the session sits at the table
abbrev pub LacksAt : Table → Request → Said → Type 0
LacksAt table (request.OfSession session a) said = LacksOnly (table session).line a said
LacksAt table asked said = Unit {0}

-- ---- texts that are given to sessions

-- how one is refused
abbrev pub refusal_of : LineKind → Standing → Result StatementTree Refusal → Option Refusal
refusal_of Idle standing (Err why) = Some why
refusal_of Idle standing (Ok statement) = the_programs.refuses standing statement
refusal_of line standing read = Some refusal.SessionWaiting

-- its statement begins
abbrev pub Begins : Session → Result StatementTree Refusal → Session → Type 0
Begins session (Ok statement) session' = todo_of session' ≡ the_programs.start (stands session) statement
Begins session (Err why) session' = ⊥

-- it was refused, or there was no memory to begin it, and the slot stays; or its statement begins
abbrev pub Gave : Slot → Result StatementTree Refusal → Option Refusal → Slot → Type 0
Gave slot read (Some why) slot' =
    (((why ≡ refusal.NoMemory) × MayLack (seat_by slot).line read) ⊎ (refusal_of slot.line (stands slot.session) read ≡ Some why)) × (slot'.line ≡ slot.line) × (todo_of slot'.session ≡ todo_of slot.session)
Gave slot read None slot' =
    (refusal_of slot.line (stands slot.session) read ≡ None) × (slot.line ≡ Idle) × Begins slot.session read slot'.session × (IsIdle slot'.session → ⊥)

-- of an idle session
abbrev pub Began : Session → Result StatementTree Refusal → Option Refusal → Session → Type 0
Began session read (Some why) session' =
    (((why ≡ refusal.NoMemory) × MayLack idle read) ⊎ (refusal_of Idle (stands session) read ≡ Some why)) × (todo_of session' ≡ todo_of session) × (IsIdle session')
Began session read None session' =
    (refusal_of Idle (stands session) read ≡ None) × Begins session read session' × (IsIdle session' → ⊥)

-- which line is left
abbrev pub kept_line : LineKind → LineKind → Came → LineKind
kept_line stuck stepped (came.Ended replies) = Idle
kept_line stuck stepped (came.Stuck sessions) = stuck
kept_line stuck stepped came.Stepped = stepped

-- ---- lines

-- one step was done, if the statement had not ended
pub record WentOnce (s : Story) (session : Session) (c : Came) (session' : Session) (after : Story) : Type 0 where
  pub once : StepsOnce DoesOf the_programs the_tell session.number (todo_of session) s (outcome_in c (todo_of session')) after
  pub go : MayGo session' after

-- a line of a session is done, in whatever table the session's seat stands
pub record SlotDid (number : ℕ) (a : Ask) (s : Story) (slot : Slot) (out : List ℕ) (slot' : Slot) (out' : List ℕ) (after : Story) : Type 0 where
  pub said : Said
  pub says : SaysOf number a said
  pub lacks : LacksOnly (seat_by slot).line a said
  pub piece : List ℕ
  pub told : out' ≡ out ++ piece
  pub own : (table : Table) → table number ≡ seat_by slot → Own DoesOf the_programs the_tell said table s piece (set_seat table number (seat_by slot')) after
  pub others : (x : Session) → number ≢ x.number → MayGo x s → MayGo x after
  pub go : MayGo slot'.session after

-- a line of the engine's own is done, which no session's seat is changed by
pub record EngineDid (said : Said) (s : Story) (out out' : List ℕ) (after : Story) : Type 0 where
  pub piece : List ℕ
  pub told : out' ≡ out ++ piece
  pub own : (table : Table) → Own DoesOf the_programs the_tell said table s piece table after
  pub others : (x : Session) → 0 ≢ x.number → MayGo x s → MayGo x after

-- a line's own part is done
pub record DidOwn (asked : Request) (s : Story) (slots : List Slot) (out : List ℕ) (slots' : List Slot) (out' : List ℕ) (after : Story) : Type 0 where
  pub said : Said
  pub says : SaysSo asked said
  pub lacks : LacksAt (table_of slots) asked said
  pub piece : List ℕ
  pub told : out' ≡ out ++ piece
  pub own : Own DoesOf the_programs the_tell said (table_of slots) s piece (table_of slots') after
  pub go : AllGo slots' after

-- a line is run
pub record RanLine (asked : Request) (s : Story) (slots : List Slot) (out : List ℕ) (slots' : List Slot) (out' : List ℕ) (after : Story) : Type 0 where
  pub said : Said
  pub says : SaysSo asked said
  pub lacks : LacksAt (table_of slots) asked said
  pub piece : List ℕ
  pub told : out' ≡ out ++ piece
  pub run : RunsLine DoesOf the_programs the_tell all_sessions said (table_of slots) s piece (table_of slots') after
  pub go : AllGo slots' after
