-- No clause of `run` rests on this module: it serves contracts between crates.
--
-- Runs of lines: the table of sessions, the steps that each line leads to, and what is printed.
use Rattle.std.specs.Prelude.{◌≡◌, ℕ, zero, suc, ◌+◌, ◌==◌, Bool, IsTrue, List, [], ◌∷◌, ◌++◌, length, codes, decimal, Option, Some, None, Result, Ok, Err, if◌then◌else◌}
use Rattle.iv_types.specs.declared.session.Sessions.{Sessions}
use Rattle.iv_types.specs.declared.refusal.Refusal.{Refusal}
use Rattle.iv_types.specs.declared.refusal.Refusal.TheVariants as refusal
use Rattle.iv_types.specs.declared.refusal.EngineRefusal.{EngineRefusal}
use Rattle.iv_types.specs.declared.reply.Reply.{Reply}
use Rattle.iv_types.specs.declared.reply.Reply.TheVariants as reply
use Rattle.iv_types.specs.Syntax.{StatementTree}
use Rattle.iv_meaning.specs.Reply.{reply_lines}
use Rattle.iv_meaning.specs.Said.{Said, nothing, too_long, bad, runs, loads, unread, steps, cleans, checkpoints}
use Rattle.txn_machine.specs.Acts as act
use Rattle.txn_machine.specs.Acts.{Act}
use Rattle.txn_machine.specs.Answers as answer
use Rattle.txn_machine.specs.Answers.{Answer}
use Rattle.script_law.specs.Seen.{Event, Waits, LacksRow, Fails, event, is_stop, Txn, Visible}
use Rattle.script_law.specs.Programs.{Standing, outside_with, Todo, says, asks, ghosts, Programs}

-- ---- the table of sessions

pub data Line : Type 0 where
  idle : Line
  -- a line `N: ..` of which a step was blocked
  waiting : Todo → Line
  -- a line `N/ ..`, and one of which the last step was blocked
  stepping : Todo → Line
  held : Todo → Line

pub record AtTable : Type 0 where
  pub standing : Standing
  pub line : Line

abbrev pub Table : Type 0
Table = ℕ → AtTable

abbrev pub set_seat : Table → ℕ → AtTable → Table
set_seat table session seat = λ t. if t == session then seat else table t

abbrev pub new_table : Table
new_table = λ t. record { standing = outside_with []; line = idle }

-- ---- how far a statement came

pub data Outcome : Type 0 where
  ended : List Reply → Standing → Outcome
  stuck : Sessions → Todo → Outcome
  stepped : Todo → Outcome

abbrev pub printed : ℕ → Outcome → List ℕ
printed session (ended replies standing) = reply_lines session replies
printed session (stuck sessions todo) = reply_lines session (reply.Wait sessions ∷ [])
printed session (stepped todo) = reply_lines session (reply.Step ∷ [])

-- how the session stands is in its unfinished statement, if it has one
abbrev pub under : Line → AtTable
under line = record { standing = outside_with []; line = line }

-- after a line `N: ..` or another try of it
abbrev pub seat_run : Outcome → AtTable
seat_run (ended replies standing) = record { standing = standing; line = idle }
seat_run (stuck sessions todo) = under (waiting todo)
seat_run (stepped todo) = under (waiting todo)

-- after a line `N/ ..` or `N+`
abbrev pub seat_stepped : Outcome → AtTable
seat_stepped (ended replies standing) = record { standing = standing; line = idle }
seat_stepped (stuck sessions todo) = under (held todo)
seat_stepped (stepped todo) = under (stepping todo)

-- a session that is tried again prints nothing where it waits on
abbrev pub printed_later : ℕ → Outcome → List ℕ
printed_later session (ended replies standing) = reply_lines session replies
printed_later session _ = []

-- the next step of a statement that has not ended
abbrev pub act_of : Todo → Option Act
act_of (says replies standing) = None
act_of (asks a f) = Some a
act_of (ghosts f) = Some act.Ghost

-- where a pay lacks its row, that is made first
abbrev pub asked_next : Event → Answer → Bool → (Answer → Bool → Todo) → Todo
asked_next LacksRow said memory f = ghosts f
asked_next e said memory f = f said memory

abbrev pub ghost_next : Answer → Bool → (Answer → Bool → Todo) → Todo
ghost_next answer.Ghosted memory f = asks act.Pay f
ghost_next said memory f = f said memory

-- what is left of it after a step that was answered so and not blocked, with memory to go on or without
abbrev pub next_of : Todo → Answer → Bool → Todo
next_of (says replies standing) said memory = says replies standing
next_of (asks a f) said memory = asked_next (event a said) said memory f
next_of (ghosts f) said memory = ghost_next said memory f

abbrev pub outcome_at : Todo → Outcome
outcome_at (says replies standing) = ended replies standing
outcome_at todo = stepped todo

-- after one step
abbrev pub outcome_of : Event → Todo → Todo → Outcome
outcome_of (Waits sessions) stay next = stuck sessions stay
outcome_of e stay next = outcome_at next

-- the step was not blocked
abbrev pub IsNotBlocked : Event → Type 0
IsNotBlocked (Waits sessions) = ⊥
IsNotBlocked e = Unit {0}

-- the sessions in number order
abbrev pub up_to : ℕ → List ℕ
up_to zero = []
up_to (suc n) = up_to n ++ suc n ∷ []

abbrev pub all_sessions : List ℕ
all_sessions = up_to 64

-- The transaction that a session leaves at the end of the input: one that counts as outside has none, also where a stopped engine
-- has one left of it.
abbrev pub open_at : AtTable → Option Txn → Option Txn
open_at seat t = elim seat.line [
  | idle ↦ elim seat.standing.mode [ None ↦ None | Some mode ↦ t ]
  | waiting todo ↦ t
  | stepping todo ↦ t
  | held todo ↦ t
]

-- how a `clean` ended: so many ghosts were removed and there is none left, or a step was refused
pub data Cleaned : Type 0 where
  all_removed : ℕ → Cleaned
  removal_refused : EngineRefusal → Cleaned

-- a name and a number, as a line of the engine's own is answered
abbrev pub counted_line : List ℕ → ℕ → List ℕ
counted_line word count = word ++ (codes " " ++ (decimal count ++ codes "\n"))

module _ {S : Type 0} (Does : S → ℕ → Act → Answer → S → Type 0) (programs : Programs) (tell : EngineRefusal → Refusal) where
  -- ---- steps

  -- the program goes on until it ends or a step is blocked; so many steps were not
  pub data RunsOn (session : ℕ) : Todo → S → ℕ → Outcome → S → Type 0 where
    has_ended : (replies : List Reply) (standing : Standing) (s : S) → RunsOn session (says replies standing) s 0 (ended replies standing) s
    is_blocked : (todo : Todo) (a : Act) (s mid : S) (said : Answer) (sessions : Sessions) → act_of todo ≡ Some a → Does s session a said mid → event a said ≡ Waits sessions
        → RunsOn session todo s 0 (stuck sessions todo) mid
    goes_on : (todo : Todo) (a : Act) (s mid after : S) (said : Answer) (memory : Bool) (fewer : ℕ) (o : Outcome) → act_of todo ≡ Some a → Does s session a said mid
        → IsNotBlocked (event a said) → RunsOn session (next_of todo said memory) mid fewer o after → RunsOn session todo s (fewer + 1) o after

  -- it does one step, if it has not ended
  pub data StepsOnce (session : ℕ) : Todo → S → Outcome → S → Type 0 where
    had_ended : (replies : List Reply) (standing : Standing) (s : S) → StepsOnce session (says replies standing) s (ended replies standing) s
    steps_once : (todo : Todo) (a : Act) (s after : S) (said : Answer) (memory : Bool) → act_of todo ≡ Some a → Does s session a said after
        → StepsOnce session todo s (outcome_of (event a said) todo (next_of todo said memory)) after

  -- ---- what a line does itself

  pub record Tells (session : ℕ) (r : Reply) (table : Table) (s : S) (piece : List ℕ) (table' : Table) (s' : S) : Type 0 where
    pub told : piece ≡ reply_lines session (r ∷ [])
    pub table_left : table' ≡ table
    pub left : s' ≡ s

  -- the session's statement came so far
  pub record Comes (session : ℕ) (seat_after : Outcome → AtTable) (o : Outcome) (table : Table) (piece : List ℕ) (table' : Table) : Type 0 where
    pub told : piece ≡ printed session o
    pub seat : table' ≡ set_seat table session (seat_after o)

  abbrev pub Rel : Type 1
  Rel = Table → S → List ℕ → Table → S → Type 0

  abbrev pub RunsIt : ℕ → StatementTree → Standing → Rel
  RunsIt session statement standing table s piece table' s' =
      (moved : ℕ) × (o : Outcome) × RunsOn session (programs.start standing statement) s moved o s' × Comes session seat_run o table piece table'

  abbrev pub LoadsIt : ℕ → StatementTree → Standing → Rel
  LoadsIt session statement standing table s piece table' s' =
      (s' ≡ s) × Comes session seat_stepped (stepped (programs.start standing statement)) table piece table'

  -- a statement that is given to a session is refused by its mode and savepoints, or goes
  abbrev pub RefusedOr : ℕ → Option Refusal → Rel → Rel
  RefusedOr session (Some why) Goes = Tells session (reply.Error why)
  RefusedOr session None Goes = Goes

  -- a text is given to a session; one with an unfinished line takes none
  abbrev pub Given : ℕ → Standing → Line → Result StatementTree Refusal → (StatementTree → Standing → Rel) → Rel
  Given session standing idle (Err why) Goes = Tells session (reply.Error why)
  Given session standing idle (Ok statement) Goes = RefusedOr session (programs.refuses standing statement) (Goes statement standing)
  Given session standing line read Goes = Tells session (reply.Error refusal.SessionWaiting)

  abbrev pub Stepped : ℕ → Line → Rel
  Stepped session (stepping todo) table s piece table' s' = (o : Outcome) × StepsOnce session todo s o s' × Comes session seat_stepped o table piece table'
  Stepped session (held todo) table s piece table' s' = (o : Outcome) × StepsOnce session todo s o s' × Comes session seat_stepped o table piece table'
  Stepped session line table s piece table' s' = Tells 0 (reply.Error refusal.BadLine) table s piece table' s'

  pub record Rests (table : Table) (s : S) (piece : List ℕ) (table' : Table) (s' : S) : Type 0 where
    pub told : piece ≡ []
    pub table_left : table' ≡ table
    pub left : s' ≡ s

  -- ghosts are removed one by one until there is none; a refusal ends it
  pub data Cleans : ℕ → S → Cleaned → S → Type 0 where
    cleaned_all : (removed : ℕ) (s after : S) → Does s 0 act.Clean (answer.Cleaned 0) after → Cleans removed s (all_removed removed) after
    cleaned_one : (removed : ℕ) (s mid after : S) (end : Cleaned) → Does s 0 act.Clean (answer.Cleaned 1) mid → Cleans (removed + 1) mid end after → Cleans removed s end after
    clean_fails : (removed : ℕ) (s after : S) (why : EngineRefusal) → Does s 0 act.Clean (answer.Refused why) after → Cleans removed s (removal_refused why) after

  -- versions are dropped before
  pub data CleansLine : S → Cleaned → S → Type 0 where
    pruned : (s mid after : S) (end : Cleaned) → Does s 0 act.Prune answer.Pruned mid → Cleans 0 mid end after → CleansLine s end after
    prune_fails : (s after : S) (why : EngineRefusal) → Does s 0 act.Prune (answer.Refused why) after → CleansLine s (removal_refused why) after

  abbrev pub cleaned_text : Cleaned → List ℕ
  cleaned_text (all_removed count) = counted_line (codes "CLEAN") count
  cleaned_text (removal_refused why) = reply_lines 0 (reply.Error (tell why) ∷ [])

  pub data SavesLine : S → List ℕ → S → Type 0 where
    saved : (s after : S) (number : ℕ) → Does s 0 act.Checkpoint (answer.Saved number) after → SavesLine s (counted_line (codes "CHECKPOINT") number) after
    save_fails : (s after : S) (why : EngineRefusal) → Does s 0 act.Checkpoint (answer.Refused why) after → SavesLine s (reply_lines 0 (reply.Error (tell why) ∷ [])) after

  abbrev pub Own : Said → Rel
  Own nothing table s piece table' s' = Rests table s piece table' s'
  Own too_long table s piece table' s' = Tells 0 (reply.Error refusal.LineTooLong) table s piece table' s'
  Own bad table s piece table' s' = Tells 0 (reply.Error refusal.BadLine) table s piece table' s'
  Own (runs session read) table s piece table' s' = Given session (table session).standing (table session).line read (RunsIt session) table s piece table' s'
  Own (loads session read) table s piece table' s' = Given session (table session).standing (table session).line read (LoadsIt session) table s piece table' s'
  Own (unread session) table s piece table' s' = Tells session (reply.Error refusal.NoMemory) table s piece table' s'
  Own (steps session) table s piece table' s' = Stepped session (table session).line table s piece table' s'
  Own cleans table s piece table' s' = (table' ≡ table) × ((end : Cleaned) × (piece ≡ cleaned_text end) × CleansLine s end s')
  Own checkpoints table s piece table' s' = (table' ≡ table) × SavesLine s piece s'

  -- ---- sessions that are tried again

  -- a session that waits goes on, and then the others do
  abbrev pub Tries : ℕ → Line → ℕ → (ℕ → Rel) → Rel
  Tries n (waiting todo) moved More table s piece table' s' =
      (some : ℕ) × (o : Outcome) × (mid : S) × (others : ℕ) × (more : List ℕ) × RunsOn n todo s some o mid
      × More others (set_seat table n (seat_run o)) mid more table' s'
      × (piece ≡ printed_later n o ++ more) × (moved ≡ some + others)
  Tries n line moved More table s piece table' s' = More moved table s piece table' s'

  -- each of some sessions is tried; so many steps were not blocked in all
  abbrev pub Pass : List ℕ → ℕ → Rel
  Pass [] moved table s piece table' s' = (piece ≡ []) × (table' ≡ table) × (s' ≡ s) × (moved ≡ 0)
  Pass (n ∷ ns) moved table s piece table' s' = Tries n (table n).line moved (Pass ns) table s piece table' s'

  -- whole passes in number order, the last of which moves none
  abbrev pub Passes : List ℕ → ℕ → Rel
  Passes all zero table s piece table' s' = Pass all 0 table s piece table' s'
  Passes all (suc n) table s piece table' s' =
      (moved : ℕ) × (first : List ℕ) × (mid_table : Table) × (mid : S) × (more : List ℕ) × Pass all (moved + 1) table s first mid_table mid
      × Passes all n mid_table mid more table' s' × (piece ≡ first ++ more)

  -- ---- lines

  pub record RunsLine (all : List ℕ) (said : Said) (table : Table) (s : S) (piece : List ℕ) (table' : Table) (s' : S) : Type 0 where
    pub own : List ℕ
    pub mid_table : Table
    pub mid : S
    pub first : Own said table s own mid_table mid
    pub passes : ℕ
    pub more : List ℕ
    pub later : Passes all passes mid_table mid more table' s'
    pub whole : piece ≡ own ++ more

  abbrev pub RunsLines : List ℕ → List Said → Rel
  RunsLines all [] table s out table' s' = (out ≡ []) × (table' ≡ table) × (s' ≡ s)
  RunsLines all (said ∷ more) table s out table' s' =
      (piece : List ℕ) × (mid_table : Table) × (mid : S) × (rest : List ℕ) × RunsLine all said table s piece mid_table mid × (out ≡ piece ++ rest)
      × RunsLines all more mid_table mid rest table' s'

  -- ---- the end of the input

  -- so many kept steps are taken back, and the transaction ends; only a stopped engine refuses that
  pub data RollsBack (session : ℕ) : ℕ → S → S → Type 0 where
    ends_it : (s after : S) → Does s session act.End answer.Ended after → RollsBack session 0 s after
    takes_back : (kept left : ℕ) (s mid after : S) → Does s session act.UndoOne (answer.Undone left) mid → RollsBack session kept mid after → RollsBack session (kept + 1) s after
    stops_ending : (s after : S) (why : EngineRefusal) → IsTrue (is_stop (Fails why)) → Does s session act.End (answer.Refused why) after → RollsBack session 0 s after
    stops_taking : (kept : ℕ) (s after : S) (why : EngineRefusal) → IsTrue (is_stop (Fails why)) → Does s session act.UndoOne (answer.Refused why) after → RollsBack session (kept + 1) s after

  -- a session's request is cancelled, if it waits for one, and its transaction rolled back, if one is open
  pub data Leaves (session : ℕ) : Line → Option Txn → S → S → Type 0 where
    cancels : (todo : Todo) (t : Option Txn) (s mid after : S) (said : Answer) → Does s session act.Cancel said mid → Leaves session idle t mid after → Leaves session (waiting todo) t s after
    cancels_held : (todo : Todo) (t : Option Txn) (s mid after : S) (said : Answer) → Does s session act.Cancel said mid → Leaves session idle t mid after → Leaves session (held todo) t s after
    steps_no_more : (todo : Todo) (t : Option Txn) (s after : S) → Leaves session idle t s after → Leaves session (stepping todo) t s after
    has_none : (s : S) → Leaves session idle None s s
    rolls_back : (t : Txn) (s after : S) → RollsBack session (length t.kept) s after → Leaves session idle (Some t) s after

  module _ (view : S → Visible) where
    -- each of some sessions in turn
    abbrev pub LeaveAll : List ℕ → Table → S → S → Type 0
    LeaveAll [] table s after = after ≡ s
    LeaveAll (n ∷ ns) table s after = (mid : S) × Leaves n (table n).line (open_at (table n) ((view s).open_of n)) s mid × LeaveAll ns table mid after

    -- a whole script: its lines, and then the end of the input, which prints nothing
    pub record RunsScript (lines : List Said) (s : S) (out : List ℕ) (after : S) : Type 0 where
      pub table : Table
      pub last : S
      pub of_lines : RunsLines all_sessions lines new_table s out table last
      pub leaves : LeaveAll all_sessions table last after
