-- No clause of `run` rests on this module: it serves contracts between crates.
--
-- How a session stands to its program.
use Rattle.std.specs.Prelude.{◌≡◌, ◌⊎◌, ℕ, [], Some, None, Result, Ok, Err}
use Rattle.iv_types.specs.declared.refusal.Refusal.{Refusal}
use Rattle.iv_types.specs.declared.refusal.Refusal.TheVariants as refusal
use Rattle.iv_types.specs.Syntax.{StatementTree}
use Rattle.txn_book.specs.Acts.{act_of}
use Rattle.script_law.specs.Programs as programs
use Rattle.script_law.specs.Programs.{Todo, says}
use Rattle.script_law.specs.Sessions.{programs_of}
use Rattle.statement_law.specs.Statements.{the_works}
use Rattle.txn_sessions.specs.declared.line.Stage.{Stage}
use Rattle.txn_sessions.specs.declared.line.Stage.TheVariants as stage
use Rattle.txn_sessions.specs.declared.progress.Line.{Line}
use Rattle.txn_sessions.specs.declared.progress.Line.TheVariants as line
use Rattle.txn_sessions.specs.declared.session.Session.{Session}
use Rattle.txn_sessions.specs.Standings.{standing_of, replies_of}
use Rattle.txn_sessions.specs.Left.{asked_as}

-- what a line leaves, where the session stands so
abbrev pub left_of : programs.Standing → Line → Todo
left_of st line.Idle = says [] st
left_of st (line.Under a) = asked_as st.mode st (act_of a.step.act) a.stage
left_of st (line.Ended r) = says (replies_of r) st

-- how the session stands between two statements
abbrev pub stands : Session → programs.Standing
stands s = standing_of s.standing

-- what it has still to do of the statement that is under way
abbrev pub todo_of : Session → Todo
todo_of s = left_of (stands s) s.line

-- no statement is under way, and none has ended whose replies were not taken
abbrev pub IsIdle : Session → Type 0
IsIdle s = s.line ≡ line.Idle

-- a statement is under way of which this is left
abbrev pub Comes : Session → Todo → Type 0
Comes s t = (todo_of s ≡ t) × (IsIdle s → ⊥)

-- how many steps the statement has kept so far
abbrev pub made_at : Stage → ℕ
made_at (stage.Fetching task made) = made
made_at (stage.Changing task made) = made
made_at (stage.Paying o) = o.made
made_at (stage.Lacking o) = o.made
made_at s = 0

-- it is as it was
pub record HasStayed (old new : Session) : Type 0 where
  pub standing : stands new ≡ stands old
  pub line : new.line ≡ old.line

-- a statement is begun, or refused before its first step, also for want of memory, and then all is as before
abbrev pub IsStarted : Session → StatementTree → Result (Unit {0}) Refusal → Session → Type 0
IsStarted old statement (Ok u) new =
    ((programs_of the_works).refuses (stands old) statement ≡ None) × (todo_of new ≡ (programs_of the_works).start (stands old) statement) × (IsIdle new → ⊥)
IsStarted old statement (Err why) new =
    ((why ≡ refusal.NoMemory) ⊎ ((programs_of the_works).refuses (stands old) statement ≡ Some why)) × HasStayed old new
