-- No clause of `run` rests on this module: it serves contracts between crates.
--
-- How far a session's statement comes by an engine's steps.
use Rattle.std.specs.Prelude.{◌≡◌, ◌≢◌, ◌⊎◌, ◌≤◌, ℕ, ◌+◌, Bool, true, false, [], Option, Some, None, Result, Ok, Err}
use Rattle.iv_types.specs.declared.session.Sessions.{Sessions}
use Rattle.iv_types.specs.declared.refusal.EngineRefusal.{EngineRefusal}
use Rattle.iv_types.specs.declared.refusal.Refusal.{Refusal}
use Rattle.txn_machine.specs.Acts.{Act}
use Rattle.txn_machine.specs.Answers as machine_answer
use Rattle.txn_machine.specs.Answers.{Answer}
use Rattle.txn_book.specs.declared.step.Answer.{Answer as BookAnswer}
use Rattle.txn_book.specs.Acts.{answer_of}
use Rattle.txn_machine.specs.State.{State}
use Rattle.txn_machine.specs.Alone.{Story}
use Rattle.txn_machine.specs.Laws.{IsReachedStory}
use Rattle.script_law.specs.Seen.{Event, Waits, event}
use Rattle.script_law.specs.Programs.{Standing, outside_with, Todo, says}
use Rattle.script_law.specs.RunLines.{Outcome, ended, stuck, stepped, act_of, next_of, IsNotBlocked, RunsOn}
use Rattle.script_law.specs.Machine.{DoesOf}
use Rattle.statement_law.specs.Telling as telling
use Rattle.txn_sessions.specs.declared.session.Session.{Session}
use Rattle.txn_sessions.specs.Standings.{replies_of}
use Rattle.txn_sessions.specs.Sessions.{todo_of, IsIdle}
use Rattle.txn_sessions.specs.Within.{IsWithin}
use Rattle.session_table.specs.declared.going.Came.{Came}
use Rattle.session_table.specs.declared.going.Came.TheVariants as came
use Rattle.session_table.specs.declared.going.Went.{Went}
use Rattle.session_asks.specs.Askable.{the_programs, IsAskable}

-- how refusals of the cleaner's steps are told
abbrev pub the_tell : EngineRefusal → Refusal
the_tell = telling.tell [] None

-- ---- engines

-- the engine stands in a state of a story of which this holds
pub record StandsIn (Stands : State → Type 0) (P : Story → Type 0) : Type 0 where
  pub story : Story
  pub stands : Stands story.state
  pub holds : P story

-- steps lead from a story to another
pub data Leads : Story → Story → Type 0 where
  no_step : (s : Story) → Leads s s
  one_step : (s mid after : Story) (session : ℕ) (a : Act) (said : Answer) → DoesOf s session a said mid → Leads mid after → Leads s after

-- ---- sessions

-- a session may go on, and counts no more steps than the engine did
pub record MayGo (session : Session) (s : Story) : Type 0 where
  pub reached : IsReachedStory s
  pub askable : IsAskable session.number (todo_of session) s
  pub within : IsWithin s.state.steps session

-- its statement has ended with these replies, waits, or has steps left
abbrev pub standing_in : Todo → Standing
standing_in (says replies standing) = standing
standing_in todo = outside_with []

abbrev pub outcome_in : Came → Todo → Outcome
outcome_in (came.Ended replies) todo = ended (replies_of replies) (standing_in todo)
outcome_in (came.Stuck sessions) todo = stuck sessions todo
outcome_in came.Stepped todo = stepped todo

-- ---- a step

-- an answer, or the sessions that are waited for
abbrev pub ToldBy : Answer → Result BookAnswer Sessions → Type 0
ToldBy said (Ok answer) = (answer_of answer ≡ said) × ((sessions : Sessions) → said ≢ machine_answer.Blocked sessions)
ToldBy said (Err sessions) = said ≡ machine_answer.Blocked sessions

-- the step that the session asks for was answered so
pub record AnsweredBy (s : Story) (session : Session) (said : Answer) (after : Story) : Type 0 where
  pub act : Act
  pub asks : act_of (todo_of session) ≡ Some act
  pub does : DoesOf s session.number act said after

-- it was blocked by these, and the session stays; or it goes on by what it is answered
abbrev pub GoesBy : Event → Option Sessions → Session → Session → Todo → Type 0
GoesBy e None session session' next = IsNotBlocked e × (todo_of session' ≡ next)
GoesBy e (Some sessions) session session' next = (e ≡ Waits sessions) × (session' ≡ session)

-- a step was done
pub record DidStep (s : Story) (session : Session) (waits : Option Sessions) (session' : Session) (after : Story) : Type 0 where
  pub act : Act
  pub said : Answer
  pub memory : Bool
  pub asks : act_of (todo_of session) ≡ Some act
  pub does : DoesOf s session.number act said after
  pub goes : GoesBy (event act said) waits session session' (next_of (todo_of session) said memory)
  -- it was counted, unless the engine is stopped
  pub counts : (after.state.steps ≡ s.state.steps + 1) ⊎ ((after.state.steps ≡ s.state.steps) × (act_of (todo_of session') ≡ None))
  pub within : IsWithin after.state.steps session'

-- ---- steps one after another

-- the session is idle where its statement has ended
abbrev pub HasCome : Came → Session → Type 0
HasCome (came.Ended replies) session = IsIdle session
HasCome _ session = IsIdle session → ⊥

-- whether a step was not blocked
abbrev pub IsMoved : Bool → ℕ → Type 0
IsMoved true moved = (fewer : ℕ) × (moved ≡ fewer + 1)
IsMoved false moved = moved ≡ 0

abbrev pub ends_in : Came → ℕ
ends_in (came.Ended replies) = 1
ends_in _ = 0

pub record WentOn (s : Story) (session : Session) (went : Went) (session' : Session) (after : Story) : Type 0 where
  pub moved : ℕ
  pub moved_is : IsMoved went.moved moved
  pub run : RunsOn DoesOf the_programs the_tell session.number (todo_of session) s moved (outcome_in went.came (todo_of session')) after
  -- each step was counted, or the statement ended by it
  pub counts : moved + s.state.steps ≤ after.state.steps + ends_in went.came
  pub go : MayGo session' after
