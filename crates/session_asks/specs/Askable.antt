-- No clause of `run` rests on this module: it serves contracts between crates.
--
-- What a session asks for over the machine, whatever other sessions do meanwhile: that each step of it may be asked for.
use Rattle.std.specs.Prelude.{◌≡◌, ◌≢◌, ℕ, Bool, List, [], Some, None}
use Rattle.iv_types.specs.declared.reply.Reply.{Reply}
use Rattle.iv_types.specs.declared.refusal.EngineRefusal.TheVariants as engine
use Rattle.iv_types.specs.Syntax.{StatementTree}
use Rattle.txn_machine.specs.Acts.{Act}
use Rattle.txn_machine.specs.Answers as answer
use Rattle.txn_machine.specs.Answers.{Answer}
use Rattle.txn_machine.specs.May.{May, IsWritten}
use Rattle.txn_machine.specs.Alone.{Story, begun_story}
use Rattle.txn_machine.specs.Stored.{ViewRows}
use Rattle.txn_machine.specs.Store.{opened}
use Rattle.txn_machine.specs.Log.{Opening}
use Rattle.txn_machine.specs.State.{opened_state}
use Rattle.txn_machine.specs.Laws.{IsOpened}
use Rattle.iv_meaning.specs.Database.{Database}
use Rattle.iv_meaning.specs.Escrow.{IsSession}
use Rattle.script_law.specs.Seen.{Event, Waits, event}
use Rattle.script_law.specs.Programs.{Standing, outside_with, Todo, says, Programs}
use Rattle.script_law.specs.RunLines.{act_of, next_of}
use Rattle.script_law.specs.Machine.{DoesOf}
use Rattle.script_law.specs.Sessions.{programs_of}
use Rattle.statement_law.specs.Statements.{the_works}

-- how all statements are done in steps
abbrev pub the_programs : Programs
the_programs = programs_of the_works

-- a step that is blocked is asked for again
abbrev pub left_after : Event → Todo → Todo → Todo
left_after (Waits sessions) stay next = stay
left_after e stay next = next

-- From here a session may come there: it begins statements and does their steps, and others do theirs.
pub data ComesTo (session : ℕ) : Todo → Story → Todo → Story → Type 0 where
  is_there : (todo : Todo) (s : Story) → ComesTo session todo s todo s
  begins : (replies : List Reply) (standing : Standing) (statement : StatementTree) (last : Todo) (s after : Story) → IsWritten statement
      → the_programs.refuses standing statement ≡ None → ComesTo session (the_programs.start standing statement) s last after → ComesTo session (says replies standing) s last after
  steps : (todo : Todo) (a : Act) (said : Answer) (memory : Bool) (last : Todo) (s mid after : Story) → act_of todo ≡ Some a → DoesOf s session a said mid
      → ComesTo session (left_after (event a said) todo (next_of todo said memory)) mid last after → ComesTo session todo s last after
  others_step : (other : ℕ) (todo : Todo) (a : Act) (said : Answer) (last : Todo) (s mid after : Story) → other ≢ session → DoesOf s other a said mid
      → ComesTo session todo mid last after → ComesTo session todo s last after

-- wherever it comes, what it asks for may be asked for, and it has ended once it is told that the engine is stopped
pub record IsAskable (session : ℕ) (todo : Todo) (s : Story) : Type 0 where
  pub may : (last : Todo) (after : Story) (a : Act) → ComesTo session todo s last after → act_of last ≡ Some a → May after.state session a
  pub stops : (last : Todo) (after : Story) (a : Act) (step : ℕ) (memory : Bool) → ComesTo session todo s last after → act_of last ≡ Some a
      → act_of (next_of last (answer.Refused (engine.Stopped step)) memory) ≡ None

-- So it is of a session of an engine that was opened, before its first statement.
abbrev pub AskableLaw : Type 0
AskableLaw = (db : Database) (stored : ViewRows) (opening : Opening) → IsOpened db stored → (session : ℕ) → IsSession session
    → IsAskable session (says [] (outside_with [])) (begun_story (opened_state opening (opened db stored)))
