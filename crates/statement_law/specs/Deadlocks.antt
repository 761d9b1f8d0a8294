-- No clause of `run` rests on this module: it serves contracts between crates.
--
-- What a statement does once a step of it met a deadlock: it takes back and ends.
use Rattle.std.specs.Prelude.{Bool}
use Rattle.iv_types.specs.declared.refusal.EngineRefusal.TheVariants as engine
use Rattle.iv_types.specs.Syntax.{StatementTree}
use Rattle.txn_machine.specs.Acts as act
use Rattle.txn_machine.specs.Answers as answer
use Rattle.txn_machine.specs.Answers.{Answer}
use Rattle.script_law.specs.Programs.{Standing, Todo, says, asks, ghosts}
use Rattle.script_law.specs.Works.{Works}
use Rattle.script_law.specs.Sessions.{programs_of}

-- only UndoOne and End are asked for any more
abbrev pub OnlyTakesBack : Todo → Type 0
OnlyTakesBack (says replies standing) = Unit {0}
OnlyTakesBack (asks act.UndoOne f) = (said : Answer) (memory : Bool) → OnlyTakesBack (f said memory)
OnlyTakesBack (asks act.End f) = (said : Answer) (memory : Bool) → OnlyTakesBack (f said memory)
OnlyTakesBack _ = ⊥

-- after this answer, if it is a deadlock
abbrev pub TakesBackAfter : Answer → Todo → Type 0
TakesBackAfter (answer.Refused (engine.Deadlock cycle)) todo = OnlyTakesBack todo
TakesBackAfter said todo = Unit {0}

-- so it is at each step
abbrev pub YieldsToDeadlocks : Todo → Type 0
YieldsToDeadlocks (says replies standing) = Unit {0}
YieldsToDeadlocks (asks a f) = (said : Answer) (memory : Bool) → TakesBackAfter said (f said memory) × YieldsToDeadlocks (f said memory)
YieldsToDeadlocks (ghosts f) = (said : Answer) (memory : Bool) → TakesBackAfter said (f said memory) × YieldsToDeadlocks (f said memory)

-- whatever the works are
abbrev pub DeadlocksLaw : Type 0
DeadlocksLaw = (works : Works) (standing : Standing) (statement : StatementTree) → YieldsToDeadlocks ((programs_of works).start standing statement)
