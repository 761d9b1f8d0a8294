-- No clause of `run` rests on this module: it serves contracts between crates.
--
-- Which step a statement asks for at each stage of it, and what that may be answered.
use Rattle.std.specs.Prelude.{Bool, true, false, nat_lt, length, Option, Some, None}
use Rattle.iv_types.specs.Trees.{statement_tree}
use Rattle.txn_machine.specs.Acts as act
use Rattle.txn_machine.specs.Acts.{Act}
use Rattle.txn_machine.specs.Answers as answer
use Rattle.txn_machine.specs.Answers.{Answer}
use Rattle.script_law.specs.Seen.{Event, Waits, Never, event}
use Rattle.script_law.specs.Works.{is_work}
use Rattle.txn_sessions.specs.declared.line.Opening.{Opening}
use Rattle.txn_sessions.specs.declared.line.Opening.TheVariants as opening
use Rattle.txn_sessions.specs.declared.line.Owing.{Owing}
use Rattle.txn_sessions.specs.declared.line.Stage.{Stage}
use Rattle.txn_sessions.specs.declared.line.Stage.TheVariants as stage

-- what a transaction is opened for: BEGIN, or one statement that reads or changes rows
abbrev pub may_open : Opening → Bool
may_open (opening.Begin mode) = true
may_open (opening.Alone statement) = is_work (statement_tree statement)

-- some delta is still to be paid
abbrev pub is_owing : Owing → Bool
is_owing o = nat_lt o.paid (length o.owed)

-- a statement that asks for this step may be at this stage
abbrev pub fits : Act → Stage → Bool
fits (act.Begin mode) (stage.Opening o) = may_open o
fits act.Defs (stage.Learning o number) = may_open o
fits (act.Fetch index interval mode) (stage.Fetching task made) = true
fits (act.Peek index interval) (stage.Fetching task made) = true
fits (act.Put table key new) (stage.Changing task made) = true
fits act.Pay (stage.Paying o) = is_owing o
fits act.Ghost (stage.Lacking o) = is_owing o
fits act.UndoOne (stage.Undoing left last) = true
fits act.End (stage.Ending reply) = true
fits act.Commit (stage.Committing replies) = true
fits (act.Schema statement) (stage.Creating replies) = true
fits _ _ = false

-- ---- answers

-- a step has one of its own answers, and was not blocked
abbrev pub IsOwn : Event → Type 0
IsOwn (Waits sessions) = ⊥
IsOwn Never = ⊥
IsOwn e = Unit {0}

-- a step was asked for, and this is what it was answered
abbrev pub IsAnswered : Option Act → Answer → Type 0
IsAnswered None said = ⊥
IsAnswered (Some a) said = IsOwn (event a said)

-- the engine refused it
abbrev pub IsRefused : Answer → Type 0
IsRefused (answer.Refused why) = Unit {0}
IsRefused _ = ⊥

abbrev pub IsBegun : Answer → Type 0
IsBegun (answer.Begun number defs) = Unit {0}
IsBegun (answer.Refused why) = Unit {0}
IsBegun _ = ⊥

abbrev pub IsDefs : Answer → Type 0
IsDefs (answer.Defs objects) = Unit {0}
IsDefs (answer.Refused why) = Unit {0}
IsDefs _ = ⊥

abbrev pub IsRows : Answer → Type 0
IsRows (answer.Rows rows) = Unit {0}
IsRows (answer.Refused why) = Unit {0}
IsRows _ = ⊥

abbrev pub IsChanged : Answer → Type 0
IsChanged (answer.Changed before owed) = Unit {0}
IsChanged (answer.Refused why) = Unit {0}
IsChanged _ = ⊥

abbrev pub IsPaid : Answer → Type 0
IsPaid (answer.Paid left) = Unit {0}
IsPaid answer.NeedsGhost = Unit {0}
IsPaid (answer.Refused why) = Unit {0}
IsPaid _ = ⊥

abbrev pub IsGhosted : Answer → Type 0
IsGhosted answer.Ghosted = Unit {0}
IsGhosted (answer.Refused why) = Unit {0}
IsGhosted _ = ⊥

abbrev pub IsUndone : Answer → Type 0
IsUndone (answer.Undone left) = Unit {0}
IsUndone (answer.Refused why) = Unit {0}
IsUndone _ = ⊥

abbrev pub IsEnded : Answer → Type 0
IsEnded answer.Ended = Unit {0}
IsEnded (answer.Refused why) = Unit {0}
IsEnded _ = ⊥

abbrev pub IsCommitted : Answer → Type 0
IsCommitted (answer.Committed number) = Unit {0}
IsCommitted (answer.Refused why) = Unit {0}
IsCommitted _ = ⊥

abbrev pub IsCreated : Answer → Type 0
IsCreated (answer.Committed number) = Unit {0}
IsCreated (answer.Denied why) = Unit {0}
IsCreated (answer.Refused why) = Unit {0}
IsCreated _ = ⊥

-- the answers of each stage's step
abbrev pub IsOf : Stage → Answer → Type 0
IsOf (stage.Opening o) said = IsBegun said
IsOf (stage.Learning o n) said = IsDefs said
IsOf (stage.Fetching task made) said = IsRows said
IsOf (stage.Changing task made) said = IsChanged said
IsOf (stage.Paying o) said = IsPaid said
IsOf (stage.Lacking o) said = IsGhosted said
IsOf (stage.Undoing n last) said = IsUndone said
IsOf (stage.Ending reply) said = IsEnded said
IsOf (stage.Committing replies) said = IsCommitted said
IsOf (stage.Creating replies) said = IsCreated said

-- the invariant of a stage, whatever its step is
abbrev pub is_right : Stage → Bool
is_right (stage.Opening o) = may_open o
is_right (stage.Learning o number) = may_open o
is_right (stage.Paying o) = is_owing o
is_right (stage.Lacking o) = is_owing o
is_right _ = true
