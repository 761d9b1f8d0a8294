-- No clause of `run` rests on this module: it serves contracts between crates.
--
-- The steps that an engine is asked for by no session.
use Rattle.std.specs.Prelude.{ℕ, zero, suc, Bool, true, false, Result, Ok, Err}
use Rattle.iv_types.specs.declared.refusal.EngineRefusal.{EngineRefusal}
use Rattle.txn_machine.specs.Acts as act
use Rattle.txn_machine.specs.Acts.{Act}
use Rattle.txn_machine.specs.Answers as answer
use Rattle.txn_machine.specs.Answers.{Answer}
use Rattle.txn_machine.specs.Alone.{Story}
use Rattle.script_law.specs.RunLines.{Cleaned, all_removed, removal_refused, Cleans, CleansLine}
use Rattle.script_law.specs.Machine.{DoesOf}
use Rattle.session_asks.specs.Askable.{the_programs}
use Rattle.session_table.specs.Going.{the_tell}

abbrev pub IsEngines : Act → Type 0
IsEngines act.Clean = Unit {0}
IsEngines act.Prune = Unit {0}
IsEngines act.Checkpoint = Unit {0}
IsEngines _ = ⊥

-- ---- their answers

abbrev pub IsPruned : Answer → Type 0
IsPruned answer.Pruned = Unit {0}
IsPruned (answer.Refused why) = Unit {0}
IsPruned _ = ⊥

-- at most one ghost is removed by a step
abbrev pub IsCleaned : Answer → Type 0
IsCleaned (answer.Cleaned zero) = Unit {0}
IsCleaned (answer.Cleaned (suc zero)) = Unit {0}
IsCleaned (answer.Refused why) = Unit {0}
IsCleaned _ = ⊥

abbrev pub IsSaved : Answer → Type 0
IsSaved (answer.Saved number) = Unit {0}
IsSaved (answer.Refused why) = Unit {0}
IsSaved _ = ⊥

-- as they are taken apart
abbrev pub pruned_as : Result (Unit {0}) EngineRefusal → Answer
pruned_as (Ok u) = answer.Pruned
pruned_as (Err why) = answer.Refused why

-- whether a ghost was removed
abbrev pub cleaned_as : Result Bool EngineRefusal → Answer
cleaned_as (Ok true) = answer.Cleaned 1
cleaned_as (Ok false) = answer.Cleaned 0
cleaned_as (Err why) = answer.Refused why

abbrev pub saved_as : Result ℕ EngineRefusal → Answer
saved_as (Ok number) = answer.Saved number
saved_as (Err why) = answer.Refused why

-- ---- ghosts are removed

-- so many were, or a step was refused
abbrev pub cleaned_by : Result ℕ EngineRefusal → Cleaned
cleaned_by (Ok count) = all_removed count
cleaned_by (Err why) = removal_refused why

abbrev pub CleansBy : Story → Result ℕ EngineRefusal → Story → Type 0
CleansBy s result after = Cleans DoesOf the_programs the_tell 0 s (cleaned_by result) after

abbrev pub CleansLineBy : Story → Result ℕ EngineRefusal → Story → Type 0
CleansLineBy s result after = CleansLine DoesOf the_programs the_tell s (cleaned_by result) after
