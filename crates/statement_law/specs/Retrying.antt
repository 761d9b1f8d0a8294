-- No clause of `run` rests on this module: it serves contracts between crates.
--
-- That statements end, and that the passes over waiting sessions do: an engine counts its steps, and once it is stopped a statement
-- goes no further.
use Rattle.std.specs.Prelude.{◌≡◌, ◌≤◌, ℕ, zero, suc, ◌+◌, ◌-◌, Bool, List, Some}
use Rattle.iv_types.specs.declared.refusal.Refusal.{Refusal}
use Rattle.iv_types.specs.declared.refusal.EngineRefusal.{EngineRefusal}
use Rattle.iv_types.specs.Syntax.{StatementTree}
use Rattle.iv_meaning.specs.Database.{Database}
use Rattle.iv_meaning.specs.Said.{Said}
use Rattle.txn_machine.specs.Acts.{Act}
use Rattle.txn_machine.specs.Answers.{Answer}
use Rattle.txn_machine.specs.Stored.{ViewRows}
use Rattle.txn_machine.specs.Store.{opened}
use Rattle.txn_machine.specs.Log.{Opening}
use Rattle.txn_machine.specs.State.{opened_state, most_steps}
use Rattle.txn_machine.specs.Alone.{Story, begun_story}
use Rattle.txn_machine.specs.Laws.{IsOpened, IsReachedStory}
use Rattle.script_law.specs.Seen.{event}
use Rattle.script_law.specs.Programs.{Standing, Todo, Programs}
use Rattle.script_law.specs.RunLines.{act_of, next_of, IsNotBlocked, Table, new_table, all_sessions, Own, Pass, RunsLines}
use Rattle.script_law.specs.Machine.{DoesOf}
use Rattle.script_law.specs.Works.{Works}
use Rattle.script_law.specs.Sessions.{programs_of}

-- how many more steps the engine will count
abbrev pub steps_left : Story → ℕ
steps_left story = most_steps - story.state.steps

-- so many steps of a statement may follow one another of which none is blocked
abbrev pub StepsOn : ℕ → ℕ → Todo → Story → Type 0
StepsOn zero session todo s = Unit {0}
StepsOn (suc n) session todo s =
    (a : Act) × (said : Answer) × (memory : Bool) × (mid : Story) × (act_of todo ≡ Some a) × DoesOf s session a said mid × IsNotBlocked (event a said)
    × StepsOn n session (next_of todo said memory) mid

-- so many passes may follow one another in each of which some step was not blocked
abbrev pub MovesOn : Programs → (EngineRefusal → Refusal) → ℕ → Table → Story → Type 0
MovesOn programs tell zero table s = Unit {0}
MovesOn programs tell (suc n) table s =
    (moved : ℕ) × (piece : List ℕ) × (mid_table : Table) × (mid : Story) × Pass DoesOf programs tell all_sessions (moved + 1) table s piece mid_table mid
    × MovesOn programs tell n mid_table mid

-- a statement does no more steps than the engine will count, and one that tells it that the engine is stopped
abbrev pub StepsEndLaw : Type 0
StepsEndLaw = (works : Works) (story : Story) → IsReachedStory story → (session : ℕ) (standing : Standing) (statement : StatementTree) (n : ℕ)
    → StepsOn n session ((programs_of works).start standing statement) story → n ≤ steps_left story + 1

-- behind a line of a script no more passes move than the engine will count steps and there are sessions
abbrev pub RetriesEndLaw : Type 0
RetriesEndLaw = (works : Works) (tell : EngineRefusal → Refusal) (db : Database) (stored : ViewRows) (opening : Opening) → IsOpened db stored
    → (lines : List Said) (out : List ℕ) (table : Table) (s : Story)
    → RunsLines DoesOf (programs_of works) tell all_sessions lines new_table (begun_story (opened_state opening (opened db stored))) out table s
    → (said : Said) (own : List ℕ) (mid_table : Table) (mid : Story) → Own DoesOf (programs_of works) tell said table s own mid_table mid
    → (n : ℕ) → MovesOn (programs_of works) tell n mid_table mid → n ≤ steps_left mid + 64
