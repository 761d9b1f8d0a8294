-- No clause of `run` rests on this module: it serves contracts between crates.
--
-- Lines that `make` has run so far, with the piece that each printed.
use Rattle.std.specs.Prelude.{◌≡◌, ℕ, List, [], ◌∷◌}
use Rattle.std.specs.List.{AllByRecursion}
use Rattle.iv_types.specs.declared.refusal.Refusal.{Refusal}
use Rattle.iv_types.specs.declared.refusal.EngineRefusal.{EngineRefusal}
use Rattle.iv_meaning.specs.Said.{Said, Says}
use Rattle.iv_meaning.specs.Database.{Database}
use Rattle.txn_machine.specs.Stored.{ViewRows}
use Rattle.txn_machine.specs.Store.{opened}
use Rattle.txn_machine.specs.Log.{Opening}
use Rattle.txn_machine.specs.State.{opened_state}
use Rattle.txn_machine.specs.Alone.{Story, begun_story}
use Rattle.txn_machine.specs.Laws.{IsOpened}
use Rattle.script_law.specs.Programs.{Programs}
use Rattle.script_law.specs.RunLines.{Table, RunsLine, new_table, all_sessions}
use Rattle.script_law.specs.Machine.{DoesOf}
use Rattle.session_asks.specs.Askable.{the_programs}
use Rattle.session_table.specs.declared.slot.Slot.{Slot}
use Rattle.session_table.specs.Going.{the_tell}
use Rattle.session_table.specs.Slots.{table_of}
use Rattle.script_run.specs.Lines.{HasRun}
use Rattle.script_run.specs.Summary.{RollsBack, LacksMemory}

-- each line was run, and printed its piece
abbrev pub RunsEach : Programs → (EngineRefusal → Refusal) → List (List ℕ) → List (List ℕ) → Table → Story → Table → Story → Type 0
RunsEach programs tell [] [] table s table' s' = (table' ≡ table) × (s' ≡ s)
RunsEach programs tell (line ∷ lines) (piece ∷ pieces) table s table' s' =
    (said : Said) × (mid_table : Table) × (mid : Story) × Says line said × RunsLine DoesOf programs tell all_sessions said table s piece mid_table mid
    × RunsEach programs tell lines pieces mid_table mid table' s'
RunsEach programs tell _ _ table s table' s' = ⊥

-- these lines were run from this database on, so many of them were rolled back, and none was answered by code 29
pub record HasMade (db : Database) (lines pieces : List (List ℕ)) (count : ℕ) (slots : List Slot) (s : Story) : Type 0 where
  pub stored : ViewRows
  pub opening : Opening
  pub is_opened : IsOpened db stored
  pub each : RunsEach the_programs the_tell lines pieces new_table (begun_story (opened_state opening (opened db stored))) (table_of slots) s
  pub counted : RollsBack lines pieces count
  pub remembered : AllByRecursion (λ piece. LacksMemory piece → ⊥) pieces
  pub said : List Said
  pub out : List ℕ
  pub ran : HasRun db said out slots s

-- with some pieces
abbrev pub HasMadeLines : Database → List (List ℕ) → ℕ → List Slot → Story → Type 0
HasMadeLines db lines count slots s = (pieces : List (List ℕ)) × HasMade db lines pieces count slots s
