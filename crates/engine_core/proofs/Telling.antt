-- What is told of an act for which there was no memory.
use Rattle.std.specs.Prelude.{ℕ, Option, refl}
use Rattle.iv_types.specs.Maps.{Map}
use Rattle.iv_types.specs.declared.refusal.EngineRefusal.TheVariants.{NoMemory}
use Rattle.txn_machine.specs.Acts as act
use Rattle.txn_machine.specs.Acts.{Act}
use Rattle.txn_machine.specs.Answers as answer
use Rattle.txn_machine.specs.State.{State}
use Rattle.txn_machine.specs.Steps.{TakesMemory}
use Rattle.core_state.specs.Stands.{Began, Told}
use Rattle.core_state.proofs.Unchanged.{unchanged_told}
use Rattle.core_state.specs.declared.state.CoreState.{CoreState}

module _ {M : Type 0} (maps : M → ℕ → Map) (spare : M → ℕ → ℕ) (limit : M → Option ℕ) where
  -- the answer where there was no memory
  pub no_memory_told : (core : CoreState M) (s : State) (i : ℕ) (a : Act) → TakesMemory a → Began maps spare limit core s i → Told maps spare limit s i a (answer.Refused NoMemory) core
  no_memory_told core s i (act.Begin mode) takes h = unchanged_told maps spare limit core s i (act.Begin mode) (answer.Refused NoMemory) h (tt, refl) refl refl refl refl
  no_memory_told core s i act.Defs takes h = unchanged_told maps spare limit core s i act.Defs (answer.Refused NoMemory) h (tt, refl) refl refl refl refl
  no_memory_told core s i (act.Fetch number interval mode) takes h = unchanged_told maps spare limit core s i (act.Fetch number interval mode) (answer.Refused NoMemory) h (tt, refl) refl refl refl refl
  no_memory_told core s i (act.Peek number interval) takes h = unchanged_told maps spare limit core s i (act.Peek number interval) (answer.Refused NoMemory) h (tt, refl) refl refl refl refl
  no_memory_told core s i (act.Put number key new) takes h = unchanged_told maps spare limit core s i (act.Put number key new) (answer.Refused NoMemory) h (tt, refl) refl refl refl refl
  no_memory_told core s i act.Pay takes h = absurd takes
  no_memory_told core s i act.Ghost takes h = unchanged_told maps spare limit core s i act.Ghost (answer.Refused NoMemory) h (tt, refl) refl refl refl refl
  no_memory_told core s i act.UndoOne takes h = absurd takes
  no_memory_told core s i act.End takes h = absurd takes
  no_memory_told core s i act.Commit takes h = absurd takes
  no_memory_told core s i (act.Schema statement) takes h = unchanged_told maps spare limit core s i (act.Schema statement) (answer.Refused NoMemory) h (tt, refl) refl refl refl refl
  no_memory_told core s i act.Clean takes h = absurd takes
  no_memory_told core s i act.Prune takes h = absurd takes
  no_memory_told core s i act.Checkpoint takes h = absurd takes
  no_memory_told core s i act.Cancel takes h = absurd takes
