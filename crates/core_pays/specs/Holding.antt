-- No clause of `run` rests on this module: it serves contracts between crates.
--
-- A Pay whose lock is held.
use Rattle.std.specs.Prelude.{◌≡◌, ℕ, List, Option, Some, None}
use Rattle.std.specs.List.{Contains}
use Rattle.iv_types.specs.Maps.{Map}
use Rattle.iv_types.specs.declared.lock.GroupDelta.{GroupDelta}
use Rattle.iv_types.specs.declared.lock.Want.{Want}
use Rattle.iv_types.specs.declared.refusal.EngineRefusal.TheVariants as refusal
use Rattle.ghost_rows.specs.declared.view_rows.PayRefusal.{PayRefusal}
use Rattle.ghost_rows.specs.declared.view_rows.PayRefusal.TheVariants.{Absent, Escrow}
use Rattle.txn_machine.specs.Acts as act
use Rattle.txn_machine.specs.Answers as answer
use Rattle.txn_machine.specs.Answers.{Answer}
use Rattle.txn_machine.specs.Ghosts.{the_views}
use Rattle.txn_machine.specs.Log.{logs}
use Rattle.txn_machine.specs.May.{Owes}
use Rattle.txn_machine.specs.State.{State}
use Rattle.txn_machine.specs.Steps.{IsFree, asked, group_want}
use Rattle.txn_machine.specs.Store.{Takes, does}
use Rattle.core_state.specs.Stands.{Holds, Reserves, its_texts}
use Rattle.core_state.specs.declared.state.CoreState.{CoreState}
use Rattle.core_effects.specs.Underway.{IsUnderway}

-- the want of a delta that is there; where none is, its lock is held
abbrev pub IsNextWant : List Want → GroupDelta → Option Want → Type 0
IsNextWant locks d None = Contains locks (group_want d)
IsNextWant locks d (Some w) = w ≡ group_want d

-- the session's Pay is under way: nobody is in the way of the lock of its first owed delta, and it has it
pub record IsHolding {M : Type 0} (maps : M → ℕ → Map) (spare : M → ℕ → ℕ) (limit : M → Option ℕ) (s : State) (session : ℕ) (core : CoreState M) : Type 0 where
  pub underway : IsUnderway maps spare limit s session core
  pub owes : Owes s.store session
  pub free : IsFree s.store session (asked s.store session act.Pay)
  pub holds : Holds maps spare limit core (does the_views s.store session (Takes (asked s.store session act.Pay))) (logs s.store session act.Pay (Takes (asked s.store session act.Pay)) s.log) (its_texts s)
  pub reserves : Reserves maps spare limit core s.store s.log

-- how a Pay is answered whose delta is not added
abbrev pub unpaid_as : PayRefusal → Answer
unpaid_as Absent = answer.NeedsGhost
unpaid_as (Escrow column low high) = answer.Refused (refusal.Escrow column low high)
