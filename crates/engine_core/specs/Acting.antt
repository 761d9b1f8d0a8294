-- No clause of `run` rests on this module: it serves contracts between crates.
--
-- What an act leaves for which there was no memory, and what a step leaves with its records.
use Rattle.std.specs.Prelude.{◌≡◌, ◌⊎◌, ℕ, ◌+◌, ◌≤◌, true, false, List, [], Option, None, IsSome}
use Rattle.iv_types.specs.Maps.{Map}
use Rattle.txn_machine.specs.Acts.{Act}
use Rattle.txn_machine.specs.Answers.{Answer}
use Rattle.txn_machine.specs.May.{MayAct}
use Rattle.txn_machine.specs.State.{State, is_fault}
use Rattle.txn_machine.specs.Steps.{Says, TakesMemory}
use Rattle.txn_machine.specs.Store.{Effect}
use Rattle.core_journal.specs.Records.{Records, records_after, GivesTo}
use Rattle.core_journal.specs.Cuts.{Cut, cut_of, MayHave}
use Rattle.core_recording.specs.Giving.{IsSaved, IsBehind, LeavesOne}
use Rattle.core_state.specs.Stands.{Began, Moved}
use Rattle.core_state.specs.declared.state.CoreState.{CoreState}

module _ {M : Type 0} (maps : M → ℕ → Map) (spare : M → ℕ → ℕ) (limit : M → Option ℕ) where
  -- the act takes memory, and changed nothing but room
  abbrev pub LacksMemory : CoreState M → ℕ → Act → CoreState M → Type 0
  LacksMemory core session a after = TakesMemory a × ((s : State) → Began maps spare limit core s session → MayAct s.store session a → Began maps spare limit after s session)

module _ {M J X : Type 0} (maps : M → ℕ → Map) (spare : M → ℕ → ℕ) (limit : M → Option ℕ) (has : J → Records → Type 0) (area : J → Option ℕ) (medium : J → X) (leaves : X → X → Cut → Cut → Type 0) where
  -- A step was answered so, and led to the state in which the core is; its journal has the records of these effects beside those that
  -- it had, or after a checkpoint what that saves, unless it is stopped now. They are the effects of the answer; a core that is stopped
  -- tells so, and does nothing. A crash on the way leaves what the medium had, or what it was to have.
  pub record Recorded (s : State) (session : ℕ) (a : Act) (said : Answer) (rs : Records) (old : J) (core : CoreState M) (journal : J) : Type 0 where
    pub effects : List Effect
    pub says : Says s session a said effects ⊎ (IsSome s.stop × (effects ≡ []))
    pub moved : Moved maps spare limit s session a said effects core
    pub behind : moved.after.stop ≡ None → GivesTo (IsBehind maps spare limit has area core journal moved.after.log) (IsSaved s) a said (records_after s session a said effects rs)
    -- a step saves one checkpoint at most, beside that of the opening
    pub few : rs.saves ≤ s.steps + 1 → (records_after s session a said effects rs).saves ≤ moved.after.steps + 1
    pub untouched : IsSome s.stop → medium journal ≡ medium old
    pub left : s.stop ≡ None → is_fault said ≡ false
        → GivesTo (λ xs. has journal xs × LeavesOne medium leaves old journal (cut_of rs) (cut_of xs)) (IsSaved s) a said (records_after s session a said effects rs)
    pub left_behind : s.stop ≡ None → is_fault said ≡ true → MayHave (LeavesOne medium leaves old journal (cut_of rs)) (IsSaved s) a (records_after s session a said [] rs)
