-- No clause of `run` rests on this module: it serves contracts between crates.
--
-- What an engine's step is: by which states it may be asked for, where it leads, and when a fault is told.
use Rattle.std.specs.Prelude.{◌≡◌, ℕ, true, false, length, None}
use Rattle.iv_types.specs.Faults.{Rose}
use Rattle.iv_meaning.specs.Database.{Database}
use Rattle.txn_machine.specs.Keeping.{Open}
use Rattle.txn_machine.specs.Store.{committed}
use Rattle.txn_machine.specs.State.{State, is_fault}
use Rattle.txn_machine.specs.May.{May}
use Rattle.txn_machine.specs.Steps as machine
use Rattle.txn_book.specs.declared.step.Step.{Step}
use Rattle.txn_book.specs.declared.step.Answer.{Answer}
use Rattle.txn_book.specs.Acts.{act_of, answer_of}

-- the step may be asked for in this state
abbrev pub IsAsked : State → Step → Type 0
IsAsked s step = May s step.session (act_of step.act)

-- and in one in which the engine stands
pub record IsAskable (Stands : State → Type 0) (step : Step) : Type 0 where
  pub state : State
  pub stands : Stands state
  pub asked : IsAsked state step

-- The step was answered so, and led to a state in which the engine stands. Where the disk did not fail, a crash recovers just
-- what is committed there.
pub record Moves (Stands : State → Type 0) (MayRecover : Database → Type 0) (s : State) (step : Step) (said : Answer) : Type 0 where
  pub after : State
  pub does : machine.Step s step.session (act_of step.act) (answer_of said) after
  pub stands : Stands after
  pub durable : s.stop ≡ None → is_fault (answer_of said) ≡ false → (db : Database) → MayRecover db → db ≡ committed after.store

-- how many steps an open transaction keeps
abbrev pub kept_count : Open → ℕ
kept_count o = length o.kept

-- the disk's count of faults rose where the answer tells a fault, and stood else
pub record CountsFault (said : Answer) (before now : ℕ) : Type 0 where
  pub rises : is_fault (answer_of said) ≡ true → Rose before now
  pub stays : is_fault (answer_of said) ≡ false → now ≡ before
