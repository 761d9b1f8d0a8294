-- What a running engine answers.
use Rattle.std.specs.Prelude.{ℕ, List}
use Rattle.txn_machine.specs.Acts.{Act}
use Rattle.txn_machine.specs.Answers.{Answer}
use Rattle.txn_machine.specs.Store.{Effect}
use Rattle.txn_machine.specs.State.{State}
use Rattle.txn_machine.specs.Steps.{Says}
use Rattle.machine_answers.specs.Answered.{IsOfState}

-- it tells what the state gives, with its effects
pub record HasAnswer (s : State) (session : ℕ) (a : Act) : Type 0 where
  pub said : Answer
  pub effects : List Effect
  pub of_state : IsOfState said
  pub says : Says s session a said effects
