-- Whether a core is stopped, and by which step.
use Rattle.std.specs.Prelude.{◌≡◌, ℕ, Option, None, Some, refl}
use Rattle.std.specs.Option.{option_map}
use Rattle.txn_machine.specs.State.{Stop}

-- a step that stopped it
pub record IsStoppedBy (stop : Option Stop) (number : ℕ) : Type 0 where
  pub by : Stop
  pub is : stop ≡ Some by
  pub number_is : number ≡ by.step

pub stopped_by : (stop : Option Stop) (number : ℕ) → Some number ≡ option_map (λ (x : Stop). x.step) stop → IsStoppedBy stop number
stopped_by None number e = absurd (cc)
stopped_by (Some x) number e = record { by = x; is = refl; number_is = cc }

pub runs_on : (stop : Option Stop) → None ≡ option_map (λ (x : Stop). x.step) stop → stop ≡ None
runs_on None e = refl
runs_on (Some x) e = absurd (cc)
