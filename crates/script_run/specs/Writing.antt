-- No clause of `run` rests on this module: it serves contracts between crates.
--
-- How replies that wait are written.
use Rattle.std.specs.Prelude.{◌≡◌, ◌⊎◌, ℕ, List, ◌++◌, Option, Some}
use Rattle.iv_types.specs.Faults.{Rose}
use Rattle.line_wire.specs.Wire.{WroteFront}
use Rattle.script_run.specs.declared.status.Status.{Status}
use Rattle.script_run.specs.declared.status.Status.TheVariants.{WriteFault}

-- some front of what was waiting was written, and the rest waits
pub record MovesOn (before waiting now : List ℕ) (written : Option (List ℕ)) : Type 0 where
  pub front : List ℕ
  pub whole : front ++ now ≡ waiting
  pub wrote : written ≡ Some (before ++ front)

-- what waited was written, or the sink failed with some front of it written
abbrev pub Finishes : Status → Status → List ℕ → List ℕ → Option (List ℕ) → Type 0
Finishes status result before waiting written =
    ((result ≡ status) × (written ≡ Some (before ++ waiting))) ⊎ ((result ≡ WriteFault) × WroteFront before waiting written)

abbrev pub FinishFaults : Status → Status → ℕ → ℕ → Type 0
FinishFaults status result before now = ((result ≡ status) × (now ≡ before)) ⊎ ((result ≡ WriteFault) × Rose before now)
