-- No clause of `run` rests on this module: it serves contracts between crates.
--
-- The rules of the image, of the bytes of a device.
use Rattle.std.specs.Prelude.{◌≡◌, ℕ, ◌≤◌, List}
use Rattle.txn_log.specs.Damaged.{Device, Rule, rule_number, FailsAt, IsDamaged}
use Rattle.log_disk.specs.Found.{IsFound}
use Rattle.image_finding.specs.declared.fault.BadImage.{BadImage}

-- whatever is found in these bytes is refused by the rule of this number, at this place
pub record IsRefused (c : List ℕ) (bad : BadImage) : Type 0 where
  pub each : (d : Device) → IsFound c d → (rule : Rule) × (rule_number rule ≡ bad.rule) × IsDamaged d rule bad.place

-- nothing that is found in these bytes fails a rule up to this number
pub record PassesUpTo (n : ℕ) (c : List ℕ) : Type 0 where
  pub none : (d : Device) → IsFound c d → (rule : Rule) → rule_number rule ≤ n → (place : ℕ) → FailsAt d rule place → ⊥
