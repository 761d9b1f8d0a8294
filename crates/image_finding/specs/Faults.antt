-- No clause of `run` rests on this module: it serves contracts between crates.
--
-- The outcomes of a search for an image.
use Rattle.std.specs.Prelude.{◌≡◌, ℕ, Result, MatchResult}
use Rattle.iv_types.specs.Faults.{Rose}
use Rattle.image_finding.specs.declared.fault.BadImage.{BadImage}
use Rattle.image_finding.specs.declared.fault.FindFault.{FindFault}
use Rattle.image_finding.specs.declared.fault.FindFault.TheVariants as faults

-- a fact of the rule that a fault tells, if it tells one
abbrev pub told_by : FindFault → (BadImage → Type 0) → Type 0
told_by (faults.BadImage bad) P = P bad
told_by faults.DiskFault P = Unit {0}
told_by faults.NoMemory P = Unit {0}

-- a fact of the rule that fails, if one does
abbrev pub IfBad : {T : Type 0} → Result T FindFault → (BadImage → Type 0) → Type 0
IfBad result P = MatchResult result (λ _. Unit {0}) (λ fault. told_by fault P)

-- the count rises with a fault of the disk alone
abbrev pub counted_by : FindFault → ℕ → ℕ → Type 0
counted_by (faults.BadImage bad) before now = now ≡ before
counted_by faults.DiskFault before now = Rose before now
counted_by faults.NoMemory before now = now ≡ before

-- the disk's count of faults rose exactly with a fault of the disk
abbrev pub FindFaults : {T : Type 0} → Result T FindFault → ℕ → ℕ → Type 0
FindFaults result before now = MatchResult result (λ _. now ≡ before) (λ fault. counted_by fault before now)
