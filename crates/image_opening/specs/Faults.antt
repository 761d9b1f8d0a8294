-- No clause of `run` rests on this module: it serves contracts between crates.
--
-- Why no database is opened.
use Rattle.std.specs.Prelude.{◌≡◌, ℕ, Result, MatchResult}
use Rattle.iv_types.specs.Definitions.{Definitions}
use Rattle.iv_types.specs.Faults.{Rose}
use Rattle.image_finding.specs.declared.fault.FindFault.{FindFault}
use Rattle.image_finding.specs.declared.fault.FindFault.TheVariants as find
use Rattle.image_opening.specs.declared.fault.OpenFault.{OpenFault}
use Rattle.image_opening.specs.declared.fault.OpenFault.TheVariants as why
use Rattle.image_opening.specs.declared.views.ViewsFault.{ViewsFault}
use Rattle.image_opening.specs.declared.views.ViewsFault.TheVariants as views

abbrev pub open_fault : FindFault → OpenFault
open_fault (find.BadImage bad) = why.BadImage bad
open_fault find.DiskFault = why.DiskFault
open_fault find.NoMemory = why.NoMemory

-- of an image with these definitions
abbrev pub views_fault : Definitions → ViewsFault → OpenFault
views_fault catalog (views.Rule bad) = why.BadImage bad
views_fault catalog (views.Row row) = why.BadView (record { row = row; catalog = catalog })
views_fault catalog views.NoMemory = why.NoMemory

-- the count rises with a fault of the disk alone
abbrev pub counted_by : OpenFault → ℕ → ℕ → Type 0
counted_by (why.BadImage bad) before now = now ≡ before
counted_by (why.BadView wrong) before now = now ≡ before
counted_by why.DiskFault before now = Rose before now
counted_by why.NoMemory before now = now ≡ before

-- the disk's count of faults rose exactly with a fault of the disk
abbrev pub OpenFaults : {T : Type 0} → Result T OpenFault → ℕ → ℕ → Type 0
OpenFaults result before now = MatchResult result (λ _. now ≡ before) (λ fault. counted_by fault before now)
