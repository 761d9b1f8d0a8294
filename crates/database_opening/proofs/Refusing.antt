-- What is no refusal of an image refuses any.
use Rattle.std.proofs.Common.{ℕ, List}
use Rattle.image_opening.specs.Telling.{Refuses}
use Rattle.image_opening.specs.declared.fault.OpenFault.{OpenFault}
use Rattle.image_opening.specs.declared.fault.OpenFault.TheVariants as why
use Rattle.database_opening.specs.Opened.{IsRefusal}

pub no_refusal : (fault : OpenFault) → (IsRefusal fault → ⊥) → (c : List ℕ) → Refuses c fault
no_refusal (why.BadImage bad) other c = absurd (other tt)
no_refusal (why.BadView wrong) other c = absurd (other tt)
no_refusal why.DiskFault other c = tt
no_refusal why.NoMemory other c = tt
