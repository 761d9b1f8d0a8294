use Rattle.std.proofs.Common.{◌≡◌, Ok, Err, IfOk}
use Rattle.iv_types.specs.Definitions.{AreCopies}
use Rattle.iv_meaning.specs.Objects.{schema_of}
use Rattle.core_reads.proofs.defining.copied.Goals as goal

pub returns : goal.returns
returns c = elim c.copied.result as (λ r. IfOk r (λ copy. AreCopies copy c.args.catalog.now) → IfOk r (λ copy. schema_of copy ≡ schema_of c.args.catalog.now)) [
  | Ok copy ↦ c.copies_law.ensures copy c.args.catalog.now
  | Err e ↦ λ h. tt
] c.copied.ensures
