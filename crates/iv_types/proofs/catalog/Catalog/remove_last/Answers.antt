use Rattle.std.proofs.Common.{subst}
use Rattle.std.specs.Map.{values_of}
use Rattle.iv_types.specs.Definitions.{AreKept, AreFew, AreNamed}
use Rattle.iv_types.proofs.Catalogs.{without_last}
use Rattle.iv_types.proofs.catalog.Catalog.remove_last.Goals as goal

-- src/catalog.rt:246:5
pub invariant_of-self : goal.invariant_of-self
invariant_of-self c = without_last c.pop.new.self.entries c.pop.result (subst (λ es. AreKept 0 es × AreFew (values_of es) × AreNamed (values_of es)) c.pop.ensures.entries c.self.invariant)
