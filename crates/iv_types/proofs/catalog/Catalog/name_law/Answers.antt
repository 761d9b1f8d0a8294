use Rattle.std.proofs.Common.{subst}
use Rattle.iv_types.specs.Definitions.{AreNamed}
use Rattle.iv_types.proofs.catalog.Catalog.name_law.Goals as goal

pub returns : goal.returns
returns c = subst AreNamed c.self.view_is c.self.invariant.2
