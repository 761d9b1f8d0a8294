use Rattle.std.proofs.Common.{subst}
use Rattle.iv_types.specs.Definitions.{AreNumbered}
use Rattle.iv_types.proofs.Catalogs.{are_numbered}
use Rattle.iv_types.proofs.catalog.Catalog.number_law.Goals as goal

pub returns : goal.returns
returns c = subst AreNumbered c.self.view_is (are_numbered c.self.inside.named.entries c.self.invariant.0)
