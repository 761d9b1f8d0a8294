use Rattle.std.proofs.Common.{subst}
use Rattle.iv_types.specs.Definitions.{AreFew}
use Rattle.iv_types.proofs.Catalogs.{few_all}
use Rattle.iv_types.proofs.catalog.Catalog.few_law.Goals as goal

-- src/catalog.rt:202:5
pub returns-clause-few : goal.returns-clause-few
returns-clause-few c = subst AreFew c.self.view_is c.self.invariant.1

-- src/catalog.rt:202:5
pub returns-clause-all : goal.returns-clause-all
returns-clause-all c = few_all c.args.self.now (subst AreFew c.self.view_is c.self.invariant.1)
