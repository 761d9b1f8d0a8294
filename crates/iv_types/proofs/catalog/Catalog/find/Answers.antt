use Rattle.std.proofs.Common.{◌∙◌, ap}
use Rattle.iv_types.specs.Definitions.{named}
use Rattle.iv_types.proofs.Catalogs.{lookup_is_named}
use Rattle.iv_types.proofs.catalog.Catalog.find.Goals as goal

-- src/catalog.rt:141:5
pub returns : goal.returns
returns c = c.get.ensures.value ∙ lookup_is_named 0 c.self.inside.named.entries c.args.name.now c.self.invariant.0 ∙ ap (λ v. named v c.args.name.now) c.self.view_is
