use Rattle.std.proofs.Common.{Option, subst}
use Rattle.iv_types.specs.declared.catalog.Definition.{Definition}
use Rattle.iv_meaning.specs.Objects.{schema_of}
use Rattle.image_catalog.specs.Texts.{IsDefined}
use Rattle.image_catalog.proofs.Making.{takes_one}
use Rattle.image_catalog.proofs.defining.define.Goals as goal

pub add-requires : goal.add-requires
add-requires c =
    takes_one c.args.catalog.now c.args.text.now c.in-Ok-Some.definition c.requires
    (subst (λ (o : Option Definition). IsDefined (schema_of c.args.catalog.now) c.args.text.now o) c.in-Ok-Some.field-0-is c.in-Ok-Some.ensures)
