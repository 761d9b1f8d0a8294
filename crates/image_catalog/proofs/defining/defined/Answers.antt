use Rattle.std.proofs.Common.{Option, subst}
use Rattle.std.proofs.lemmas.Result.{IfOk-weaker}
use Rattle.iv_types.specs.declared.statement.Statement.{Statement}
use Rattle.iv_types.specs.Trees.{statement_tree}
use Rattle.iv_meaning.specs.Objects.{schema_of}
use Rattle.image_catalog.specs.Texts.{IsSpelled}
use Rattle.image_catalog.proofs.Making.{bound_defined}
use Rattle.image_catalog.proofs.defining.defined.Goals as goal

pub returns-in-Ok-Some : goal.returns-in-Ok-Some
returns-in-Ok-Some c =
    let spells = subst (λ (o : Option Statement). IsSpelled c.args.text.now o) c.in-Ok-Some.field-0-is c.in-Ok-Some.ensures in
    IfOk-weaker c.bound_to-made.result _ _ (λ made. bound_defined (schema_of c.args.catalog.now) c.args.text.now (statement_tree c.in-Ok-Some.statement) made spells) c.bound_to-made.ensures
