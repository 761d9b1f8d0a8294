use Rattle.std.proofs.Common.{Option, subst, ap, ◌∙◌}
use Rattle.std.proofs.lemmas.Result.{IfOk-weaker}
use Rattle.iv_types.specs.Printing.{statement_text}
use Rattle.iv_types.specs.declared.statement.Statement.{Statement}
use Rattle.iv_types.specs.Trees.{statement_tree}
use Rattle.sql_parse.proofs.Lines.{unique}
use Rattle.image_catalog.specs.Texts.{IsSpelled}
use Rattle.image_catalog.proofs.defining.printed.Goals as goal

pub returns-in-Ok-Some : goal.returns-in-Ok-Some
returns-in-Ok-Some c =
    let spells = subst (λ (o : Option Statement). IsSpelled c.args.text.now o) c.in-Ok-Some.field-0-is c.in-Ok-Some.ensures in
    IfOk-weaker c.statement_text-bytes.result _ _ (λ bytes is s other.
    is ∙ ap statement_text (unique c.args.text.now (statement_tree c.in-Ok-Some.statement) s spells other)) c.statement_text-bytes.ensures

pub unreachable-requires : goal.unreachable-requires
unreachable-requires c =
    let none = subst (λ (o : Option Statement). IsSpelled c.args.text.now o) c.in-Ok-None.field-0-is c.in-Ok-None.ensures in
    none c.requires.0 c.requires.1
