use Rattle.std.proofs.Common.{map, ap, subst, ◌∙◌}
use Rattle.text_grammar.specs.declared.fault.ParseError.{ParseError}
use Rattle.text_grammar.specs.Readers.{Fails}
use Rattle.iv_types.specs.Limits.{the_limits}
use Rattle.iv_types.specs.Trees.{statement_tree}
use Rattle.sql_tokens.specs.View.{placed, symbols_at}
use Rattle.sql_readers.specs.Statements.{whole_line}
use Rattle.sql_parse.proofs.Lines.{found_by, none_by}
use Rattle.image_catalog.proofs.defining.statement_of.Goals as goal

pub returns-in-Ok : goal.returns-in-Ok
returns-in-Ok c =
    let all = ap (map (placed c.args.text.now)) c.deref.ensures.value ∙ c.in_ok-tokens.ensures.read in
    found_by c.args.text.now c.deref.result.now (statement_tree c.in-Ok.statement) all c.in-Ok.ensures

pub returns : goal.returns
returns c = λ s spells.
    let all = ap (map (placed c.args.text.now)) c.deref.ensures.value ∙ c.in_ok-tokens.ensures.read in
    let why = subst (λ (e : ParseError). Fails e (whole_line the_limits (symbols_at c.args.text.now c.deref.result.now))) c.in-Err-Fault.field-0-is c.in-Err-Fault.ensures in
    none_by c.args.text.now c.deref.result.now c.in-Err-Fault.field-0-0 s all why spells
