use Rattle.std.proofs.Common.{length, map, ◌-◌, ◌<◌, ◌≤◌, Some, arith, sym, ap, ◌∙◌}
use Rattle.std.proofs.lemmas.List.{length-map}
use Rattle.sql_tokens.specs.declared.token.Token.{Token}
use Rattle.sql_tokens.specs.View.{placed}
use Rattle.sql_parse.proofs.Lines.{place_over, place_some, place_none, got, got_none}
use Rattle.sql_parse.proofs.parsing.place_of.Goals as goal

pub returns-then-left-tokens : goal.returns-then-left-tokens
returns-then-left-tokens c = λ text. let size = length-map c.args.tokens.now (placed text) in sym (place_over c.args.left (map (placed text) c.args.tokens.now) c.args.end (omega (arith, size)))

pub returns-in-Some : goal.returns-in-Some
returns-in-Some c = λ text.
    let found = c.in-Some.ensures.lookup in
    let within : length c.args.tokens.now - c.args.left < length c.args.tokens.now = grind (arith, found.0) in
    sym (place_some c.args.left text c.args.tokens.now c.in-Some.token.now c.args.end (omega arith) (got c.args.tokens.now (length c.args.tokens.now - c.args.left) _ within ∙ ap (λ (t : Token). Some t) (sym found.1)))

pub returns-in-None : goal.returns-in-None
returns-in-None c = λ text.
    let found = c.in-None.ensures.lookup in
    let past : length c.args.tokens.now ≤ length c.args.tokens.now - c.args.left = grind (arith, found.0) in
    sym (place_none c.args.left text c.args.tokens.now c.args.end (omega arith) (got_none c.args.tokens.now (length c.args.tokens.now - c.args.left) past))
