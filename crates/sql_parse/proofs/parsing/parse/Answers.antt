use Rattle.std.proofs.Common.{ℕ, List, length, map, sym, ap, subst, ◌∙◌, inr}
use Rattle.text_grammar.specs.declared.fault.ParseError.{ParseError}
use Rattle.text_grammar.specs.Readers.{Fails}
use Rattle.iv_types.specs.Limits.{the_limits}
use Rattle.sql_readers.specs.Statements.{whole_line}
use Rattle.iv_types.specs.Trees.{statement_tree}
use Rattle.iv_types.specs.Grammar.{Spells}
use Rattle.iv_types.specs.Refusing.{Refuses}
use Rattle.iv_types.specs.Tokens.{tokens, Placed}
use Rattle.sql_tokens.specs.View.{placed, symbols_at}
use Rattle.sql_parse.specs.Parsing.{refusal_of}
use Rattle.sql_parse.proofs.Lines.{found_by, only_by, none_by, refused_by}
use Rattle.sql_parse.proofs.parsing.parse.Goals as goal

pub returns-in-Ok-read_statement-clause-found : goal.returns-in-Ok-read_statement-clause-found
returns-in-Ok-read_statement-clause-found c =
    let all = ap (map (placed c.as_bytes-bytes.result.now)) c.deref.ensures.value ∙ c.in-Ok.ensures.read in
    subst (λ (t : List ℕ). Spells t (statement_tree c.in-Ok-read_statement.statement)) c.as_bytes-bytes.ensures.value (found_by c.as_bytes-bytes.result.now c.deref.result.now (statement_tree c.in-Ok-read_statement.statement) all c.in-Ok-read_statement.ensures)

pub returns-in-Ok-read_statement-clause-only : goal.returns-in-Ok-read_statement-clause-only
returns-in-Ok-read_statement-clause-only c = λ s d.
    let all = ap (map (placed c.as_bytes-bytes.result.now)) c.deref.ensures.value ∙ c.in-Ok.ensures.read in
    only_by c.as_bytes-bytes.result.now c.deref.result.now (statement_tree c.in-Ok-read_statement.statement) s all c.in-Ok-read_statement.ensures (subst (λ (t : List ℕ). Spells t s) (sym c.as_bytes-bytes.ensures.value) d)

pub returns-clause-only : goal.returns-clause-only
returns-clause-only c = λ s d.
    let why = subst (λ (e : ParseError). Fails e (whole_line the_limits (symbols_at c.as_bytes-bytes.result.now c.deref.result.now))) c.in-Err-Fault.field-0-is c.in-Err-Fault.ensures in
    let all = ap (map (placed c.as_bytes-bytes.result.now)) c.deref.ensures.value ∙ c.in-Ok.ensures.read in
    absurd (none_by c.as_bytes-bytes.result.now c.deref.result.now c.in-Err-Fault.fault s all why (subst (λ (t : List ℕ). Spells t s) (sym c.as_bytes-bytes.ensures.value) d))

pub returns-clause-refused : goal.returns-clause-refused
returns-clause-refused c =
    let why = subst (λ (e : ParseError). Fails e (whole_line the_limits (symbols_at c.as_bytes-bytes.result.now c.deref.result.now))) c.in-Err-Fault.field-0-is c.in-Err-Fault.ensures in
    let all = ap (map (placed c.as_bytes-bytes.result.now)) c.deref.ensures.value ∙ c.in-Ok.ensures.read in
    let told = c.refusal_of.ensures c.as_bytes-bytes.result.now in
    let whole = ap (map (placed c.as_bytes-bytes.result.now)) c.deref-in-Err-Fault.ensures.value ∙ c.in-Ok.ensures.read in
    let is_so = told ∙ ap (λ (ts : List Placed). refusal_of c.in-Err-Fault.fault ts (length c.as_bytes-bytes.result.now)) whole in
    inr (rw is_so (subst (λ (t : List ℕ). Refuses t (refusal_of c.in-Err-Fault.fault (tokens c.as_bytes-bytes.result.now) (length c.as_bytes-bytes.result.now))) c.as_bytes-bytes.ensures.value (refused_by c.as_bytes-bytes.result.now c.deref.result.now c.in-Err-Fault.fault all why)))
