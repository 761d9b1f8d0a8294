use Rattle.std.proofs.Common.{◌∙◌, ap, arith, sym, option_map, codes, decimal}
use Rattle.std.proofs.lemmas.Fmt.{decimal_injective}
use Rattle.clap.specs.Words.{found_of, rows_of}
use Rattle.clap.proofs.WalkLemmas.{first_value-rows}
use Rattle.command_words.specs.Words.{rounds}
use Rattle.command_words.proofs.Parsing.{same_value, is_value, not_none, value_holds}
use Rattle.command_words.proofs.Meeting.{named_for, met_something, is_script, is_database, is_rounds}
use Rattle.command_words.proofs.reading.found.Goals as goal

pub unwrap-requires : goal.unwrap-requires
unwrap-requires c =
    is_value (λ p. p.0.now) c.subcommand.result _ (c.subcommand.ensures.name ∙ met_something c.args.matches.now c.requires.0 c.requires.1)

pub script_found-requires : goal.script_found-requires
script_found-requires c =
    let named = ap (option_map (λ p. p.0.now)) (sym c.unwrap.ensures) ∙ c.subcommand.ensures.name in
    let rows = ap (option_map (λ p. rows_of (found_of p.1.now))) (sym c.unwrap.ensures) ∙ c.subcommand.ensures.rows in
    (c.requires.0, is_script c.args.matches.now c.requires.0 _ _ c.requires.1 (named_for c.args.matches.now c.requires.0 _ c.requires.1 named) rows (sym c.eq.ensures ∙ c.if-eq.true))

pub returns-then-eq : goal.returns-then-eq
returns-then-eq c = λ wanted f.
    let named = ap (option_map (λ p. p.0.now)) (sym c.unwrap.ensures) ∙ c.subcommand.ensures.name in
    let rows = ap (option_map (λ p. rows_of (found_of p.1.now))) (sym c.unwrap.ensures) ∙ c.subcommand.ensures.rows in
    c.script_found.ensures wanted (is_script c.args.matches.now wanted _ _ f (named_for c.args.matches.now wanted _ f named) rows (sym c.eq.ensures ∙ c.if-eq.true))

pub database_found-requires : goal.database_found-requires
database_found-requires c =
    let named = ap (option_map (λ p. p.0.now)) (sym c.unwrap.ensures) ∙ c.subcommand.ensures.name in
    let rows = ap (option_map (λ p. rows_of (found_of p.1.now))) (sym c.unwrap.ensures) ∙ c.subcommand.ensures.rows in
    let d = is_database c.args.matches.now c.requires.0 _ _ c.requires.1 (named_for c.args.matches.now c.requires.0 _ c.requires.1 named) rows (sym c.eq-2.ensures ∙ c.if-eq-2.true) in
    (d.name, d.of_pages, d.of_log, d.has)

pub returns-then-eq-2 : goal.returns-then-eq-2
returns-then-eq-2 c = λ wanted f.
    let named = ap (option_map (λ p. p.0.now)) (sym c.unwrap.ensures) ∙ c.subcommand.ensures.name in
    let rows = ap (option_map (λ p. rows_of (found_of p.1.now))) (sym c.unwrap.ensures) ∙ c.subcommand.ensures.rows in
    let d = is_database c.args.matches.now wanted _ _ f (named_for c.args.matches.now wanted _ f named) rows (sym c.eq-2.ensures ∙ c.if-eq-2.true) in
    let is = c.database_found.ensures d.name d.of_pages d.of_log d.has in
    rw (is.0, is.1, is.2) (sym d.wanted_is)

pub unwrap-word-requires : goal.unwrap-word-requires
unwrap-word-requires c =
    let named = ap (option_map (λ p. p.0.now)) (sym c.unwrap.ensures) ∙ c.subcommand.ensures.name in
    let rows = ap (option_map (λ p. rows_of (found_of p.1.now))) (sym c.unwrap.ensures) ∙ c.subcommand.ensures.rows in
    let n = is_rounds c.args.matches.now c.requires.0 _ _ c.requires.1 (named_for c.args.matches.now c.requires.0 _ c.requires.1 named) rows (sym c.eq.ensures ∙ c.if-eq.false) (sym c.eq-2.ensures ∙ c.if-eq-2.false) in
    is_value (λ s. s.now) c.get_str.result (decimal n.number) (c.get_str.ensures ∙ first_value-rows (found_of c.unwrap.result.1.now) (codes "NUMBER") ∙ n.value_is)

pub unwrap-requires-2 : goal.unwrap-requires-2
unwrap-requires-2 c =
    let named = ap (option_map (λ p. p.0.now)) (sym c.unwrap.ensures) ∙ c.subcommand.ensures.name in
    let rows = ap (option_map (λ p. rows_of (found_of p.1.now))) (sym c.unwrap.ensures) ∙ c.subcommand.ensures.rows in
    let n = is_rounds c.args.matches.now c.requires.0 _ _ c.requires.1 (named_for c.args.matches.now c.requires.0 _ c.requires.1 named) rows (sym c.eq.ensures ∙ c.if-eq.false) (sym c.eq-2.ensures ∙ c.if-eq-2.false) in
    let word = ap (option_map (λ s. s.now)) (sym c.unwrap-word.ensures) ∙ c.get_str.ensures ∙ first_value-rows (found_of c.unwrap.result.1.now) (codes "NUMBER") ∙ n.value_is in
    not_none c.number_within.result _ _ c.number_within.ensures (λ none. none n.number n.least n.most (same_value _ _ word))

pub returns : goal.returns
returns c = λ wanted f.
    let named = ap (option_map (λ p. p.0.now)) (sym c.unwrap.ensures) ∙ c.subcommand.ensures.name in
    let rows = ap (option_map (λ p. rows_of (found_of p.1.now))) (sym c.unwrap.ensures) ∙ c.subcommand.ensures.rows in
    let n = is_rounds c.args.matches.now wanted _ _ f (named_for c.args.matches.now wanted _ f named) rows (sym c.eq.ensures ∙ c.if-eq.false) (sym c.eq-2.ensures ∙ c.if-eq-2.false) in
    let word = ap (option_map (λ s. s.now)) (sym c.unwrap-word.ensures) ∙ c.get_str.ensures ∙ first_value-rows (found_of c.unwrap.result.1.now) (codes "NUMBER") ∙ n.value_is in
    let is = value_holds c.number_within.result c.unwrap-2.result _ _ c.number_within.ensures c.unwrap-2.ensures in
    ap rounds (decimal_injective c.unwrap-2.result n.number (omega (arith, is.1)) (omega (arith, n.most)) (sym is.2 ∙ same_value _ _ word)) ∙ sym n.wanted_is
