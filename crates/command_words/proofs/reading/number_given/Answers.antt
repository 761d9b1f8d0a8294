use Rattle.std.proofs.Common.{◌∙◌, ◌<◌, ◌^◌, ap, arith, rules, sym, option_map}
use Rattle.std.proofs.lemmas.Fmt.{decimal_injective}
use Rattle.command_words.proofs.Parsing.{not_none, value_holds}
use Rattle.command_words.proofs.Meeting.{given_word, given_none}
use Rattle.command_words.proofs.reading.number_given.Goals as goal

pub unwrap-requires : goal.unwrap-requires
unwrap-requires c =
    let isn = c.requires.2 in
    let word = given_word _ _ _ c.requires.0 _ c.requires.1 isn (ap (option_map (λ w. w.now)) (sym c.in-Some.is) ∙ c.requires.3) in
    not_none c.number_within.result _ _ c.number_within.ensures (λ none. none c.requires.1 isn.above isn.below word)

pub returns-in-Some : goal.returns-in-Some
returns-in-Some c = λ given number isn e.
    let small : c.args.most < 2 ^ 32 = search rules in
    let word = given_word _ _ _ given _ number isn (ap (option_map (λ w. w.now)) (sym c.in-Some.is) ∙ e) in
    let is = value_holds c.number_within.result c.unwrap.result _ _ c.number_within.ensures c.unwrap.ensures in
    decimal_injective c.unwrap.result number (omega (arith, small, is.1)) (omega (arith, small, isn.below)) (sym is.2 ∙ word)

pub returns-in-None : goal.returns-in-None
returns-in-None c = λ given number isn e.
    given_none _ _ _ given number isn (ap (option_map (λ w. w.now)) (sym c.in-None.is) ∙ e)
