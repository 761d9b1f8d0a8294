use Rattle.std.proofs.Common.{◌∙◌, ap, sym, option_map, codes}
use Rattle.clap.specs.Words.{found_of, rows_of}
use Rattle.clap.proofs.WalkLemmas.{first_value-rows}
use Rattle.command_words.proofs.Parsing.{same_value, is_value}
use Rattle.command_words.proofs.Meeting.{script_word, on_new, on_file}
use Rattle.command_words.proofs.reading.script_found.Goals as goal

pub unwrap-file-requires : goal.unwrap-file-requires
unwrap-file-requires c =
    let rows = rows_of (found_of c.args.given.now) in
    is_value (λ s. s.now) c.get_str.result _ (c.get_str.ensures ∙ first_value-rows (found_of c.args.given.now) (codes "FILE") ∙ script_word rows c.requires.0 c.requires.1)

pub returns-then-eq : goal.returns-then-eq
returns-then-eq c = λ wanted has.
    let rows = rows_of (found_of c.args.given.now) in
    let word = same_value _ _ (ap (option_map (λ s. s.now)) (sym c.unwrap-file.ensures) ∙ c.get_str.ensures ∙ first_value-rows (found_of c.args.given.now) (codes "FILE") ∙ script_word rows wanted has) in
    on_new rows wanted _ has word (sym c.eq.ensures ∙ c.if-eq.true)

pub returns : goal.returns
returns c = λ wanted has.
    let rows = rows_of (found_of c.args.given.now) in
    let word = same_value _ _ (ap (option_map (λ s. s.now)) (sym c.unwrap-file.ensures) ∙ c.get_str.ensures ∙ first_value-rows (found_of c.args.given.now) (codes "FILE") ∙ script_word rows wanted has) in
    on_file rows wanted _ has word (sym c.eq.ensures ∙ c.if-eq.false)
