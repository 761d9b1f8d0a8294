use Rattle.std.proofs.Common.{◌∙◌, ap, sym, option_map, codes}
use Rattle.clap.specs.Words.{found_of}
use Rattle.clap.proofs.WalkLemmas.{first_value-rows}
use Rattle.command_words.proofs.Parsing.{same_value, is_value}
use Rattle.command_words.proofs.reading.database_found.Goals as goal

pub unwrap-file-requires : goal.unwrap-file-requires
unwrap-file-requires c =
    let h = c.requires.3 in
    is_value (λ s. s.now) c.get_str.result _ (c.get_str.ensures ∙ first_value-rows (found_of c.args.given.now) (codes "FILE") ∙ h.file_is)

pub number_given-pages-requires : goal.number_given-pages-requires
number_given-pages-requires c =
    let h = c.requires.3 in
    (h.pages_given, c.requires.1, h.of_pages, c.get_str-2.ensures ∙ first_value-rows (found_of c.args.given.now) (codes "pages") ∙ h.pages_is)

pub number_given-log_kib-requires : goal.number_given-log_kib-requires
number_given-log_kib-requires c =
    let h = c.requires.3 in
    (h.log_given, c.requires.2, h.of_log, c.get_str-3.ensures ∙ first_value-rows (found_of c.args.given.now) (codes "log-kib") ∙ h.log_is)

pub returns : goal.returns
returns c = λ name pages log_kib h. (
  same_value _ _ (ap (option_map (λ s. s.now)) (sym c.unwrap-file.ensures) ∙ c.get_str.ensures ∙ first_value-rows (found_of c.args.given.now) (codes "FILE") ∙ h.file_is),
  c.number_given-pages.ensures h.pages_given pages h.of_pages (c.get_str-2.ensures ∙ first_value-rows (found_of c.args.given.now) (codes "pages") ∙ h.pages_is),
  c.number_given-log_kib.ensures h.log_given log_kib h.of_log (c.get_str-3.ensures ∙ first_value-rows (found_of c.args.given.now) (codes "log-kib") ∙ h.log_is),
)
