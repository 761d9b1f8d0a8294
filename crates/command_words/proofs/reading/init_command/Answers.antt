use Rattle.std.proofs.Common.{◌≡◌, ◌∙◌, rules, true, ap, ap₂, codes, Some}
use Rattle.clap.specs.Words.{Rule, rule_of, with_rule}
use Rattle.command_words.specs.Commands.{file_rule, option_rule}
use Rattle.command_words.proofs.reading.init_command.Goals as goal

pub returns-clause-app : goal.returns-clause-app
returns-clause-app c =
    let file_is : rule_of c.required-file.result ≡ file_rule = ap rule_of c.required-file.ensures ∙ ap (λ (r : Rule). record r { required = true }) c.new.ensures.rule in
    let pages_is : rule_of c.long-pages.result ≡ option_rule (codes "pages") = ap rule_of c.long-pages.ensures ∙ ap (λ (r : Rule). record r { long = Some (codes "pages") }) c.new-2.ensures.rule in
    let log_is : rule_of c.long-log_kib.result ≡ option_rule (codes "log-kib") = ap rule_of c.long-log_kib.ensures ∙ ap (λ (r : Rule). record r { long = Some (codes "log-kib") }) c.new-3.ensures.rule in
    c.in_ok-command.ensures.shape (search rules)
    ∙ ap₂ with_rule (c.in_ok-with_pages.ensures.shape (search rules) ∙ ap₂ with_rule (c.in_ok-with_file.ensures.shape (search rules) ∙ ap₂ with_rule c.new-4.ensures.app file_is) pages_is) log_is
