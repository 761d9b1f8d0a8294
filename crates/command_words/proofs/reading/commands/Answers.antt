use Rattle.std.proofs.Common.{◌≡◌, ◌∙◌, rules, true, false, ap, ap₂, codes}
use Rattle.clap.specs.Words.{App, Rule, app_of, new_app, rule_of, with_rule, with_subcommand}
use Rattle.clap.specs.declared.builder.command.Command.TheViews.{out-Command as fields_of}
use Rattle.clap.specs.Simple.{app_of_fields, on_top}
use Rattle.command_words.specs.Commands.{file_rule, number_rule, script_command, make_command}
use Rattle.command_words.proofs.reading.commands.Goals as goal

pub returns : goal.returns
returns c =
    let file_is : rule_of c.required-file.result ≡ file_rule = ap rule_of c.required-file.ensures ∙ ap (λ (r : Rule). record r { required = true }) c.new.ensures.rule in
    let number_is : rule_of c.required-number.result ≡ number_rule = ap rule_of c.required-number.ensures ∙ ap (λ (r : Rule). record r { required = true }) c.new-3.ensures.rule in
    let script_is : app_of c.in_ok-script.script ≡ script_command = c.in_ok-script.ensures.shape (search rules) ∙ ap₂ with_rule c.new-2.ensures.app file_is in
    let make_is : app_of c.in_ok-make.make ≡ make_command = c.in_ok-make.ensures.shape (search rules) ∙ ap₂ with_rule c.new-4.ensures.app number_is in
    let name_is : app_of c.no_binary_name.result ≡ on_top (λ s. record s { no_binary_name = true }) (new_app (codes "iv")) =
    ap app_of_fields c.no_binary_name.ensures ∙ ap (on_top (λ s. record s { no_binary_name = true })) c.new-5.ensures.app in
    let script_local : (fields_of c.in_ok-script.script).has_globals ≡ false = search rules in
    let make_local : (fields_of c.in_ok-make.make).has_globals ≡ false = search rules in
    let init_local : (fields_of c.in_ok-init.init).has_globals ≡ false = c.in_ok-init.ensures.local in
    let two = c.in_ok-subcommand-2.ensures.shape make_local
    ∙ ap₂ with_subcommand (c.in_ok-subcommand.ensures.shape script_local ∙ ap₂ with_subcommand name_is (ap (λ (a : App). a.top) script_is)) (ap (λ (a : App). a.top) make_is) in
    c.in_ok-program.ensures.shape init_local ∙ ap₂ with_subcommand two (ap (λ (a : App). a.top) c.in_ok-init.ensures.app)
