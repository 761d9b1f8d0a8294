use Rattle.std.proofs.Common.{◌≡◌, ◌∙◌, ap, subst, sym, map}
use Rattle.std.specs.Prelude.{string_bytes}
use Rattle.clap.specs.Words.{app_of, is_simple, subcommand_of, takes}
use Rattle.command_words.specs.Commands.{commands}
use Rattle.command_words.specs.Words.{AsksFor, HasBounds}
use Rattle.command_words.proofs.Parsing.{simple}
use Rattle.command_words.proofs.Meeting.{bounds, parses}
use Rattle.command_words.proofs.reading.read_words.Goals as goal

pub found-requires : goal.found-requires
found-requires c =
    let app_is : app_of c.in_ok-commands.field-0 ≡ commands = c.in_ok-commands.ensures in
    let rows = (c.in-Ok.ensures.matches (ap is_simple app_is ∙ simple)).1 in
    let p = parses c.requires.0 c.args.words.now c.requires.1 in
    (c.requires.0, p.found _ (rows ∙ ap (λ a. subcommand_of a (map string_bytes c.args.words.now)) app_is))

pub refused-requires : goal.refused-requires
refused-requires c =
    let app_is : app_of c.in_ok-commands.field-0 ≡ commands = c.in_ok-commands.ensures in
    let p = parses c.requires.0 c.args.words.now c.requires.1 in
    c.in-Err.ensures.passes (ap (λ a. takes a (map string_bytes c.args.words.now)) app_is ∙ p.taken)

pub returns-in-Ok-clause-asks : goal.returns-in-Ok-clause-asks
returns-in-Ok-clause-asks c =
    let app_is : app_of c.in_ok-commands.field-0 ≡ commands = c.in_ok-commands.ensures in
    let rows = (c.in-Ok.ensures.matches (ap is_simple app_is ∙ simple)).1 in
    let p = parses c.requires.0 c.args.words.now c.requires.1 in
    subst (λ w. AsksFor w c.args.words.now) (sym (c.found.ensures c.requires.0 (p.found _ (rows ∙ ap (λ a. subcommand_of a (map string_bytes c.args.words.now)) app_is)))) c.requires.1

pub returns-in-Ok-clause-bounds : goal.returns-in-Ok-clause-bounds
returns-in-Ok-clause-bounds c =
    let app_is : app_of c.in_ok-commands.field-0 ≡ commands = c.in_ok-commands.ensures in
    let rows = (c.in-Ok.ensures.matches (ap is_simple app_is ∙ simple)).1 in
    let p = parses c.requires.0 c.args.words.now c.requires.1 in
    subst HasBounds (sym (c.found.ensures c.requires.0 (p.found _ (rows ∙ ap (λ a. subcommand_of a (map string_bytes c.args.words.now)) app_is)))) (bounds c.requires.0 c.args.words.now c.requires.1)

pub returns-in-Ok-clause-nothing_else : goal.returns-in-Ok-clause-nothing_else
returns-in-Ok-clause-nothing_else c = λ wanted asks.
    let app_is : app_of c.in_ok-commands.field-0 ≡ commands = c.in_ok-commands.ensures in
    let rows = (c.in-Ok.ensures.matches (ap is_simple app_is ∙ simple)).1 in
    let p = parses wanted c.args.words.now asks in
    c.found.ensures wanted (p.found _ (rows ∙ ap (λ a. subcommand_of a (map string_bytes c.args.words.now)) app_is))
