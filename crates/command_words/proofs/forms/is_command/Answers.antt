use Rattle.std.proofs.Common.{◌≡◌, ◌∙◌, ◌∷◌, ℕ, List, ap, sym, map, codes}
use Rattle.std.specs.Prelude.{string_bytes}
use Rattle.std.proofs.lemmas.Bool.{false≢true}
use Rattle.command_words.proofs.PartLaws.{init_words, init_parts, other_form, other_wanted}
use Rattle.command_words.proofs.forms.is_command.Goals as goal

pub returns-then-is_word : goal.returns-then-is_word
returns-then-is_word c =
    let first : string_bytes c.in-Some.first.now ≡ codes "init" = c.is_word.ensures.0 c.if-is_word.true in
    let whole : map string_bytes c.args.words.now ≡ codes "init" ∷ map string_bytes c.in-Some.rest.now = ap (map string_bytes) c.in-Some.ensures.cases.0 ∙ ap (λ (x : List ℕ). x ∷ map string_bytes c.in-Some.rest.now) first in
    (λ t. init_words c.args.words.now _ whole (c.is_init.ensures.0 t), λ w. c.is_init.ensures.1 (init_parts w.0 c.args.words.now _ whole w.1))

pub returns : goal.returns
returns c =
    let whole = ap (map string_bytes) c.in-Some.ensures.cases.0 in (
      λ t. other_form c.args.words.now (c.is_script_or_make.ensures.0 t),
      λ w. c.is_script_or_make.ensures.1 (other_wanted w.0 c.args.words.now _ _ whole (λ e. absurd (false≢true (sym c.if-is_word.false ∙ c.is_word.ensures.1 e))) w.1),
    )
