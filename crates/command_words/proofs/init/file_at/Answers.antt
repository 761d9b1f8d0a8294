use Rattle.std.proofs.Common.{◌∙◌, ◌∷◌, ℕ, List, ap, sym, refl, map}
use Rattle.std.specs.Prelude.{string_bytes}
use Rattle.command_words.specs.Words.{file}
use Rattle.command_words.proofs.init.file_at.Goals as goal

pub returns-then-is_file : goal.returns-then-is_file
returns-then-is_file c = record {
  part = file c.as_str.result.now;
  fits = c.is_file.ensures.0 c.if-is_file.true;
  kind_is = refl;
  rest = map string_bytes c.in-Some.field-0-1.now;
  are = ap (map string_bytes) c.in-Some.ensures.cases.0 ∙ ap (λ (x : List ℕ). x ∷ map string_bytes c.in-Some.field-0-1.now) (sym c.as_str.ensures.value);
  counted = refl;
}
