use Rattle.std.proofs.Common.{sym, ◌∙◌, refl}
use mathlib.Core.Logic.{inl, inr}
use Rattle.std.proofs.lemmas.Bool.{true≢false}
use Rattle.iv_meaning.specs.Objects.{schema_of}
use Rattle.view_delta.proofs.JoinTests.{own_begins, made_begins, begins_either}
use Rattle.view_delta.proofs.joining.is_begun.Goals as goal

pub returns-then-is_own : goal.returns-then-is_own
returns-then-is_own c = ((λ t. own_begins (schema_of c.args.catalog.now) c.args.first.now c.args.second.now (c.is_own.ensures.0 t)), (λ b. c.if-is_own.true))

pub returns-else-is_own : goal.returns-else-is_own
returns-else-is_own c = (
  (λ t. made_begins (schema_of c.args.catalog.now) c.args.first.now c.args.second.now _ refl (c.is_made.ensures.0 t)),
  (λ b. elim (begins_either (schema_of c.args.catalog.now) c.args.first.now c.args.second.now b) [
    | inl own ↦ absurd (true≢false (sym (c.is_own.ensures.1 own) ∙ c.if-is_own.false))
    | inr made ↦ c.is_made.ensures.1 made
  ]),
)
