use Rattle.std.proofs.Common.{refl, sym}
use Rattle.std.proofs.lemmas.Bool.{true≢false}
use Rattle.iv_meaning.specs.Objects.{schema_of, view_tree}
use Rattle.view_delta.proofs.JoinTests.{joins_if_alike, begins_of_join, alike_of_join}
use Rattle.view_delta.proofs.joining.joins.Goals as goal

pub returns-then-second-view : goal.returns-then-second-view
returns-then-second-view c = ((λ t. absurd (true≢false (sym t))), (λ j. absurd (j.differ c.if-second-view.true)))

pub returns-then-not-is_begun : goal.returns-then-not-is_begun
returns-then-not-is_begun c = (
  (λ t. absurd (true≢false (sym t))),
  (λ j. absurd (true≢false (sym (c.if-not-is_begun.ensures.1 (begins_of_join (schema_of c.args.catalog.now) (view_tree c.args.view.now) c.args.second.now c.args.first.now c.args.other.now c.requires.first c.requires.other j))))),
)

pub returns : goal.returns
returns c = (
  (λ t. joins_if_alike (schema_of c.args.catalog.now) (view_tree c.args.view.now) c.args.second.now c.args.first.now c.args.other.now c.requires.first c.requires.other
      c.if-second-view.false (c.if-not-is_begun.ensures.0 refl) c.as_slice.result.now c.as_slice-2.result.now c.as_slice.ensures c.as_slice-2.ensures (c.are_alike.ensures.0 t)),
  (λ j. c.are_alike.ensures.1 (alike_of_join (schema_of c.args.catalog.now) (view_tree c.args.view.now) c.args.second.now c.args.first.now c.args.other.now c.requires.first c.requires.other j
      c.as_slice.result.now c.as_slice-2.result.now c.as_slice.ensures c.as_slice-2.ensures)),
)
