use Rattle.std.proofs.Common.{refl, sym, subst, ap, List, drop, ◌∙◌, ◌∷◌, ◌+◌, ◌≡◌}
use Rattle.std.specs.List.{AllByRecursion}
use Rattle.std.proofs.lemmas.List.{drop_all, drop_more}
use Rattle.std.proofs.lemmas.Bool.{true≢false}
use Rattle.txn_machine.proofs.Making.{each_view}
use Rattle.iv_types.specs.declared.catalog.Definition.{Definition}
use Rattle.iv_meaning.specs.Objects.{schema_of, object_of}
use Rattle.txn_machine.specs.Deltas.{views_of}
use Rattle.txn_machine.specs.ViewLaws.{IsJoined}
use Rattle.view_delta.proofs.JoinTests.{of_all, of_head}
use Rattle.view_delta.proofs.joining.are_joined.Goals as goal

pub returns-then-not-is_joined_of : goal.returns-then-not-is_joined_of
returns-then-not-is_joined_of c = (
  (λ t. absurd (true≢false (sym t))),
  (λ h.
      let o = schema_of c.args.catalog.now in
      let items = c.definitions-definition-items.result.now in
      let at = c.loop-definition.definition-index in
      let d = c.definition-item.result in
      let split : drop at items ≡ d ∷ drop (at + 1) items = drop_more items at d c.loop-definition-test.true ∙ ap (λ x. x ∷ drop (at + 1) items) (sym c.definition-item.is) in
      let whole : AllByRecursion (IsJoined o) (views_of (schema_of items)) =
      subst (λ (ds : List Definition). AllByRecursion (IsJoined o) (views_of (schema_of ds))) (sym c.definitions-definition-items.ensures) (each_view (IsJoined o) o h) in
      let left : AllByRecursion (IsJoined o) (views_of (schema_of (drop at items))) = c.loop-definition.invariant.1 whole in
      let next : AllByRecursion (IsJoined o) (views_of (schema_of (d ∷ drop (at + 1) items))) = subst (λ (ds : List Definition). AllByRecursion (IsJoined o) (views_of (schema_of ds))) split left in
      absurd (true≢false (sym (c.is_joined_of.ensures.1 (of_head (IsJoined o) (object_of d) (schema_of (drop (at + 1) items)) next)) ∙ c.if-not-is_joined_of.true))),
)

pub returns : goal.returns
returns c = (
  (λ t.
      let all = c.loop-definition.invariant.0 (subst (λ (ds : List Definition). AllByRecursion (IsJoined (schema_of c.args.catalog.now)) (views_of (schema_of ds))) (sym (drop_all c.loop-definition.definition-index c.definitions-definition-items.result.now c.loop-definition-test.false)) tt) in
      of_all (IsJoined (schema_of c.args.catalog.now)) (schema_of c.args.catalog.now)
      (subst (λ (ds : List Definition). AllByRecursion (IsJoined (schema_of c.args.catalog.now)) (views_of (schema_of ds))) c.definitions-definition-items.ensures all)),
  (λ h. refl),
)
