use Rattle.std.proofs.Common.{None, Some, sym, subst, ◌∙◌}
use Rattle.std.specs.Option.{option_copied}
use Rattle.iv_meaning.specs.Resolving as defined
use Rattle.bind_resolve.specs.Meant.{IsMeant}
use Rattle.bind_resolve.specs.Seen.{is_called, scope_seen}
use Rattle.bind_resolve.proofs.Steps.{places_seen, when_one}
use Rattle.bind_resolve.proofs.scope.column_by.Goals as goal

pub returns-in_ok-named-in-Some : goal.returns-in_ok-named-in-Some
returns-in_ok-named-in-Some c =
    subst (λ q. IsMeant (λ place. place) c.only.result (defined.column_by (scope_seen c.args.scope.now) (option_copied q) c.args.name.now)) (sym c.in-Some.is)
    (when_one _ _ _ _ _ c.how_many_called.ensures c.if-how_many_called-eq1.true
    (subst (λ ps. IsMeant (λ place. place) c.only.result (defined.only ps c.args.name.now))
    (c.deref.ensures.value ∙ (c.in_ok-named-in-Some.ensures ∙ places_seen (is_called (Some c.in-Some.relation.now) c.args.name.now) c.args.scope.now.columns)) c.only.ensures))

pub returns-in_ok-named-in-None : goal.returns-in_ok-named-in-None
returns-in_ok-named-in-None c =
    subst (λ q. IsMeant (λ place. place) c.only-in-None.result (defined.column_by (scope_seen c.args.scope.now) (option_copied q) c.args.name.now)) (sym c.in-None.is)
    (subst (λ ps. IsMeant (λ place. place) c.only-in-None.result (defined.only ps c.args.name.now))
    (c.deref-in-None.ensures.value ∙ (c.in_ok-named-in-None.ensures ∙ places_seen (is_called None c.args.name.now) c.args.scope.now.columns)) c.only-in-None.ensures)
