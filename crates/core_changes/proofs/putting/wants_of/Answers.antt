use Rattle.std.proofs.Common.{◌++◌, ◌+◌, [], ◌∷◌, map, drop, refl, sym, ap, ◌∙◌, append_assoc}
use Rattle.iv_types.proofs.Walks.{all_gathered, walked}
use Rattle.txn_machine.specs.Steps.{group_want}
use Rattle.core_changes.proofs.putting.wants_of.Goals as goal

pub loop-delta-preserved : goal.loop-delta-preserved
loop-delta-preserved c =
    walked (λ acc i ds. acc ++ map (λ d. group_want d ∷ []) ds) _ _ _ _ _ _ c.delta-item.result c.loop-delta-test.true c.delta-item.is
    (sym (append_assoc c.loop-delta.wants.items ((group_want c.delta-item.result ∷ []) ∷ []) (map (λ d. group_want d ∷ []) (drop (c.loop-delta.delta-index + 1) c.args.owed.now))))
    (c.in_ok-push.ensures.items ∙ ap (λ w. c.loop-delta.wants.items ++ w ∷ []) c.in_ok-want_of.ensures) c.loop-delta.invariant

pub returns : goal.returns
returns c = all_gathered (map (λ d. group_want d ∷ [])) _ _ _ _ c.loop-delta-test.false refl c.loop-delta.invariant
