use Rattle.std.proofs.Common.{◌++◌, ◌∷◌, ◌∙◌, [], ap, refl}
use Rattle.iv_types.proofs.Walks.{all_gathered, gathered}
use Rattle.iv_types.proofs.catalog_copy.copied_names.Goals as goal

pub loop-name-preserved : goal.loop-name-preserved
loop-name-preserved c =
    gathered (λ zs. zs) (c.name-item.result ∷ []) _ _ _ _ _ c.name-item.result c.loop-name-test.true c.name-item.is refl (c.in_ok-push.ensures.ok ∙ ap (λ x. c.loop-name.copy ++ x ∷ []) c.in_ok-copied.ensures) c.loop-name.invariant

pub returns : goal.returns
returns c = all_gathered (λ zs. zs) _ _ _ _ c.loop-name-test.false refl c.loop-name.invariant
