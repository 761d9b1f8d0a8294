use Rattle.std.proofs.Common.{◌∷◌, [], map, ap, ◌∙◌, refl}
use Rattle.std.proofs.lemmas.List.{map_push}
use Rattle.iv_types.proofs.Walks.{gathered, all_gathered}
use Rattle.bind_resolve.specs.Seen.{names_in}
use Rattle.bind_resolve.proofs.scope.names_of.Goals as goal

pub loop-column-preserved : goal.loop-column-preserved
loop-column-preserved c =
    gathered (map (λ d. d.name)) (c.column-item.result.name ∷ []) _ _ _ _ _ c.column-item.result c.loop-column-test.true c.column-item.is refl
    (ap names_in c.in_ok-push.ensures.ok ∙ map_push (λ b. b.now) _ _) c.loop-column.invariant

pub returns : goal.returns
returns c = all_gathered (map (λ d. d.name)) _ _ _ _ c.loop-column-test.false refl c.loop-column.invariant
