use Rattle.std.proofs.Common.{◌+◌, ◌++◌, ◌∷◌, [], map, drop, append_assoc}
use mathlib.Core.Path.{sym, ap, ◌∙◌}
use Rattle.iv_types.specs.declared.value.Kind.TheVariants.{Huge}
use Rattle.iv_types.specs.declared.expression.ColumnAt.{ColumnAt}
use Rattle.object_kinds.proofs.KindLemmas.{one_huge}
use Rattle.object_kinds.proofs.kinds.view_kinds.Goals as goal

pub loop-preserved : goal.loop-preserved
loop-preserved c =
    let sums = c.as_slice-items.result.now in
    ap (λ ks. ks ++ map (λ (sum : ColumnAt). Huge) (drop (c.loop.index + 1) sums)) c.in_ok-push-2.ensures.ok
    ∙ (append_assoc c.loop.kinds (Huge ∷ []) (map (λ (sum : ColumnAt). Huge) (drop (c.loop.index + 1) sums))
    ∙ (ap (λ ks. c.loop.kinds ++ ks) (sym (one_huge sums c.loop.index c.loop-test.true)) ∙ c.loop.invariant))
