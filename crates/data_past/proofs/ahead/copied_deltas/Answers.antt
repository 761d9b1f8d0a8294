use Rattle.std.proofs.Common.{◌∷◌, ◌++◌, [], refl, ap, ◌∙◌}
use Rattle.iv_types.specs.declared.lock.GroupDelta.{GroupDelta}
use Rattle.iv_types.proofs.Walks.{all_gathered, gathered}
use Rattle.data_past.proofs.ahead.copied_deltas.Goals as goal

pub loop-delta-preserved : goal.loop-delta-preserved
loop-delta-preserved c =
    gathered (λ ds. ds) (c.delta-item.result ∷ []) c.loop-delta.copies.items c.push.new.self.items c.args.deltas.now c.args.deltas.now c.loop-delta.delta-index c.delta-item.result c.loop-delta-test.true c.delta-item.is refl
    (c.in_ok-push.ensures.items ∙ ap (λ (d : GroupDelta). c.loop-delta.copies.items ++ d ∷ []) c.in_ok-copied.ensures) c.loop-delta.invariant

pub returns : goal.returns
returns c = all_gathered (λ ds. ds) c.loop-delta.copies.items c.args.deltas.now c.args.deltas.now c.loop-delta.delta-index c.loop-delta-test.false refl c.loop-delta.invariant
