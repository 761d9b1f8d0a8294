use Rattle.std.proofs.Common.{◌++◌, ◌+◌, drop, refl}
use Rattle.iv_types.proofs.Walks.{all_gathered, one_filtered, walked}
use Rattle.data_past.specs.Moves.{delta_in, deltas_in}
use Rattle.data_past.proofs.versions.paid_deltas.Goals as goal

pub loop-step-preserved : goal.loop-step-preserved
loop-step-preserved c =
    walked (λ acc i steps. acc ++ deltas_in steps) _ _ _ _ _ _ c.step-item.result c.loop-step-test.true c.step-item.is
    (one_filtered delta_in c.loop-step.deltas.items c.step-item.result (drop (c.loop-step.step-index + 1) c.args.kept.now)) c.in_ok-add_delta.ensures c.loop-step.invariant

pub returns : goal.returns
returns c = all_gathered deltas_in _ _ _ _ c.loop-step-test.false refl c.loop-step.invariant
