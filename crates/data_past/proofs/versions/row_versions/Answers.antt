use Rattle.std.proofs.Common.{◌++◌, ◌+◌, drop, refl}
use Rattle.iv_types.proofs.Walks.{all_gathered, one_filtered, walked}
use Rattle.data_past.specs.Moves.{version_in, versions_in}
use Rattle.data_past.proofs.versions.row_versions.Goals as goal

pub loop-step-preserved : goal.loop-step-preserved
loop-step-preserved c =
    walked (λ acc i steps. acc ++ versions_in c.args.catalog.now steps) _ _ _ _ _ _ c.step-item.result c.loop-step-test.true c.step-item.is
    (one_filtered (version_in c.args.catalog.now) c.loop-step.versions.items c.step-item.result (drop (c.loop-step.step-index + 1) c.args.kept.now)) c.in_ok-add_version.ensures c.loop-step.invariant

pub returns : goal.returns
returns c = all_gathered (versions_in c.args.catalog.now) _ _ _ _ c.loop-step-test.false refl c.loop-step.invariant
