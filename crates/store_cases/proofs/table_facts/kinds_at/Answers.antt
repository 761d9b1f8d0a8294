use Rattle.std.proofs.Common.{◌++◌, refl}
use Rattle.std.specs.Prelude.{slice_get}
use Rattle.iv_types.specs.Encoding.{kinds_of}
use Rattle.iv_types.proofs.Walks.{all_gathered, one_filtered, walked_at}
use Rattle.iv_meaning.specs.Schema.{items_at}
use Rattle.store_cases.proofs.table_facts.kinds_at.Goals as goal

pub loop-index-preserved : goal.loop-index-preserved
loop-index-preserved c =
    walked_at (λ acc i places. acc ++ items_at (kinds_of c.args.table.now) places) _ _ _ _ _ _ (0) c.loop-index-test.true
    (one_filtered (slice_get (kinds_of c.args.table.now)) c.loop-index.kinds _ _) c.in_ok-push_kind.ensures c.loop-index.invariant

pub returns : goal.returns
returns c = all_gathered (items_at (kinds_of c.args.table.now)) _ _ _ _ c.loop-index-test.false refl c.loop-index.invariant
