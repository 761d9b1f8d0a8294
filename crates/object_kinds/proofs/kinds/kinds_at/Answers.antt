use Rattle.std.proofs.Common.{◌++◌, ◌∙◌, ap, refl, slice_get}
use Rattle.std.specs.List.{filter_map}
use Rattle.std.specs.Option.{option_to_list}
use Rattle.iv_types.proofs.Walks.{all_gathered, one_filtered, walked_at}
use Rattle.object_kinds.proofs.kinds.kinds_at.Goals as goal

pub loop-index-preserved : goal.loop-index-preserved
loop-index-preserved c =
    walked_at (λ acc i places. acc ++ filter_map (slice_get c.args.kinds.now) places) _ _ _ _ _ _ (0) c.loop-index-test.true
    (one_filtered (slice_get c.args.kinds.now) c.loop-index.found _ _)
    (c.in_ok-push_kind.ensures ∙ ap (λ kind. c.loop-index.found ++ option_to_list kind) c.kind_here.ensures) c.loop-index.invariant

pub returns : goal.returns
returns c = all_gathered (filter_map (slice_get c.args.kinds.now)) _ _ _ _ c.loop-index-test.false refl c.loop-index.invariant
