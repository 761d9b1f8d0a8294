use Rattle.std.proofs.Common.{map, sym, ◌∙◌}
use Rattle.ghost_rows.specs.Shares.{updated}
use Rattle.ghost_rows.proofs.Steps.{halfway_last, same_items, slice_get-map}
use Rattle.ghost_rows.proofs.shares.set.Goals as goal

pub returns : goal.returns
returns c =
    same_items c.loop-index.shares (map (updated c.args.new.session c.args.new.sum) c.args.shares.now) (λ i.
    halfway_last (λ j s. updated c.args.new.session c.args.new.sum s) c.args.shares.now c.loop-index.shares c.loop-index.index c.loop-index-test.false c.loop-index.invariant i
    ∙ sym (slice_get-map (updated c.args.new.session c.args.new.sum) c.args.shares.now i))
