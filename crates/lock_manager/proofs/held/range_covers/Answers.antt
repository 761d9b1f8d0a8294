use Rattle.lock_manager.proofs.Searches.{ranges_covering}
use Rattle.lock_manager.proofs.held.range_covers.Goals as goal

pub covers_from-requires-clause-before : goal.covers_from-requires-clause-before
covers_from-requires-clause-before c = ranges_covering c.args.index c.args.key.now c.args.mode c.args.ranges.now c.count_before-start.result c.count_before-start.ensures
