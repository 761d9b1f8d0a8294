use Rattle.lock_manager.proofs.Searches.{range_conflicts}
use Rattle.lock_manager.proofs.held.range_meets.Goals as goal

pub meets_from-requires-clause-before : goal.meets_from-requires-clause-before
meets_from-requires-clause-before c = range_conflicts c.args.want.now c.args.ranges.now c.count_before-start.result c.count_before-start.ensures
