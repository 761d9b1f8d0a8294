use Rattle.std.proofs.Common.{rules, ◌∷◌}
use Rattle.std.proofs.lemmas.List.Sorted.{IsPartitionPoint-from_clause}
use Rattle.lock_manager.specs.Order.{is_before}
use Rattle.lock_manager.proofs.Places.{count_from, parted}
use Rattle.lock_manager.proofs.order.count_before.Goals as goal

pub returns : goal.returns
returns c =
    let facts = c.partition_point.ensures in
    let place = c.args.index ∷ c.args.low.now in
    count_from place c.args.locks.now c.partition_point.result facts.bound
    (IsPartitionPoint-from_clause (is_before place) c.args.locks.now c.partition_point.result facts.partitioned
    (parted place c.args.locks.now c.requires) (λ a r g called. search rules))
