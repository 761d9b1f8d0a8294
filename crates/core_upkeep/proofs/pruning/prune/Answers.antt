use Rattle.std.proofs.Common.{ap, ◌∙◌}
use Rattle.version_chain.specs.Versions.{above}
use Rattle.core_upkeep.proofs.Kept.{pruned_told}
use Rattle.core_upkeep.proofs.pruning.prune.Goals as goal

pub returns-clause-told : goal.returns-clause-told
returns-clause-told g c = λ s h. pruned_told g.M.SortedMaps.maps g.M.SortedMaps.spare g.M.SortedMaps.limit c.args.core.now s h c.same_room_law.ensures c.prune.new.self c.prune-2.new.self c.least_snapshot-oldest.result c.least_snapshot-oldest.ensures c.prune.ensures.versions c.prune-2.ensures.versions c.prune.ensures.room c.prune-2.ensures.room c.prune.ensures.pruned c.prune-2.ensures.pruned

pub returns-clause-rows : goal.returns-clause-rows
returns-clause-rows g c = c.prune.ensures.versions ∙ ap (λ n. above n c.args.core.now.store.row_versions.versions) c.least_snapshot-oldest.ensures

pub returns-clause-deltas : goal.returns-clause-deltas
returns-clause-deltas g c = c.prune-2.ensures.versions ∙ ap (λ n. above n c.args.core.now.store.delta_versions.versions) c.least_snapshot-oldest.ensures
