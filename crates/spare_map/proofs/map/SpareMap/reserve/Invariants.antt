use Rattle.std.proofs.Common.{◌≡◌, ◌≤◌, ◌-◌, length}
use Rattle.spare_map.specs.Trees.{items}
use Rattle.spare_map.proofs.map.SpareMap.reserve.Given as goal

abbrev pub invariant-loop-self : goal.invariant-loop-self
invariant-loop-self g l =
    (l.self-inside.root ≡ l.initial.self-inside.root)
    × ((l.initial.self-inside.room ≤ l.self-inside.room) × (l.self-inside.room ≡ length (items l.self-inside.spare)))

abbrev pub decreases-loop-self : goal.decreases-loop-self
decreases-loop-self g l = l.more - l.self-inside.room
