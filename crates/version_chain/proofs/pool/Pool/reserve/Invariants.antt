use Rattle.std.proofs.Common.{◌≡◌, ◌≤◌, ◌-◌, length}
use Rattle.version_chain.specs.Trees.{items, IsMarked}
use Rattle.version_chain.proofs.pool.Pool.reserve.Given as goal

abbrev pub invariant-loop-self : goal.invariant-loop-self
invariant-loop-self g l =
    (l.initial.self-inside.room ≤ l.self-inside.room) × ((l.self-inside.room ≡ length (items l.self-inside.nodes)) × IsMarked l.self-inside.nodes)

abbrev pub decreases-loop-self : goal.decreases-loop-self
decreases-loop-self g l = l.more - l.self-inside.room
