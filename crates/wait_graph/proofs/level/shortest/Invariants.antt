-- No level before this one has the session.
use Rattle.std.proofs.Common.{ℕ, ◌≤◌, ◌<◌, get_or}
use Rattle.iv_meaning.specs.Waits.{nobody}
use Rattle.iv_types.specs.SessionSets.{Has}
use Rattle.wait_graph.proofs.level.shortest.Given as goal

abbrev pub invariant-loop-total : goal.invariant-loop-total
invariant-loop-total l = (steps : ℕ) → 1 ≤ steps → steps < l.total → Has (get_or l.levels steps nobody) l.session → ⊥
