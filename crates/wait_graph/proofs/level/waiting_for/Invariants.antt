-- The sessions before this place that wait for one of these.
use Rattle.std.proofs.Common.{ℕ, ◌≤◌, ◌↔◌}
use Rattle.iv_meaning.specs.Waits.{recorded}
use Rattle.iv_types.specs.SessionSets.{Has, HaveCommon}
use Rattle.wait_graph.proofs.level.waiting_for.Given as goal

abbrev pub invariant-loop-at : goal.invariant-loop-at
invariant-loop-at l = (session : ℕ) → 1 ≤ session → Has l.waiting session ↔ ((session ≤ l.at) × HaveCommon (recorded l.waits session) l.waited)
