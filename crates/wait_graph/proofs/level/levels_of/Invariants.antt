-- The levels so far are those of their steps.
use Rattle.std.proofs.Common.{◌≡◌, length}
use Rattle.iv_meaning.specs.Waits.{recorded}
use Rattle.wait_graph.proofs.Levels.{AreLevels}
use Rattle.wait_graph.proofs.level.levels_of.Given as goal

abbrev pub invariant-loop-steps : goal.invariant-loop-steps
invariant-loop-steps l = record {
  are : AreLevels (recorded l.waits) l.requester l.steps l.levels;
  long : length l.levels ≡ 65;
}
