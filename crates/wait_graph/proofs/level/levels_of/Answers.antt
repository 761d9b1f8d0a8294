use Rattle.std.proofs.Common.{set, refl, arith}
use Rattle.std.proofs.Math.ListN.{replicate, length-set}
use Rattle.iv_meaning.specs.Waits.{nobody, recorded}
use Rattle.wait_graph.proofs.Levels.{first_levels, more_levels}
use Rattle.wait_graph.proofs.level.levels_of.Goals as goal

pub loop-steps-init : goal.loop-steps-init
loop-steps-init c = record {
  are = first_levels (recorded c.args.waits.now) c.args.requester (set (replicate 65 nobody) 0 c.with.result) c.with.result refl c.with.ensures;
  long = refl;
}

pub loop-steps-preserved : goal.loop-steps-preserved
loop-steps-preserved c = record {
  are = more_levels (recorded c.args.waits.now) c.args.requester c.loop-steps.steps c.loop-steps.levels c.waiting_for.result (omega arith) (omega arith) c.loop-steps.invariant.are c.waiting_for.ensures;
  long = simp length-set c.loop-steps.invariant.long;
}
