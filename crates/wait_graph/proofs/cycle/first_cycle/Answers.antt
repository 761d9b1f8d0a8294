-- Each next member is the first that waits and leads back; the level of the steps that are left says which ones lead back.
use Rattle.std.proofs.Common.{◌≡◌, ◌+◌, ◌-◌, ◌≤◌, get_or, set, refl, arith}
use Rattle.std.proofs.Math.ListN.{replicate, length-set}
use Rattle.iv_meaning.specs.Waits.{nobody, recorded}
use Rattle.wait_graph.proofs.Cycles.{first_cycle_of_front}
use Rattle.wait_graph.proofs.Places.{zeros_behind, begun, begun_more, next_is_there, first_of_level, steps_when_done}
use Rattle.wait_graph.proofs.cycle.first_cycle.Goals as goal

pub loop-at-init : goal.loop-at-init
loop-at-init c = record {
  begun = begun (recorded c.args.waits.now) c.args.requester c.args.length (set (replicate 64 0) 0 c.args.requester) refl (zeros_behind 64 c.args.requester) c.requires.closed;
  long = refl;
  from_1 = c.requires.from_1;
  to_64 = c.requires.to_64;
}

pub first_common-last-requires : goal.first_common-last-requires
first_common-last-requires c =
    let left : c.loop-at.at + (c.args.length - c.loop-at.at) ≡ c.args.length = omega arith in
    let few : c.args.length - c.loop-at.at ≤ 64 = omega arith in
    next_is_there (recorded c.args.waits.now) c.args.requester (c.args.length - c.loop-at.at) c.loop-at.last
    (recorded c.args.waits.now c.loop-at.last) (get_or c.args.levels.now (c.args.length - c.loop-at.at) nobody) refl
    (c.requires.levels (c.args.length - c.loop-at.at) few) (c.loop-at.invariant.begun.left (c.args.length - c.loop-at.at) left)

pub loop-at-preserved : goal.loop-at-preserved
loop-at-preserved c =
    let few : c.args.length - c.loop-at.at ≤ 64 = omega arith in
    record {
      begun = begun_more (recorded c.args.waits.now) c.args.requester c.args.length c.loop-at.at c.loop-at.members c.loop-at.last c.first_common-last.result
          (omega arith) (omega arith) (omega arith) c.loop-at.invariant.begun
          (first_of_level (recorded c.args.waits.now) c.args.requester (c.args.length - c.loop-at.at) c.loop-at.last c.first_common-last.result
          (get_or c.args.levels.now (c.args.length - c.loop-at.at) nobody) (c.requires.levels (c.args.length - c.loop-at.at) few) c.first_common-last.ensures.first);
      long = simp length-set c.loop-at.invariant.long;
      from_1 = c.first_common-last.ensures.from_1;
      to_64 = c.first_common-last.ensures.to_64;
    }

pub returns-clause-first : goal.returns-clause-first
returns-clause-first c =
    first_cycle_of_front (recorded c.args.waits.now) c.loop-at.members c.args.requester c.args.length (omega arith) c.requires.one
    c.loop-at.invariant.begun.begins c.requires.shortest
    (steps_when_done (recorded c.args.waits.now) c.args.requester c.args.length c.loop-at.at c.loop-at.members c.loop-at.last (omega arith) c.loop-at.invariant.begun)
