use Rattle.std.proofs.Common.{◌+◌, sym, subst, arith}
use Rattle.std.proofs.lemmas.Bool.{iff_false}
use Rattle.iv_types.specs.declared.session.Sessions.{Sessions}
use Rattle.wait_graph.proofs.Levels.{AreWaiting, none_waiting, more_waiting, not_waiting, all_waiting}
use Rattle.wait_graph.proofs.level.waiting_for.Goals as goal
use Rattle.wait_graph.proofs.level.waiting_for.Goals.{then-has_common, else-has_common}

pub loop-at-init : goal.loop-at-init
loop-at-init c = none_waiting c.args.waits.now c.args.waited

pub loop-at-preserved : goal.loop-at-preserved
loop-at-preserved c = elim c.if-has_common.branch [
  | then-has_common w ↦
      subst (λ (s : Sessions). AreWaiting c.args.waits.now c.args.waited (c.loop-at.at + 1) s) (sym w.waiting-is)
      (more_waiting c.args.waits.now c.args.waited c.loop-at.at c.loop-at.waiting w.with-waiting.result c.loop-at.invariant (c.has_common.ensures.0 w.if-has_common.true) w.with-waiting.ensures)
  | else-has_common w ↦
      subst (λ (s : Sessions). AreWaiting c.args.waits.now c.args.waited (c.loop-at.at + 1) s) (sym w.waiting-is)
      (not_waiting c.args.waits.now c.args.waited c.loop-at.at c.loop-at.waiting c.loop-at.invariant (iff_false c.has_common.ensures w.if-has_common.false))
]

pub returns : goal.returns
returns c = all_waiting c.args.waits.now c.args.waited c.loop-at.at c.loop-at.waiting (omega arith) c.loop-at.invariant
