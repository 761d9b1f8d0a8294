use Rattle.std.proofs.Common.{arith}
use Rattle.std.proofs.Math.ListN.{length-set}
use Rattle.iv_types.specs.declared.session.Sessions.{Sessions}
use Rattle.txn_machine.specs.Locks.{AreInTheWay}
use Rattle.lock_manager.specs.Table.{locks_of, waiting_of}
use Rattle.lock_desk.proofs.Requests.{set_next}
use Rattle.lock_desk.proofs.asking.recorded_waits.Goals as goal

pub loop-at-preserved : goal.loop-at-preserved
loop-at-preserved c = record {
  each = set_next c.loop-at.waits c.loop-at.at c.blocked_by.result (λ k (r : Sessions). AreInTheWay (locks_of c.args.locks.now) k (waiting_of c.args.locks.now k) r)
      (omega arith) c.loop-at.invariant.each c.blocked_by.ensures;
  long = simp length-set c.loop-at.invariant.long;
}

pub returns : goal.returns
returns c = λ k is. c.loop-at.invariant.each k is.0 (omega (arith, is.1))
