use Rattle.std.proofs.Common.{arith}
use Rattle.lock_manager.specs.Table.{locks_of}
use Rattle.lock_manager.proofs.Ways.{none_met, more_met, all_met}
use Rattle.lock_manager.proofs.table.in_the_way.Goals as goal

pub loop-want-init : goal.loop-want-init
loop-want-init c = none_met (locks_of c.args.parts.now) c.args.session c.args.wants.now

pub loop-want-preserved : goal.loop-want-preserved
loop-want-preserved c =
    more_met (locks_of c.args.parts.now) c.args.session c.args.wants.now c.loop-want.want-index c.want-item.result c.suspects.result c.loop-want.sessions c.with_those-sessions.result (omega arith) c.want-item.is c.loop-want.invariant
    (λ other met. let lock = met.lock in c.suspects.ensures other lock.0 (c.requires.marked.marked other lock.0 lock.1) lock.2)
    c.with_those-sessions.ensures

pub returns : goal.returns
returns c = all_met (locks_of c.args.parts.now) c.args.session c.args.wants.now c.loop-want.want-index c.loop-want.sessions (omega arith) c.loop-want.invariant
