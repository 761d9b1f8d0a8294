use Rattle.statement_tasks.specs.Tasks.{mode_of, left_when}
use Rattle.txn_sessions.specs.Sessions.{stands}
use Rattle.txn_sessions.proofs.Works.{taken}
use Rattle.txn_sessions.proofs.session.Session.go_on.Goals as goal

pub returns-clause-comes : goal.returns-clause-comes
returns-clause-comes c =
    taken c.args.self.now.standing.mode (stands c.args.self.now) c.take.new.self (mode_of c.args.task) (left_when c.args.told c.args.task) c.next-turn.result c.next-turn.new.self c.args.made
    c.next-turn.ensures c.take.ensures.went c.take.ensures.lacks
