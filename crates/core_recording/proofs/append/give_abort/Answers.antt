use Rattle.std.proofs.Common.{cond, Some, None, refl, sym, subst}
use Rattle.txn_machine.specs.Records.{Abort}
use Rattle.core_journal.specs.Records.{with_perhaps}
use Rattle.core_recording.proofs.append.give_abort.Goals as goal

pub give-requires : goal.give-requires
give-requires g c =
    let q = c.requires c.if-not-wrote.false in
    (q.0, Abort c.args.transaction, q.1, c.abort_of.ensures q.0, q.2, q.3)

pub returns-then-not-wrote-clause-has : goal.returns-then-not-wrote-clause-has
returns-then-not-wrote-clause-has g c = λ objects rs has.
    subst (λ b. g.J.Journal.has c.args.journal.now (with_perhaps objects c.args.number (cond b (Some (Abort c.args.transaction)) None) rs)) (sym c.if-not-wrote.true) has

pub returns-then-not-wrote-clause-limit : goal.returns-then-not-wrote-clause-limit
returns-then-not-wrote-clause-limit g c = refl

pub returns-then-not-wrote-clause-medium : goal.returns-then-not-wrote-clause-medium
returns-then-not-wrote-clause-medium g c = refl

pub returns-clause-has : goal.returns-clause-has
returns-clause-has g c = λ objects rs has.
    subst (λ b. g.J.Journal.has c.give.new.journal (with_perhaps objects c.args.number (cond b (Some (Abort c.args.transaction)) None) rs)) (sym c.if-not-wrote.false)
    (c.give.ensures.has objects (Abort c.args.transaction) rs (c.abort_of.ensures objects) has)

pub returns-clause-limit : goal.returns-clause-limit
returns-clause-limit g c = c.give.ensures.limit

pub returns-clause-medium : goal.returns-clause-medium
returns-clause-medium g c = c.give.ensures.medium
