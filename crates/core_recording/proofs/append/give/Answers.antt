use Rattle.std.proofs.Common.{refl, subst}
use Rattle.log_records.specs.Lent.{stands_for}
use Rattle.core_recording.proofs.Bytes.{short, its_number, room, given_one}
use Rattle.core_recording.proofs.append.give.Goals as goal

pub append-requires-clause-short : goal.append-requires-clause-short
append-requires-clause-short g c =
    let q = c.requires in
    short q.0 q.1 c.args.number c.args.number (stands_for c.args.lent) refl q.3 (g.J.Journal.limit c.args.journal.now) q.2 q.5

pub append-requires-clause-number : goal.append-requires-clause-number
append-requires-clause-number g c =
    let q = c.requires in
    its_number q.0 q.1 c.args.number c.args.number (stands_for c.args.lent) refl q.3 (g.J.Journal.limit c.args.journal.now) q.2 q.5

pub append-requires-clause-room : goal.append-requires-clause-room
append-requires-clause-room g c =
    let q = c.requires in
    (q.2, q.4, room q.0 q.1 c.args.number c.args.number (stands_for c.args.lent) refl q.3 (g.J.Journal.limit c.args.journal.now) q.2 q.5)

pub returns-clause-has : goal.returns-clause-has
returns-clause-has g c = λ objects r rs is has.
    subst (g.J.Journal.has c.append.new.self) (given_one objects r c.args.number c.args.number (stands_for c.args.lent) refl is rs) (c.append.ensures.has rs has)
