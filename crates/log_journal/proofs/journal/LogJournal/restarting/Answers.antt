use Rattle.std.proofs.Common.{arith}
use Rattle.log_journal.proofs.Stands.{begun_over}
use Rattle.log_journal.proofs.journal.LogJournal.restarting.Goals as goal

pub returns-clause-carries : goal.returns-clause-carries
returns-clause-carries g c records maps =
    let few = c.requires.few in
    let least = c.requires.parts.least_area in
    begun_over g.D.Disk.is_told g.D.Disk.size_of g.D.Disk.seen g.D.Disk.may_leave
    (record { log = c.args.log; disk = c.args.disk; pages = c.args.pages; saved = c.args.saved; area = c.args.area })
    records c.args.next c.restart.new.self
    (record { parts = c.requires.parts; low_area = c.requires.low_area; header = c.requires.header; free = c.requires.free })
    maps (omega (arith, few)) (omega (arith, few)) (omega (arith, least)) c.restart.ensures
