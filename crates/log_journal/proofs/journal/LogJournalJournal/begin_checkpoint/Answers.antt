use Rattle.std.proofs.Common.{arith, sym, subst}
use Rattle.wal_log.specs.Log.{LogState}
use Rattle.core_journal.specs.Cuts.{cut_of}
use Rattle.log_journal.specs.Cuts.{BearsCut}
use Rattle.log_journal.proofs.Cuts.{stands_now}
use Rattle.log_journal.proofs.Stands.{restarts}
use Rattle.log_journal.proofs.journal.LogJournalJournal.begin_checkpoint.Goals as goal

pub returns-clause-carries : goal.returns-clause-carries
returns-clause-carries g c records has =
    restarts _ _ _ _ c.args.self.now records c.args.next c.restart.new.self has (omega (arith, c.requires.few.1.saves, c.requires.few.2)) c.requires.few.3 c.restart.ensures

pub returns-clause-stands : goal.returns-clause-stands
returns-clause-stands g c rs has told =
    subst (λ (l : LogState). BearsCut l.size c.args.self.now.pages (g.D.Disk.seen c.args.self.now.disk) (cut_of rs)) (sym c.restart.ensures)
    (stands_now g.D.Disk.is_told g.D.Disk.size_of g.D.Disk.seen g.D.Disk.may_leave c.args.self.now rs has told)
