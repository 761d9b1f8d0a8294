use Rattle.std.proofs.Common.{sym, subst}
use Rattle.wal_log.specs.Log.{LogState}
use Rattle.log_journal.specs.Cuts.{BearsCut}
use Rattle.log_journal.proofs.journal.LogJournalJournal.carry.Goals as goal

pub returns-clause-stands : goal.returns-clause-stands
returns-clause-stands g c x stands told =
    subst (λ (l : LogState). BearsCut l.size c.args.self.now.pages (g.D.Disk.seen c.args.self.now.disk) x) (sym c.carry.ensures.carried) (stands told)
