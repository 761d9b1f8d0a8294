use Rattle.std.proofs.Common.{◌∷◌, subst, length, ◌<◌, ◌^◌}
use Rattle.std.specs.Prelude.{reverse}
use Rattle.wal_log.specs.Log.{LogState}
use Rattle.log_journal.proofs.Stands.{flushed, flush_left}
use Rattle.log_journal.proofs.Cuts.{flush_any}
use Rattle.log_journal.proofs.journal.LogJournalJournal.flush.Goals as goal

pub returns-in-Ok-clause-ok : goal.returns-in-Ok-clause-ok
returns-in-Ok-clause-ok g c = (
  (λ records has. flushed g.D.Disk.is_told g.D.Disk.size_of g.D.Disk.seen g.D.Disk.may_leave c.args.self.now records c.flush.new.self c.reserve.new.log c.flush.new.disk has c.reserve.ensures
      c.in-Ok.ensures.size (λ told. g.met.D.Disk.has_size told c.args.self.now.disk) c.in-Ok.ensures.durable c.in-Ok.ensures.ok c.in-Ok.ensures.short c.in-Ok.ensures.holds c.in-Ok.ensures.outside),
  c.in-Ok.ensures.cause,
)

pub returns-in-Ok-clause-any_moment : goal.returns-in-Ok-clause-any_moment
returns-in-Ok-clause-any_moment g c records has told =
    flush_any g.D.Disk.is_told g.D.Disk.moment g.D.Disk.left_since g.D.Disk.size_of g.D.Disk.seen g.D.Disk.may_leave c.args.self.now
    (record { log = c.flush.new.self; disk = c.flush.new.disk; pages = c.args.self.now.pages; saved = c.args.self.now.saved; area = c.args.self.now.area }) records has
    (g.met.D.Disk.has_size told c.args.self.now.disk)
    (subst (λ (l : LogState). length l.waiting < 2 ^ 28) c.reserve.ensures c.flush.ensures.short)
    (λ told blocks. flush_left g.D.Disk.moment g.D.Disk.left_since c.args.self.now.disk c.flush.new.disk c.args.self.now.log c.reserve.new.log (g.D.Disk.seen c.args.self.now.disk) (blocks.first ∷ blocks.others) (reverse records.waiting)
    c.reserve.ensures (λ holds waits. c.flush.ensures.any_moment told (blocks.first ∷ blocks.others) (reverse records.waiting) holds waits (has.kept.header told).durable) blocks.holds has.waiting)
    told

pub returns-in-Err-clause-any_moment : goal.returns-in-Err-clause-any_moment
returns-in-Err-clause-any_moment g c records has told =
    flush_any g.D.Disk.is_told g.D.Disk.moment g.D.Disk.left_since g.D.Disk.size_of g.D.Disk.seen g.D.Disk.may_leave c.args.self.now
    (record { log = c.give_back.new.self; disk = c.flush.new.disk; pages = c.args.self.now.pages; saved = c.args.self.now.saved; area = c.args.self.now.area }) records has
    (g.met.D.Disk.has_size told c.args.self.now.disk)
    (subst (λ (l : LogState). length l.waiting < 2 ^ 28) c.reserve.ensures c.flush.ensures.short)
    (λ told blocks. flush_left g.D.Disk.moment g.D.Disk.left_since c.args.self.now.disk c.flush.new.disk c.args.self.now.log c.reserve.new.log (g.D.Disk.seen c.args.self.now.disk) (blocks.first ∷ blocks.others) (reverse records.waiting)
    c.reserve.ensures (λ holds waits. c.flush.ensures.any_moment told (blocks.first ∷ blocks.others) (reverse records.waiting) holds waits (has.kept.header told).durable) blocks.holds has.waiting)
    told
