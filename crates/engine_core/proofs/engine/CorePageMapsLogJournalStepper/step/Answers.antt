use Rattle.engine_core.proofs.OnDisk.{moves_on_disk, time_on_disk}
use Rattle.engine_core.proofs.engine.CorePageMapsLogJournalStepper.step.Goals as goal

pub returns-clause-moves : goal.returns-clause-moves
returns-clause-moves g c = λ s h asked.
    moves_on_disk g.D.Disk.is_told g.D.Disk.size_of g.D.Disk.seen g.D.Disk.may_leave g.D.Disk.moment g.D.Disk.left_since g.D.Disk.faults g.met.D.Disk.counts_now g.met.D.Disk.only_now c.args.self.now (record { state = c.do_one.new.core; journal = c.do_one.new.journal }) s c.args.step.now c.do_one.result h
    c.do_one.ensures.faults (c.do_one.ensures.recorded s h.is_in.records h.is_in.stands h.is_in.behind asked)

pub returns-clause-cause : goal.returns-clause-cause
returns-clause-cause g c = c.do_one.ensures.faults

pub returns-clause-time : goal.returns-clause-time
returns-clause-time g c = λ told s h asked.
    time_on_disk g.D.Disk.is_told g.D.Disk.size_of g.D.Disk.seen g.D.Disk.may_leave g.D.Disk.moment g.D.Disk.left_since g.D.Disk.faults g.met.D.Disk.counts_now g.met.D.Disk.only_now c.args.self.now (record { state = c.do_one.new.core; journal = c.do_one.new.journal }) s c.args.step.now c.do_one.result h
    c.do_one.ensures.faults (c.do_one.ensures.recorded s h.is_in.records h.is_in.stands h.is_in.behind asked) told
