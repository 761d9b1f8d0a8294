use Rattle.view_server.proofs.OnDisk.{was_opened, kept_behind}
use Rattle.view_server.proofs.on_disk.run_core.Goals as goal

pub returns-clause-output : goal.returns-clause-output
returns-clause-output g c = λ p here input before e w. c.run_lines-status.ensures.output (was_opened g.D.Disk.is_told g.D.Disk.size_of g.D.Disk.seen g.D.Disk.may_leave g.D.Disk.moment g.D.Disk.left_since g.D.Disk.faults c.args.core p here) input before e w

pub returns-clause-kept : goal.returns-clause-kept
returns-clause-kept g c = λ told p here input before e w.
    kept_behind g.D.Disk.is_told g.D.Disk.size_of g.D.Disk.seen g.D.Disk.may_leave g.D.Disk.moment g.D.Disk.left_since g.D.Disk.faults c.args.core c.run_lines-status.new.engine _ c.disk_behind.ensures p here told c.run_lines-status.result input before _ c.requires.sound
    (c.run_lines-status.ensures.ends (was_opened g.D.Disk.is_told g.D.Disk.size_of g.D.Disk.seen g.D.Disk.may_leave g.D.Disk.moment g.D.Disk.left_since g.D.Disk.faults c.args.core p here) input before e w)
