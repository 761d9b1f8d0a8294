use Rattle.std.proofs.Common.{length}
use Rattle.disk_io.proofs.Moments.{first_write, write_and_sync}
use Rattle.disk_io.proofs.through.write_through.Goals as goal

pub returns-in_err-write_at-clause-any_moment : goal.returns-in_err-write_at-clause-any_moment
returns-in_err-write_at-clause-any_moment g c told only =
    let laws = g.met.D.Disk in
    first_write g.D.Disk.moment g.D.Disk.left_since g.D.Disk.may_leave laws.only_now c.args.at (length c.args.from.now) _ c.args.disk.now c.write_at.new.self (laws.has_bytes told c.args.disk.now) only c.write_at.ensures.crash c.write_at.ensures.time

pub returns-in_err-sync-clause-any_moment : goal.returns-in_err-sync-clause-any_moment
returns-in_err-sync-clause-any_moment g c told only =
    let laws = g.met.D.Disk in
    write_and_sync g.D.Disk.moment g.D.Disk.left_since g.D.Disk.may_leave laws.only_now c.args.at (length c.args.from.now) _ c.args.disk.now c.write_at.new.self c.sync.new.self (laws.has_bytes told c.args.disk.now) only c.write_at.ensures.crash c.write_at.ensures.time c.sync.ensures.crash c.sync.ensures.time

pub returns-clause-any_moment : goal.returns-clause-any_moment
returns-clause-any_moment g c told only =
    let laws = g.met.D.Disk in
    write_and_sync g.D.Disk.moment g.D.Disk.left_since g.D.Disk.may_leave laws.only_now c.args.at (length c.args.from.now) _ c.args.disk.now c.write_at.new.self c.sync.new.self (laws.has_bytes told c.args.disk.now) only c.write_at.ensures.crash c.write_at.ensures.time c.sync.ensures.crash c.sync.ensures.time
