use Rattle.std.proofs.Common.{List, ℕ, ◌∙◌, subst, sym}
use Rattle.image_opening.specs.Images.{IsImageIn}
use Rattle.disk_io.specs.Disk.{LeavesOnly}
use Rattle.database_opening.specs.Crashes.{disk_in, KeepsImage}
use Rattle.database_opening.proofs.Leaving.{synced_leaves, unsynced_leaves}
use Rattle.database_opening.proofs.open.open_database.Goals as goal

pub returns-in-Ok-clause-crash : goal.returns-in-Ok-clause-crash
returns-in-Ok-clause-crash g c = λ told i im.
    let same = c.sync.ensures.seen told in
    synced_leaves g.D.Disk.is_told g.D.Disk.size_of g.D.Disk.seen g.D.Disk.may_leave g.D.Disk.moment g.D.Disk.left_since g.met.D.Disk.only_now (g.D.Disk.seen c.args.disk) i c.args.disk c.sync.new.self (disk_in c.open_settled.result)
    c.in-Ok.ensures.durable c.sync.ensures.time
    (subst (λ (bytes : List ℕ). LeavesOnly g.D.Disk.moment g.D.Disk.left_since c.sync.new.self (disk_in c.open_settled.result) (KeepsImage bytes i)) same
    (c.open_settled.ensures.crash told i (subst (λ (bytes : List ℕ). IsImageIn bytes i) (sym same) im)))

pub returns-in-Err-clause-crash : goal.returns-in-Err-clause-crash
returns-in-Err-clause-crash g c = λ told i im.
    unsynced_leaves g.D.Disk.is_told g.D.Disk.size_of g.D.Disk.seen g.D.Disk.may_leave g.D.Disk.moment g.D.Disk.left_since g.met.D.Disk.only_now (g.D.Disk.seen c.args.disk) i c.args.disk c.sync.new.self c.sync.ensures.crash c.sync.ensures.time
