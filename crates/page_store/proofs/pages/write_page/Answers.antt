use Rattle.page_store.proofs.Runs.{keeps_less, keeps_then}
use Rattle.page_store.proofs.pages.write_page.Goals as goal

pub returns-clause-crash : goal.returns-clause-crash
returns-clause-crash g c pages k s byte guards =
    let laws = g.met.D.Disk in
    let a = c.args in
    let one = keeps_less g.D.Disk.moment g.D.Disk.left_since g.D.Disk.may_leave a.room pages k s laws.only_now a.disk.now c.has_page.new.disk guards c.has_page.ensures.crash c.has_page.ensures.time in
    keeps_then g.D.Disk.moment g.D.Disk.left_since g.D.Disk.may_leave a.room pages k s a.disk.now c.has_page.new.disk c.write_slot.new.disk one (c.write_slot.ensures.crash pages k s byte one.guards)
