use Rattle.std.proofs.Common.{sym, subst}
use Rattle.image_opening.specs.Telling.{Refuses}
use Rattle.image_opening.proofs.Opening.{found_refused}
use Rattle.image_opening.proofs.read.read_found.Goals as goal

pub returns-in-Ok-clause-opened : goal.returns-in-Ok-clause-opened
returns-in-Ok-clause-opened g c told has = c.recover.ensures.opened (g.D.Disk.seen c.args.disk.now) (g.met.D.Disk.has_bytes told c.args.disk.now) (c.in-Ok.ensures.passes told has) has (c.in-Ok.ensures.pages told has)

pub returns-in-Ok-clause-refused : goal.returns-in-Ok-clause-refused
returns-in-Ok-clause-refused g c told has = c.recover.ensures.refused (g.D.Disk.seen c.args.disk.now) (g.met.D.Disk.has_bytes told c.args.disk.now) (c.in-Ok.ensures.passes told has) has (c.in-Ok.ensures.pages told has)

pub returns-in-Err-clause-refused : goal.returns-in-Err-clause-refused
returns-in-Err-clause-refused g c told has =
    subst (Refuses (g.D.Disk.seen c.args.disk.now)) (sym c.open_fault.ensures) (found_refused (g.D.Disk.seen c.args.disk.now) c.in-Err.fault (c.in-Err.ensures.refused told has))

pub returns-in-Ok-clause-no_past : goal.returns-in-Ok-clause-no_past
returns-in-Ok-clause-no_past g c =
    c.recover.ensures.no_past (record {
      row_versions = c.in-Ok.ensures.past.0;
      delta_versions = c.in-Ok.ensures.past.1;
      row_mark = c.in-Ok.ensures.pruned.0;
      delta_mark = c.in-Ok.ensures.pruned.1;
      pending = c.in-Ok.ensures.past.2;
    })
