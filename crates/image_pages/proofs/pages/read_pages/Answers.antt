use Rattle.image_pages.proofs.pages.read_pages.Goals as goal

pub returns-in-Ok-clause-pages : goal.returns-in-Ok-clause-pages
returns-in-Ok-clause-pages g c told has = c.stored.ensures.pages (g.D.Disk.seen c.args.disk.now) c.args.image.now has (c.in-Ok.ensures.found told has) (c.in-Ok.ensures.stands told has)

pub returns-in-Ok-clause-passes : goal.returns-in-Ok-clause-passes
returns-in-Ok-clause-passes g c told has = c.stored.ensures.passes (g.D.Disk.seen c.args.disk.now) c.args.image.now has (c.in-Ok.ensures.found told has) (c.in-Ok.ensures.stands told has)

pub returns-in-Ok-clause-refused : goal.returns-in-Ok-clause-refused
returns-in-Ok-clause-refused g c told has = c.stored.ensures.refused (g.D.Disk.seen c.args.disk.now) c.args.image.now has (c.in-Ok.ensures.found told has) (c.in-Ok.ensures.stands told has)
