use Rattle.image_pages.proofs.filling.store_of.Goals as goal

pub returns-in-Ok-clause-pages : goal.returns-in-Ok-clause-pages
returns-in-Ok-clause-pages c bytes image from =
    c.with_rows.ensures.pages bytes image from (c.in-Ok.ensures.passes bytes image c.args.entries.entries from.found from.gathers from.parts_are from.stands)

pub returns-in-Ok-clause-passes : goal.returns-in-Ok-clause-passes
returns-in-Ok-clause-passes c bytes image from =
    c.with_rows.ensures.passes bytes image from (c.in-Ok.ensures.passes bytes image c.args.entries.entries from.found from.gathers from.parts_are from.stands)

pub returns-in-Ok-clause-refused : goal.returns-in-Ok-clause-refused
returns-in-Ok-clause-refused c bytes image from =
    c.with_rows.ensures.refused bytes image from (c.in-Ok.ensures.passes bytes image c.args.entries.entries from.found from.gathers from.parts_are from.stands)

pub returns-in-Err-clause-refused : goal.returns-in-Err-clause-refused
returns-in-Err-clause-refused c bytes image from = c.in-Err.ensures.rule bytes image c.args.entries.entries from.found from.gathers from.parts_are from.stands
