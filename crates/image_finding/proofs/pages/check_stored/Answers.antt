use Rattle.image_finding.specs.Headers.{as_header}
use Rattle.image_finding.proofs.Mapping.{map_passes}
use Rattle.image_finding.proofs.Outcomes.{if_ok, map_refused}
use Rattle.image_finding.proofs.pages.check_stored.Goals as goal

pub returns-in-Ok-clause-low : goal.returns-in-Ok-clause-low
returns-in-Ok-clause-low g c = if_ok c.check_pages.result _ c.in-Ok.ensures.low

pub returns-in-Ok-clause-stands : goal.returns-in-Ok-clause-stands
returns-in-Ok-clause-stands g c told is stands =
    c.check_pages.ensures.stands told is (map_passes (g.D.Disk.seen c.args.disk.now) (as_header c.args.header.now) stands c.args.map.now is c.in-Ok.ensures.low)

pub returns-in-Ok-clause-refused : goal.returns-in-Ok-clause-refused
returns-in-Ok-clause-refused g c told is stands =
    c.check_pages.ensures.refused told is (map_passes (g.D.Disk.seen c.args.disk.now) (as_header c.args.header.now) stands c.args.map.now is c.in-Ok.ensures.low)

pub returns-in-Err-clause-refused : goal.returns-in-Err-clause-refused
returns-in-Err-clause-refused g c told is stands = map_refused (g.D.Disk.seen c.args.disk.now) (as_header c.args.header.now) stands c.args.map.now is c.in-Err.bad c.in-Err.ensures.high
