use Rattle.std.proofs.Common.{◌<◌, ◌∙◌, arith}
use Rattle.disk_io.specs.Disk.{part}
use Rattle.image_finding.proofs.Outcomes.{slot_read}
use Rattle.image_finding.proofs.pages.read_slot.Goals as goal

pub returns-clause-page : goal.returns-clause-page
returns-clause-page g c told =
    let s = g.D.Disk.seen c.args.disk.now in
    let some : 0 < c.args.byte = omega arith in
    slot_read c.args.area_bytes c.args.n c.args.byte s c.read_at.new.into some (c.in_ok-read_at.ensures.bytes told ∙ (λ t. part (c.slot_place.ensures t) (c.requires.into t) s))
