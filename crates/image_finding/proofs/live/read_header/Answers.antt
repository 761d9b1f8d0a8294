use Rattle.std.proofs.Common.{sym, ◌∙◌, arith}
use Rattle.image_finding.proofs.Heading.{opened}
use Rattle.image_finding.proofs.live.read_header.Goals as goal

pub returns-clause-read : goal.returns-clause-read
returns-clause-read g c told =
    let laws = g.met.D.Disk in
    opened c.args.side (g.D.Disk.seen c.args.disk.now) c.read_at.new.into c.fields_of.result
    (omega (arith, laws.has_size told c.args.disk.now, c.size.ensures, c.if-size-place.false))
    (c.in_ok-read_at.ensures.bytes told) (sym c.begins_open.ensures ∙ c.if-not-begins_open.false) c.fields_of.ensures
