use Rattle.std.proofs.Common.{◌∙◌, arith}
use Rattle.page_store.specs.Image.{header_at}
use Rattle.page_store.proofs.Beginnings.{open_is, number_is}
use Rattle.page_store.proofs.find.read_start.Goals as goal

pub returns-clause-open : goal.returns-clause-open
returns-clause-open g c told =
    let laws = g.met.D.Disk in
    let s = g.D.Disk.seen c.args.disk.now in
    c.begins_open-open.ensures ∙ open_is (header_at c.args.side) s c.read.new.into (c.in_ok-read.ensures.bytes told) (omega (arith, laws.has_size told c.args.disk.now, c.requires.disk, c.requires.side))

pub returns-clause-number : goal.returns-clause-number
returns-clause-number g c told =
    let laws = g.met.D.Disk in
    let s = g.D.Disk.seen c.args.disk.now in
    c.read_u64-number.ensures ∙ number_is (header_at c.args.side) s c.read.new.into (c.in_ok-read.ensures.bytes told) (omega (arith, laws.has_size told c.args.disk.now, c.requires.disk, c.requires.side)) 8 (omega arith)
