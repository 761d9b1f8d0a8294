use Rattle.image_finding.proofs.OnlyReads.{one_read}
use Rattle.image_finding.proofs.reading.read_at.Goals as goal

pub returns-clause-only_read : goal.returns-clause-only_read
returns-clause-only_read g c =
    let laws = g.met.D.Disk in
    one_read laws.counts_now c.read.ensures.size c.read.ensures.seen c.read.ensures.crash c.read.ensures.time
