use Rattle.std.proofs.Common.{subst}
use Rattle.image_finding.specs.Headers.{IsReadAs}
use Rattle.image_finding.proofs.live.find_live.Goals as goal

pub returns-clause-live : goal.returns-clause-live
returns-clause-live g c told =
    c.choose.ensures (g.D.Disk.seen c.args.disk.now) (c.in_ok-first.ensures.read told)
    (subst (λ b. IsReadAs 1 b c.in_ok-second.second) (c.read_header.ensures.only_read.same_bytes told) (c.in_ok-second.ensures.read told))
