use Rattle.log_disk.proofs.Calling.{prefixes}
use Rattle.log_disk.proofs.calls.prefix_law.Goals as goal

pub returns : goal.returns
returns g c told =
    let laws = g.met.D.Disk in
    prefixes _ (laws.has_size told) laws.only_now (λ disk n c le may. laws.counts_now disk n c le may)
