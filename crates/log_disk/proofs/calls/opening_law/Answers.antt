use Rattle.log_disk.proofs.Calling.{opening_left}
use Rattle.log_disk.proofs.calls.opening_law.Goals as goal

pub returns : goal.returns
returns g c told =
    let laws = g.met.D.Disk in
    opening_left _ (laws.has_size told) laws.only_now (λ disk n c le may. laws.counts_now disk n c le may)
