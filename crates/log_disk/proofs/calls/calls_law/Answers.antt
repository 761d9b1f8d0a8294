use Rattle.log_disk.proofs.Calling.{all_calls}
use Rattle.log_disk.proofs.calls.calls_law.Goals as goal

pub returns : goal.returns
returns g c told =
    let laws = g.met.D.Disk in
    all_calls _ (laws.has_size told) laws.only_now (λ disk n c le may. laws.counts_now disk n c le may)
