use Rattle.log_disk.proofs.Calling.{one_step}
use Rattle.log_disk.proofs.calls.one_step_law.Goals as goal

pub returns : goal.returns
returns g c told =
    let laws = g.met.D.Disk in
    one_step _ (laws.has_size told) laws.only_now (λ disk n c le may. laws.counts_now disk n c le may)
