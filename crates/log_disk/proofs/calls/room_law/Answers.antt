use Rattle.log_disk.proofs.Calling.{standing}
use Rattle.log_disk.proofs.Rooming.{room_is}
use Rattle.log_disk.proofs.calls.room_law.Goals as goal

pub returns : goal.returns
returns g c told =
    let laws = g.met.D.Disk in
    room_is _ (standing _ (laws.has_size told) laws.only_now (λ disk n c le may. laws.counts_now disk n c le may))
