use Rattle.std.proofs.Common.{◌<◌, length, ap, arith}
use Rattle.wal_log.specs.Log.{LogState}
use Rattle.wal_log.proofs.KeptLaws.{length-behind}
use Rattle.wal_log.proofs.BlockLaws.{begun_holds}
use Rattle.wal_log.proofs.log.Log.first_block.Goals as goal

pub returns-clause-short : goal.returns-clause-short
returns-clause-short c =
    let long = length-behind 5 c.self.inside.first_fill c.self.inside.first.items (omega arith) in
    omega (arith, long, ap (λ (s : LogState). length s.first) c.self.view_is)

pub returns-clause-begins : goal.returns-clause-begins
returns-clause-begins c disk es records place on_disk is =
    let inside : c.args.self.now.gate < c.args.self.now.size = omega (arith, ap (λ (s : LogState). s.gate) c.self.view_is, ap (λ (s : LogState). s.size) c.self.view_is) in
    begun_holds c.args.self.now.start c.args.self.now.gate c.args.self.now.size disk c.args.self.now.first es records place inside on_disk is
