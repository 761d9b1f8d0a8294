use Rattle.std.proofs.Common.{ap, arith}
use Rattle.wal_log.specs.Log.{used_by}
use Rattle.wal_log.proofs.KeptLaws.{length-behind}
use Rattle.wal_log.proofs.log.Log.used.Goals as goal

pub returns-clause-used : goal.returns-clause-used
returns-clause-used c =
    let waits = length-behind 4 c.self.inside.fill c.self.inside.buffer.items (omega arith) in
    omega (arith, waits, ap used_by c.self.view_is)
