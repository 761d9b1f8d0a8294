use Rattle.std.proofs.Common.{ap, arith}
use Rattle.wal_log.specs.Log.{used_by}
use Rattle.wal_log.proofs.KeptLaws.{length-behind}
use Rattle.wal_log.proofs.log.Log.reserve.Goals as goal

pub invariant_of-self : goal.invariant_of-self
invariant_of-self c =
    let waits = length-behind 4 c.self.inside.fill c.self.inside.buffer.items (omega arith) in
    record {
      small = c.self.invariant.small;
      place = c.self.invariant.place;
      begun = c.self.invariant.begun;
      room = omega (arith, waits, ap used_by c.self.view_is);
      buffer_room = c.self.invariant.buffer_room;
      least = c.self.invariant.least;
      before = c.self.invariant.before;
      first_room = c.self.invariant.first_room;
      whole = c.self.invariant.whole;
    }
