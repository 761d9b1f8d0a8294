use Rattle.std.proofs.Common.{length, ap, arith}
use Rattle.lock_manager.specs.Table.{SessionLocks}
use Rattle.lock_cases.proofs.locks.make_room.Goals as goal

pub returns : goal.returns
returns c =
    let room = ap (λ (s : SessionLocks). s.room) c.in_ok-reserve.ensures.ok.changed in
    let same = ap length c.as_slice-count.ensures in
    omega (arith, room, same)
