use Rattle.std.proofs.Common.{length, ap, arith, inr}
use Rattle.lock_manager.specs.Table.{SessionLocks}
use Rattle.lock_bench.proofs.locks.ask.Goals as goal

pub request-requires-clause-reserved : goal.request-requires-clause-reserved
request-requires-clause-reserved c =
    let room = ap (λ (s : SessionLocks). s.room) c.in_ok-reserve.ensures.ok.changed in
    let same = ap length c.as_slice.ensures in
    record { new = c.args.wants; few = omega (arith, room, same, c.in-Ok.ensures); others = λ w h. inr h }
