use Rattle.std.proofs.Common.{inr}
use Rattle.lock_cases.proofs.locks.ask.Goals as goal

pub request-requires-clause-reserved : goal.request-requires-clause-reserved
request-requires-clause-reserved c = record { new = c.args.wants; few = c.in_ok-make_room.ensures; others = λ w h. inr h }
