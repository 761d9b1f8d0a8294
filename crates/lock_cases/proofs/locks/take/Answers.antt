use Rattle.std.proofs.Common.{◌≡◌, true, sym, ◌∙◌, inr}
use Rattle.lock_cases.proofs.locks.take.Goals as goal

pub grant-requires-clause-free : goal.grant-requires-clause-free
grant-requires-clause-free c = c.conflicts.ensures.free (λ somebody. let t : c.is_somebody.result ≡ true = c.is_somebody.ensures.1 somebody in absurd (cc (sym t ∙ c.if-is_somebody.false)))

pub grant-requires-clause-reserved : goal.grant-requires-clause-reserved
grant-requires-clause-reserved c = record { new = c.args.wants; few = c.in_ok-make_room.ensures; others = λ w h. inr h }
