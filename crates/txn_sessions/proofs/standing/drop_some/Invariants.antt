use Rattle.std.proofs.Common.{◌≡◌, drop}
use Rattle.txn_sessions.proofs.standing.drop_some.Given as goal

abbrev pub invariant-loop : goal.invariant-loop
invariant-loop l = l.saved.items ≡ drop l.counter l.fn.saved.items
