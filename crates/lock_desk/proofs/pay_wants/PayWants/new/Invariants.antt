use Rattle.std.proofs.Common.{◌≡◌, [], length}
use Rattle.std.specs.List.{AllByRecursion}
use Rattle.lock_desk.proofs.pay_wants.PayWants.new.Given as goal

abbrev pub invariant-loop : goal.invariant-loop
invariant-loop l = (length l.sessions.items ≡ l.counter) × AllByRecursion (λ ws. ws ≡ []) l.sessions.items
