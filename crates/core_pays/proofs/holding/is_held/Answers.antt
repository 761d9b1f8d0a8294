use Rattle.std.proofs.Common.{◌≡◌, ◌↔◌, IsTrue, ap, subst}
use Rattle.std.specs.List.{Contains}
use Rattle.std.specs.Option.{option_copied}
use Rattle.lock_manager.specs.Table as table
use Rattle.txn_machine.specs.Steps.{group_want}
use Rattle.core_pays.specs.Holding.{IsNextWant}
use Rattle.core_pays.proofs.holding.is_held.Goals as goal

pub returns-in-Some : goal.returns-in-Some
returns-in-Some g c = λ s o h.
    let is : c.in-Some.want.now ≡ group_want o.first = subst (IsNextWant (table.locks_of c.args.core.now.locks c.args.session) o.first) (ap option_copied c.in-Some.is) (c.next_want.ensures s o h) in
    subst (λ w. IsTrue c.holds_want.result ↔ Contains (table.locks_of c.args.core.now.locks c.args.session) w) is c.holds_want.ensures
