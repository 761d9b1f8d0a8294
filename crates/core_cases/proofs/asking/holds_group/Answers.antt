use Rattle.std.proofs.Common.{rules, ◌≡◌, arith}
use Rattle.core_cases.proofs.Opened.{holding}
use Rattle.core_cases.proofs.asking.holds_group.Goals as goal
use Rattle.iv_types.specs.declared.lock.LockMode.TheVariants.{Increment}
use Rattle.lock_manager.specs.Table.{Covers, HasSome, locks_of}

pub returns : goal.returns
returns c = λ s h.
    let t = c.in_ok-txn.txn.now in
    let d = c.in_ok-delta.delta.now in
    let none : t.back ≡ 0 = omega (arith, c.if-txn-gt0.false) in
    let held : HasSome (Covers d.view d.group Increment) (locks_of c.args.core.now.locks c.args.session) = search rules in
    holding c.args.core.now s h c.args.session c.in_ok-txn.ensures.of_session t c.in_ok-txn.ensures.there c.in_ok-txn.ensures.mode c.in_ok-txn.ensures.not_lost c.in_ok-delta.ensures.owes none d c.in_ok-delta.ensures.first held
