use Rattle.std.proofs.Common.{rules, ◌≡◌, ◌≢◌, [], arith}
use Rattle.core_cases.proofs.Opened.{owing}
use Rattle.core_cases.proofs.asking.owes.Goals as goal

pub returns : goal.returns
returns c = λ s h.
    let t = c.in_ok-txn.txn.now in
    let some : t.owed.items ≢ [] = search rules in
    let none : t.back ≡ 0 = omega (arith, c.if-txn-gt0.false) in
    owing c.args.core.now s h c.args.session c.in_ok-txn.ensures.of_session t c.in_ok-txn.ensures.there c.in_ok-txn.ensures.mode c.in_ok-txn.ensures.not_lost some none
