use Rattle.std.proofs.Common.{◌≡◌, true, List, ℕ, sym, ap, ◌∙◌, arith}
use Rattle.txn_machine.specs.Locks.{Conflict}
use Rattle.lock_manager.specs.Order.{is_past}
use Rattle.lock_manager.proofs.Keys.{true_false}
use Rattle.lock_manager.proofs.Searches.{none_from, past_conflict}
use Rattle.lock_manager.proofs.held.meets_from.Goals as goal

pub returns-then-comes_past : goal.returns-then-comes_past
returns-then-comes_past c =
    let want = c.args.want.now in
    let lock = c.index-locks-at.result in
    let interval = lock.interval in
    let past : is_past lock.index interval.low want.index want.interval.high ≡ true =
    ap (λ (low : List ℕ). is_past lock.index low want.index want.interval.high) (sym c.as_slice.ensures) ∙ (sym c.comes_past.ensures ∙ c.if-comes_past.true) in (
      λ t. true_false (sym t),
      λ h. absurd (none_from (λ other. Conflict other want) c.args.locks.now c.loop-at.at lock c.requires.order c.loop-at.invariant (omega arith) c.index-locks-at.is (λ other up. past_conflict want lock other past up) h),
    )
