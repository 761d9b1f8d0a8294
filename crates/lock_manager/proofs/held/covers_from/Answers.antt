use Rattle.std.proofs.Common.{◌≡◌, ◌∷◌, true, sym, ◌∙◌, arith}
use Rattle.lock_manager.specs.Order.{is_after}
use Rattle.lock_manager.specs.Table.{Covers}
use Rattle.lock_manager.proofs.Keys.{true_false}
use Rattle.lock_manager.proofs.Searches.{none_from, after_covers}
use Rattle.lock_manager.proofs.held.covers_from.Goals as goal

pub returns-then-stands_after : goal.returns-then-stands_after
returns-then-stands_after c =
    let index = c.args.index in
    let key = c.args.key.now in
    let lock = c.index-locks-at.result in
    let after : is_after (index ∷ key) lock ≡ true = sym c.stands_after.ensures ∙ c.if-stands_after.true in (
      λ t. true_false (sym t),
      λ h. absurd (none_from (Covers index key c.args.mode) c.args.locks.now c.loop-at.at lock c.requires.order c.loop-at.invariant (omega arith) c.index-locks-at.is (λ other up. after_covers index key c.args.mode lock other after up) h),
    )
