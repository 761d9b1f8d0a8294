use Rattle.std.proofs.Common.{◌≡◌, ◌∷◌, true, List, ℕ, sym, ◌∙◌, ap, arith}
use Rattle.lock_manager.specs.Order.{is_after, place_of}
use Rattle.lock_manager.proofs.Keys.{true_false}
use Rattle.lock_manager.proofs.Searches.{none_from, after_same}
use Rattle.lock_manager.proofs.held.has_from.Goals as goal

pub returns-then-stands_after : goal.returns-then-stands_after
returns-then-stands_after c =
    let want = c.args.want.now in
    let lock = c.index-locks-at.result in
    let after : is_after (place_of want) lock ≡ true = ap (λ (low : List ℕ). is_after (want.index ∷ low) lock) (sym c.as_slice.ensures) ∙ (sym c.stands_after.ensures ∙ c.if-stands_after.true) in (
      λ t. true_false (sym t),
      λ h. absurd (none_from (λ other. other ≡ want) c.args.locks.now c.loop-at.at lock c.requires.order c.loop-at.invariant (omega arith) c.index-locks-at.is (λ other up. after_same want lock other after up) h),
    )
