use Rattle.std.proofs.Common.{List, ℕ, ◌∷◌, subst}
use Rattle.lock_manager.specs.Order.{IsCount}
use Rattle.lock_manager.proofs.Searches.{none_the_same}
use Rattle.lock_manager.proofs.held.has.Goals as goal

pub has_from-requires-clause-before : goal.has_from-requires-clause-before
has_from-requires-clause-before c =
    none_the_same c.args.want.now c.args.locks.now c.count_before-start.result
    (subst (λ (low : List ℕ). IsCount (c.args.want.now.index ∷ low) c.args.locks.now c.count_before-start.result) c.as_slice.ensures c.count_before-start.ensures)
