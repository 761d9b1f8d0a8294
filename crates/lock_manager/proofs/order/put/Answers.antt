use Rattle.std.proofs.Common.{◌∷◌, [], List, ℕ, subst, sym, arith}
use Rattle.iv_types.specs.declared.lock.Want.{Want}
use Rattle.lock_manager.specs.Order.{IsCount, AreInOrder, place_of}
use Rattle.lock_manager.specs.Table.{HasGained}
use Rattle.lock_manager.proofs.Gains.{gained_inserted}
use Rattle.lock_manager.proofs.Places.{count_within, inserted_in_order}
use Rattle.lock_manager.proofs.order.put.Goals as goal

pub insert-requires : goal.insert-requires
insert-requires c = omega (arith, count_within (c.args.lock.index ∷ c.as_slice.result.now) c.deref.result.now c.count_before-at.result c.count_before-at.ensures, c.deref.ensures.len)

pub returns-clause-gained : goal.returns-clause-gained
returns-clause-gained c =
    let locks = c.args.locks.now.items in
    subst (HasGained locks (c.args.lock ∷ [])) (sym c.in-Ok.ensures.items) (gained_inserted c.args.lock locks c.count_before-at.result)

pub returns-clause-order : goal.returns-clause-order
returns-clause-order c =
    let locks = c.args.locks.now.items in
    let at = c.count_before-at.result in
    let here : IsCount (c.args.lock.index ∷ c.as_slice.result.now) locks at = subst (λ (l : List Want). IsCount (c.args.lock.index ∷ c.as_slice.result.now) l at) c.deref.ensures.value c.count_before-at.ensures in
    let place : IsCount (place_of c.args.lock) locks at = subst (λ (low : List ℕ). IsCount (c.args.lock.index ∷ low) locks at) c.as_slice.ensures here in
    subst AreInOrder (sym c.in-Ok.ensures.items) (inserted_in_order c.args.lock locks at c.requires.order place)
