use Rattle.txn_machine.specs.Ghosts.{IsCleanable}
use Rattle.txn_machine.specs.State.{State}
use Rattle.core_state.specs.Stands.{Began}
use Rattle.core_upkeep.proofs.Candidates.{IsWalking, left, place_of}
use Rattle.core_upkeep.proofs.cleaning.first_cleanable.Given as goal

abbrev pub invariant-loop-next : goal.invariant-loop-next
invariant-loop-next g l = (s : State) → Began g.M.SortedMaps.maps g.M.SortedMaps.spare g.M.SortedMaps.limit l.core s 0 → IsWalking l.core.store.views.candidates (place_of l.next) (IsCleanable s.store)

abbrev pub decreases-loop-next : goal.decreases-loop-next
decreases-loop-next g l = left l.core.store.views.candidates (place_of l.next)
