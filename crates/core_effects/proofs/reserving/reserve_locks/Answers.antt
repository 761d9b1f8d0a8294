use Rattle.std.proofs.Common.{sym, subst}
use Rattle.core_state.specs.Stands.{Began}
use Rattle.core_effects.proofs.Reserved.{locks_began}
use Rattle.core_effects.proofs.Results.{either_way}
use Rattle.core_effects.proofs.reserving.reserve_locks.Goals as goal

pub returns-clause-began : goal.returns-clause-began
returns-clause-began g c = λ s h.
    let core = c.args.core.now in
    either_way c.reserve.result c.reserve.ensures.ok c.reserve.ensures.err
    (λ reserved. locks_began g.M.SortedMaps.maps g.M.SortedMaps.spare g.M.SortedMaps.limit core s c.args.session h c.reserve.new.self c.args.more reserved)
    (λ same. subst (λ t. Began g.M.SortedMaps.maps g.M.SortedMaps.spare g.M.SortedMaps.limit (record core { locks = t }) s c.args.session) (sym same) h)
