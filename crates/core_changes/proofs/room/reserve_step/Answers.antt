use Rattle.core_changes.proofs.Roomier.{mine, step_holds}
use Rattle.core_changes.proofs.room.reserve_step.Goals as goal

pub reserve-requires-clause-txn : goal.reserve-requires-clause-txn
reserve-requires-clause-txn g c =
    let own = mine g.M.SortedMaps.maps g.M.SortedMaps.spare g.M.SortedMaps.limit c.args.core.now c.requires.held.0 c.requires.held.1 c.requires.held.2 c.requires.held.3 c.args.session c.requires.held.4 in
    (own.txn, own.there, tt)

pub returns-clause-holds : goal.returns-clause-holds
returns-clause-holds g c = λ s l texts o h. step_holds g.M.SortedMaps.maps g.M.SortedMaps.spare g.M.SortedMaps.limit c.args.core.now s l texts h c.args.session o c.reserve.new.self c.book_law.ensures c.reserve.ensures.same
