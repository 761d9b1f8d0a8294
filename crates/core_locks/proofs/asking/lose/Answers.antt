use Rattle.core_state.proofs.Sessions.{own_txn}
use Rattle.core_locks.proofs.Asked.{lost_told}
use Rattle.core_locks.proofs.asking.lose.Goals as goal

pub lose-requires : goal.lose-requires
lose-requires g c =
    let own = own_txn g.M.SortedMaps.maps g.M.SortedMaps.spare g.M.SortedMaps.limit c.args.core.now c.requires.0 c.args.session c.requires.1 c.requires.2 in
    (own.txn, own.there, tt)

pub returns : goal.returns
returns g c = λ s a wants h o asks deadlock.
    let own = own_txn g.M.SortedMaps.maps g.M.SortedMaps.spare g.M.SortedMaps.limit c.args.core.now s c.args.session h o in
    lost_told g.M.SortedMaps.maps g.M.SortedMaps.spare g.M.SortedMaps.limit c.args.core.now s c.args.session h o a wants asks c.lose.new.self c.args.cycle own c.book_law.ensures c.same_room_law.ensures (c.lose.ensures own.txn own.there) deadlock
