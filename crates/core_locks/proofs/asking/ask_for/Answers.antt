use Rattle.core_state.proofs.Sessions.{of_ready}
use Rattle.txn_machine.specs.Store.{locks_of}
use Rattle.core_locks.specs.Asks.{others_wait}
use Rattle.core_locks.proofs.Asked.{agrees}
use Rattle.core_locks.proofs.asking.ask_for.Goals as goal

pub returns-in-Free-clause-free : goal.returns-in-Free-clause-free
returns-in-Free-clause-free g c = λ s h.
    c.in-Free.ensures (locks_of s.store) (others_wait s.waiting c.args.session) (agrees g.M.SortedMaps.maps g.M.SortedMaps.spare g.M.SortedMaps.limit c.args.core.now s c.args.session h c.requires.2.goes_on.of_session)

pub returns-in-Blocked-clause-told : goal.returns-in-Blocked-clause-told
returns-in-Blocked-clause-told g c = λ s a h r asks.
    c.wait_for.ensures s a h r asks (c.in-Blocked.ensures (locks_of s.store) (others_wait s.waiting c.args.session) (agrees g.M.SortedMaps.maps g.M.SortedMaps.spare g.M.SortedMaps.limit c.args.core.now s c.args.session h r.goes_on.of_session))

pub returns-in-Deadlock-clause-told : goal.returns-in-Deadlock-clause-told
returns-in-Deadlock-clause-told g c = λ s a h r asks.
    c.lose.ensures s a c.args.wants h (of_ready g.M.SortedMaps.maps g.M.SortedMaps.spare g.M.SortedMaps.limit c.args.core.now s c.args.session h r) asks (c.in-Deadlock.ensures (locks_of s.store) (others_wait s.waiting c.args.session) (agrees g.M.SortedMaps.maps g.M.SortedMaps.spare g.M.SortedMaps.limit c.args.core.now s c.args.session h r.goes_on.of_session))
