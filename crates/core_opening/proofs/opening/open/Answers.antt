use Rattle.core_opening.proofs.Opened.{stands}
use Rattle.core_opening.proofs.opening.open.Goals as goal

pub returns-clause-stands : goal.returns-clause-stands
returns-clause-stands g c = λ opening db view can.
    stands g.M.SortedMaps.maps g.M.SortedMaps.spare g.M.SortedMaps.limit c.args.store c.args.log c.args.most c.args.number c.args.next opening db view can
    c.args.store.alloc c.in_ok-seats.field-0 c.in_ok-seats.ensures c.prune.new.self c.prune-2.new.self
    c.prune.ensures.versions c.prune-2.ensures.versions c.prune.ensures.pruned c.prune-2.ensures.pruned

pub new-requires-clause-log : goal.new-requires-clause-log
new-requires-clause-log g c = c.requires.stands.3.least

pub new-requires-clause-number : goal.new-requires-clause-number
new-requires-clause-number g c = c.requires.stands.3.few
