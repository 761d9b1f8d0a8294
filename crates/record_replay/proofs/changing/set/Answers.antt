use Rattle.txn_machine.specs.RowChanges.{row_change}
use Rattle.record_replay.specs.Past.{pages_in}
use Rattle.record_replay.specs.Standing.{contents_of}
use Rattle.record_replay.proofs.Changed.{limited, does_set}
use Rattle.record_replay.proofs.Texts.{told_in, told_closed}
use Rattle.record_replay.proofs.changing.set.Goals as goal

pub set_row-requires-clause-limited : goal.set_row-requires-clause-limited
set_row-requires-clause-limited g c κs within =
    let q = c.requires.has in
    limited g.M.SortedMaps.maps g.M.SortedMaps.limit c.args.store.now (pages_in q.0) q.1

pub returns-then-branch-clause-told : goal.returns-then-branch-clause-told
returns-then-branch-clause-told g c = λ s h.
    does_set g.M.SortedMaps.maps g.M.SortedMaps.limit c.args.store.now c.set_row.new.store c.set_row.ensures.limit s h (row_change c.args.change.now) c.requires.known c.set_row.ensures.rest
    (c.in_ok-set_row.ensures.stands c.if-branch.true (told_in g.M.SortedMaps.maps c.args.store.now (pages_in s)) (told_closed g.M.SortedMaps.maps g.M.SortedMaps.limit c.args.store.now (pages_in s) h).held)

pub returns-else-branch-clause-told : goal.returns-else-branch-clause-told
returns-else-branch-clause-told g c = λ s h stands. c.in_ok-set_row.ensures.other c.if-branch.false (contents_of (pages_in s)) h.closed.held stands

pub returns-then-branch-clause-texts : goal.returns-then-branch-clause-texts
returns-then-branch-clause-texts g c =
    let maps = g.M.SortedMaps.maps in
    let store = c.args.store.now in
    let q = c.requires.has in
    (c.in_ok-set_row.ensures.stands c.if-branch.true (told_in maps store (pages_in q.0)) (told_closed maps g.M.SortedMaps.limit store (pages_in q.0) q.1).held).1.texts
