use Rattle.std.proofs.Common.{subst}
use Rattle.group_replay.specs.Adding.{Tells}
use Rattle.record_replay.specs.Past.{pages_in}
use Rattle.record_replay.specs.Standing.{contents_of}
use Rattle.record_replay.proofs.Changed.{limited, does_add, no_row, out_there}
use Rattle.record_replay.proofs.Texts.{told_in, told_closed}
use Rattle.record_replay.proofs.changing.add.Goals as goal

pub add_delta-requires-clause-limited : goal.add_delta-requires-clause-limited
add_delta-requires-clause-limited g c κs within =
    let q = c.requires.has in
    limited g.M.SortedMaps.maps g.M.SortedMaps.limit c.args.store.now (pages_in q.0) q.1

pub returns-in-Added-clause-told : goal.returns-in-Added-clause-told
returns-in-Added-clause-told g c = λ s h.
    does_add g.M.SortedMaps.maps g.M.SortedMaps.limit c.args.store.now c.add_delta.new.store c.add_delta.ensures.limit s h c.args.delta.now c.requires.known c.add_delta.ensures.rest
    (subst (λ answer. Tells s.view c.args.delta.now answer) c.in-Added.is (c.in_ok-add_delta.ensures.told (contents_of (pages_in s)) h.closed))
    (c.in_ok-add_delta.ensures.added c.in-Added.is (told_in g.M.SortedMaps.maps c.args.store.now (pages_in s)) (told_closed g.M.SortedMaps.maps g.M.SortedMaps.limit c.args.store.now (pages_in s) h))

pub returns-in-NoRow-clause-told : goal.returns-in-NoRow-clause-told
returns-in-NoRow-clause-told g c = λ s h.
    no_row g.M.SortedMaps.maps g.M.SortedMaps.limit c.args.store.now c.add_delta.new.store s c.args.delta.now
    (subst (λ answer. Tells s.view c.args.delta.now answer) c.in-NoRow.is (c.in_ok-add_delta.ensures.told (contents_of (pages_in s)) h.closed))

pub returns-in-OutOfRange-clause-told : goal.returns-in-OutOfRange-clause-told
returns-in-OutOfRange-clause-told g c = λ s h.
    out_there g.M.SortedMaps.maps g.M.SortedMaps.limit c.args.store.now c.add_delta.new.store s c.args.delta.now
    (subst (λ answer. Tells s.view c.args.delta.now answer) c.in-OutOfRange.is (c.in_ok-add_delta.ensures.told (contents_of (pages_in s)) h.closed))

pub returns-in-Added-clause-texts : goal.returns-in-Added-clause-texts
returns-in-Added-clause-texts g c =
    let maps = g.M.SortedMaps.maps in
    let store = c.args.store.now in
    let q = c.requires.has in
    (c.in_ok-add_delta.ensures.added c.in-Added.is (told_in maps store (pages_in q.0)) (told_closed maps g.M.SortedMaps.limit store (pages_in q.0) q.1)).held.texts
