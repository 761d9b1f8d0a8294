use Rattle.std.proofs.Common.{rules, refl, sym, subst, ◌+◌}
use Rattle.live_records.specs.Live.{what_of, KeepsNothing}
use Rattle.record_replay.specs.Past.{left_by, pages_in}
use Rattle.record_replay.specs.Telling.{TellsBack, Tells}
use Rattle.record_replay.specs.declared.answer.Replayed.{Replayed}
use Rattle.record_replay.proofs.Changed.{known_here}
use Rattle.record_replay.proofs.EachKind.{undo_none, undo_other, latest_known, undo_more, undo_told}
use Rattle.record_replay.proofs.replay.Replay.undo.Goals as goal

pub returns-in_default-clause-told : goal.returns-in_default-clause-told
returns-in_default-clause-told g c = λ x h r comes.
    let maps = g.M.SortedMaps.maps in
    let limit = g.M.SortedMaps.limit in
    let self = c.args.self.now in
    let none : KeepsNothing self.live c.args.transaction = search rules in
    subst (Tells maps limit self x r) (sym c.misfit.ensures)
    (undo_none maps limit self x h c.args.head c.requires.number.0 c.requires.number.1 r c.args.transaction c.args.number comes none)

pub returns-then-latest-number-clause-told : goal.returns-then-latest-number-clause-told
returns-then-latest-number-clause-told g c = λ x h r comes.
    let maps = g.M.SortedMaps.maps in
    let limit = g.M.SortedMaps.limit in
    let self = c.args.self.now in
    subst (Tells maps limit self x r) (sym c.misfit-then-latest-number.ensures)
    (undo_other maps limit self x h c.args.head c.requires.number.0 c.requires.number.1 r c.args.transaction c.args.number comes c.in-Some.latest.now c.in-Some.ensures.latest c.if-latest-number.true)

pub reverse-requires-clause-known : goal.reverse-requires-clause-known
reverse-requires-clause-known g c κs within =
    let maps = g.M.SortedMaps.maps in
    let limit = g.M.SortedMaps.limit in
    let self = c.args.self.now in
    let q = c.requires.replayed in
    let own = c.in-Some.latest.now in
    known_here maps limit self.store (pages_in (left_by q.0)) (what_of own.change) q.1.store (latest_known maps limit self q.0 q.1 c.args.transaction own c.in-Some.ensures.latest)

pub returns-in-Passed-clause-told : goal.returns-in-Passed-clause-told
returns-in-Passed-clause-told g c = λ x h r comes.
    let maps = g.M.SortedMaps.maps in
    let limit = g.M.SortedMaps.limit in
    let self = c.args.self.now in
    let own = c.in-Some.latest.now in
    let latest = c.in-Some.ensures.latest in
    undo_more maps limit self x h c.args.head c.requires.number.0 c.requires.number.1 r c.args.transaction c.args.number comes own latest c.if-latest-number.false
    (record { store = c.reverse.new.store; live = c.drop_latest.new.live; commits = self.commits; next = c.args.head.number + 1 })
    (subst (λ (answer : Replayed). TellsBack maps limit c.reverse.new.store own (left_by x) answer) c.in-Passed.is (c.in_ok-broken.ensures.told (left_by x) h.store))
    (c.drop_latest.ensures.dropped own latest) c.drop_latest.ensures.ended refl refl

pub returns-in_default-2-clause-told : goal.returns-in_default-2-clause-told
returns-in_default-2-clause-told g c = λ x h r comes.
    let maps = g.M.SortedMaps.maps in
    let limit = g.M.SortedMaps.limit in
    let self = c.args.self.now in
    let own = c.in-Some.latest.now in
    undo_told maps limit self x h c.args.head c.requires.number.0 c.requires.number.1 r c.args.transaction c.args.number comes own c.in-Some.ensures.latest c.if-latest-number.false
    (record { store = c.reverse.new.store; live = self.live; commits = self.commits; next = self.next }) c.in_ok-broken.broken c.in_default-2.not-Passed (c.in_ok-broken.ensures.told (left_by x) h.store)
