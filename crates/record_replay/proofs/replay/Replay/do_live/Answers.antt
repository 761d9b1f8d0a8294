use Rattle.std.proofs.Common.{refl, sym, subst, ◌+◌}
use Rattle.live_records.specs.Live.{what_of}
use Rattle.record_replay.specs.Past.{left_by, pages_in}
use Rattle.record_replay.specs.Telling.{Does, Tells}
use Rattle.record_replay.specs.declared.answer.Tried.{Tried}
use Rattle.record_replay.specs.declared.replay.Replay.{Replay}
use Rattle.record_replay.proofs.Changed.{known_there}
use Rattle.record_replay.proofs.Standing.{kept_more, kept_out}
use Rattle.record_replay.proofs.replay.Replay.do_live.Goals as goal

pub returns-in_ok-keep-in-Done-clause-told : goal.returns-in_ok-keep-in-Done-clause-told
returns-in_ok-keep-in-Done-clause-told g c = λ x h r record_of.
    let maps = g.M.SortedMaps.maps in
    let limit = g.M.SortedMaps.limit in
    let self = c.args.self.now in
    let own = c.args.own in
    kept_more maps limit self x h r own record_of c.requires.number.0 (record { store = c.do_change.new.store; live = c.keep.new.self; commits = self.commits; next = own.number + 1 })
    (known_there maps limit self.store (pages_in (left_by x)) (what_of own.change) h.store c.requires.known) c.requires.lives c.requires.number.1
    (subst (λ (t : Tried). Does maps limit c.do_change.new.store (left_by x) (what_of own.change) t) c.in-Done.is (c.in_ok-do_change.ensures.told (left_by x) h.store))
    c.in_ok-keep-in-Done.ensures.kept c.keep.ensures.ended refl refl

pub returns-in-OutOfRange-clause-told : goal.returns-in-OutOfRange-clause-told
returns-in-OutOfRange-clause-told g c = λ x h r record_of.
    let maps = g.M.SortedMaps.maps in
    let limit = g.M.SortedMaps.limit in
    let self = c.args.self.now in
    let own = c.args.own in
    let new : Replay g.row.M.Denot = record { store = c.do_change.new.store; live = self.live; commits = self.commits; next = self.next } in
    subst (Tells maps limit new x r) (sym c.out_of_range.ensures)
    (kept_out maps limit self x h r own record_of c.requires.number.0 new
    (known_there maps limit self.store (pages_in (left_by x)) (what_of own.change) h.store c.requires.known) c.requires.lives c.requires.number.1
    (subst (λ (t : Tried). Does maps limit c.do_change.new.store (left_by x) (what_of own.change) t) c.in-OutOfRange.is (c.in_ok-do_change.ensures.told (left_by x) h.store)))
