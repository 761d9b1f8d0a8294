use Rattle.std.proofs.Common.{refl, ◌+◌}
use Rattle.live_records.specs.Live.{what_of}
use Rattle.record_replay.specs.Past.{carrying, left_by, pages_in}
use Rattle.record_replay.proofs.Changed.{once_ok, known_there}
use Rattle.record_replay.proofs.Standing.{carried_more}
use Rattle.record_replay.proofs.replay.Replay.carry_live.Goals as goal

pub returns-clause-told : goal.returns-clause-told
returns-clause-told g c =
    let maps = g.M.SortedMaps.maps in
    let limit = g.M.SortedMaps.limit in
    let self = c.args.self.now in
    let own = c.args.own in
    once_ok c.keep.result (λ sets p first ds h r record_of.
    let there = pages_in (left_by (carrying p first ds)) in
    carried_more maps limit self p first ds h (record { store = c.set_carried.new.store; live = c.keep.new.self; commits = self.commits; next = own.number + 1 }) r own record_of
    (known_there maps limit self.store there (what_of own.change) h.store c.requires.known) c.requires.number.0 c.requires.number.1 (c.in_ok-set_carried.ensures.told there h.store) sets c.keep.ensures.ended refl refl) c.keep.ensures.kept
