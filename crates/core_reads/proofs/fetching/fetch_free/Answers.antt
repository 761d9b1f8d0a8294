use Rattle.std.proofs.Common.{IsTrue, false, refl, sym, subst}
use Rattle.txn_machine.specs.Steps.{stored}
use Rattle.data_store.specs.Contents.{contents_of}
use Rattle.data_changes.proofs.Answered.{if_ok_as}
use Rattle.core_state.proofs.Sessions.{is_there, of_ready}
use Rattle.machine_answers.proofs.Found.{finds}
use Rattle.core_reads.proofs.Fetched.{readable, can_find, can_read, counts_bytes, full_told}
use Rattle.core_reads.proofs.fetching.fetch_free.Goals as goal

not_true : IsTrue false → ⊥
not_true t = absurd cc

pub open_of-requires-after_bounds : goal.open_of-requires-after_bounds
open_of-requires-after_bounds g c κs within =
    let f = c.requires.2 in
    is_there g.M.SortedMaps.maps g.M.SortedMaps.spare g.M.SortedMaps.limit c.args.core.now c.requires.0 c.args.session f.began (of_ready g.M.SortedMaps.maps g.M.SortedMaps.spare g.M.SortedMaps.limit c.args.core.now c.requires.0 c.args.session f.began f.may.0)

pub found_bytes-requires-after_bounds : goal.found_bytes-requires-after_bounds
found_bytes-requires-after_bounds g c κs within =
    can_find g.M.SortedMaps.maps g.M.SortedMaps.spare g.M.SortedMaps.limit c.args.core.now c.requires.0 c.args.session c.requires.2.began c.requires.1 c.args.index c.requires.2.may.1

pub read-requires-after_bounds : goal.read-requires-after_bounds
read-requires-after_bounds g c κs within =
    let s = c.requires.0 in
    let f = c.requires.2 in (
      s,
      c.requires.1,
      can_read g.M.SortedMaps.maps g.M.SortedMaps.spare g.M.SortedMaps.limit c.args.core.now s c.args.session c.args.index c.args.interval.now c.requires.1 c.args.wants c.in_ok-need.need f c.open_of.result.now c.open_of.ensures
          (λ rows found. c.in_ok-need.ensures (contents_of s.store) (stored s.store) rows (readable g.M.SortedMaps.maps g.M.SortedMaps.spare g.M.SortedMaps.limit c.args.core.now s c.args.session f.began) refl refl found)
          (c.has_room.ensures.0 (subst IsTrue (sym c.if-has_room.true) refl)),
    )

pub returns-then-has_room-clause-told : goal.returns-then-has_room-clause-told
returns-then-has_room-clause-told g c = if_ok_as c.read.result _ _
    (λ said told s mode f. told s mode (can_read g.M.SortedMaps.maps g.M.SortedMaps.spare g.M.SortedMaps.limit c.args.core.now s c.args.session c.args.index c.args.interval.now mode c.args.wants c.in_ok-need.need f c.open_of.result.now c.open_of.ensures
    (λ rows found. c.in_ok-need.ensures (contents_of s.store) (stored s.store) rows (readable g.M.SortedMaps.maps g.M.SortedMaps.spare g.M.SortedMaps.limit c.args.core.now s c.args.session f.began) refl refl found)
    (c.has_room.ensures.0 (subst IsTrue (sym c.if-has_room.true) refl)))) c.read.ensures.told

pub returns-clause-told : goal.returns-clause-told
returns-clause-told g c = λ s mode f.
    let there = finds s f.began.reached c.args.index c.args.interval.now in
    full_told g.M.SortedMaps.maps g.M.SortedMaps.spare g.M.SortedMaps.limit c.args.core.now s c.args.session c.args.index c.args.interval.now mode c.args.wants f c.open_of.result.now.txn_bytes c.in_ok-need.need
    (counts_bytes g.M.SortedMaps.maps g.M.SortedMaps.spare g.M.SortedMaps.limit c.args.core.now s c.args.session f.began (of_ready g.M.SortedMaps.maps g.M.SortedMaps.spare g.M.SortedMaps.limit c.args.core.now s c.args.session f.began f.may.0) c.open_of.result.now c.open_of.ensures)
    there.0 there.1
    (c.in_ok-need.ensures (contents_of s.store) (stored s.store) there.0 (readable g.M.SortedMaps.maps g.M.SortedMaps.spare g.M.SortedMaps.limit c.args.core.now s c.args.session f.began) refl refl there.1)
    (λ room. not_true (subst IsTrue c.if-has_room.false (c.has_room.ensures.1 room)))
