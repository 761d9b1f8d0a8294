use Rattle.std.proofs.Common.{◌+◌, ◌≤◌, IsTrue, false, refl, sym, subst}
use Rattle.txn_machine.specs.Counts.{most_of_history}
use Rattle.core_ends.proofs.Begins.{full_told, may_begin}
use Rattle.core_ends.proofs.beginning.begin_logged.Goals as goal
use Rattle.data_changes.proofs.Answered.{if_ok_as}

not_true : IsTrue false → ⊥
not_true t = absurd cc

pub open-requires-after_bounds : goal.open-requires-after_bounds
open-requires-after_bounds g c κs within =
    let h = c.requires.1 in
    let room : c.history_bytes-kept.result + 256 ≤ most_of_history = c.has_room.ensures.0 (subst IsTrue (sym c.if-not-has_room.false) refl) in
    (c.requires.0, h, c.requires.2, may_begin g.M.SortedMaps.maps g.M.SortedMaps.spare g.M.SortedMaps.limit c.args.core.now c.requires.0 c.args.session h c.requires.2.0 c.requires.2.1 c.book_law.ensures c.requires.3 (subst (λ n. n + 256 ≤ most_of_history) c.history_bytes-kept.ensures room))

pub returns-clause-told : goal.returns-clause-told
returns-clause-told g c = if_ok_as c.open.result _ _
    (λ said told s h may log. told s h may (may_begin g.M.SortedMaps.maps g.M.SortedMaps.spare g.M.SortedMaps.limit c.args.core.now s c.args.session h may.0 may.1 c.book_law.ensures log
    (subst (λ n. n + 256 ≤ most_of_history) c.history_bytes-kept.ensures (c.has_room.ensures.0 (subst IsTrue (sym c.if-not-has_room.false) refl))))) c.open.ensures.told

pub returns-then-not-has_room-clause-told : goal.returns-then-not-has_room-clause-told
returns-then-not-has_room-clause-told g c = λ s h may log. full_told g.M.SortedMaps.maps g.M.SortedMaps.spare g.M.SortedMaps.limit c.args.core.now s c.args.session h may.0 may.1 c.book_law.ensures c.history_bytes-kept.result 256 log c.history_bytes-kept.ensures refl
    (λ room. not_true (subst IsTrue c.if-not-has_room.true (c.has_room.ensures.1 room)))
