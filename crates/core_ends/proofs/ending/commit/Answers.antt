use Rattle.core_state.proofs.Sessions.{is_there, open_to_commit, serial_to_commit, some_changes, no_changes}
use Rattle.core_ends.proofs.LogEnds.{empty_ready}
use Rattle.core_ends.proofs.ending.commit.Goals as goal

pub open_of-requires-after_bounds : goal.open_of-requires-after_bounds
open_of-requires-after_bounds g c κs within = is_there g.M.SortedMaps.maps g.M.SortedMaps.spare g.M.SortedMaps.limit c.args.core.now c.requires.0 c.args.session c.requires.1 (open_to_commit g.M.SortedMaps.maps g.M.SortedMaps.spare g.M.SortedMaps.limit c.args.core.now c.requires.0 c.args.session c.requires.1 c.requires.2)

pub commit_changes-requires-after_bounds : goal.commit_changes-requires-after_bounds
commit_changes-requires-after_bounds g c κs within =
    let s = c.requires.0 in
    let h = c.requires.1 in
    let o = open_to_commit g.M.SortedMaps.maps g.M.SortedMaps.spare g.M.SortedMaps.limit c.args.core.now s c.args.session h c.requires.2 in
    let some = some_changes g.M.SortedMaps.maps g.M.SortedMaps.spare g.M.SortedMaps.limit c.args.core.now s c.args.session h o c.open_of.result.now c.book_law.ensures c.open_of.ensures c.if-open_of-gt0.true in
    (s, h, serial_to_commit g.M.SortedMaps.maps g.M.SortedMaps.spare g.M.SortedMaps.limit c.args.core.now s c.args.session h c.requires.2 some, some)

pub returns-then-open_of-gt0 : goal.returns-then-open_of-gt0
returns-then-open_of-gt0 g c = λ s h may.
    let o = open_to_commit g.M.SortedMaps.maps g.M.SortedMaps.spare g.M.SortedMaps.limit c.args.core.now s c.args.session h may in
    let some = some_changes g.M.SortedMaps.maps g.M.SortedMaps.spare g.M.SortedMaps.limit c.args.core.now s c.args.session h o c.open_of.result.now c.book_law.ensures c.open_of.ensures c.if-open_of-gt0.true in
    c.commit_changes.ensures s h (serial_to_commit g.M.SortedMaps.maps g.M.SortedMaps.spare g.M.SortedMaps.limit c.args.core.now s c.args.session h may some) some

pub commit_none-requires-after_bounds : goal.commit_none-requires-after_bounds
commit_none-requires-after_bounds g c κs within =
    let s = c.requires.0 in
    let h = c.requires.1 in
    let none = no_changes g.M.SortedMaps.maps g.M.SortedMaps.spare g.M.SortedMaps.limit c.args.core.now s c.args.session h (open_to_commit g.M.SortedMaps.maps g.M.SortedMaps.spare g.M.SortedMaps.limit c.args.core.now s c.args.session h c.requires.2) c.open_of.result.now c.book_law.ensures c.open_of.ensures c.if-open_of-gt0.false in
    (s, h, empty_ready g.M.SortedMaps.maps g.M.SortedMaps.spare g.M.SortedMaps.limit c.args.core.now s c.args.session h c.requires.2 none)

pub returns : goal.returns
returns g c = λ s h may.
    let none = no_changes g.M.SortedMaps.maps g.M.SortedMaps.spare g.M.SortedMaps.limit c.args.core.now s c.args.session h (open_to_commit g.M.SortedMaps.maps g.M.SortedMaps.spare g.M.SortedMaps.limit c.args.core.now s c.args.session h may) c.open_of.result.now c.book_law.ensures c.open_of.ensures c.if-open_of-gt0.false in
    c.commit_none.ensures s h (empty_ready g.M.SortedMaps.maps g.M.SortedMaps.spare g.M.SortedMaps.limit c.args.core.now s c.args.session h may none)
