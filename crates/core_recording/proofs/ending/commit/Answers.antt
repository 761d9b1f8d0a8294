use Rattle.std.proofs.Common.{◌≡◌, true, false, sym, ap, ◌∙◌}
use mathlib.Core.Logic.{inl}
use Rattle.core_state.proofs.Sessions.{is_there, open_to_commit, some_changes, no_changes}
use Rattle.core_recording.proofs.ending.commit.Goals as goal

pub open_of-requires-after_bounds : goal.open_of-requires-after_bounds
open_of-requires-after_bounds g c κs within =
    let q = c.requires in
    is_there g.M.SortedMaps.maps g.M.SortedMaps.spare g.M.SortedMaps.limit c.args.core.now q.state c.args.session q.began (open_to_commit g.M.SortedMaps.maps g.M.SortedMaps.spare g.M.SortedMaps.limit c.args.core.now q.state c.args.session q.began q.may)

pub commit_changes-requires-after_bounds : goal.commit_changes-requires-after_bounds
commit_changes-requires-after_bounds g c κs within =
    let q = c.requires in
    let o = open_to_commit g.M.SortedMaps.maps g.M.SortedMaps.spare g.M.SortedMaps.limit c.args.core.now q.state c.args.session q.began q.may in
    (q, some_changes g.M.SortedMaps.maps g.M.SortedMaps.spare g.M.SortedMaps.limit c.args.core.now q.state c.args.session q.began o c.open_of.result.now c.book_law.ensures c.open_of.ensures c.if-open_of-gt0.true)

pub returns-then-open_of-gt0-clause-gives : goal.returns-then-open_of-gt0-clause-gives
returns-then-open_of-gt0-clause-gives g c = λ s began may.
    let o = open_to_commit g.M.SortedMaps.maps g.M.SortedMaps.spare g.M.SortedMaps.limit c.args.core.now s c.args.session began may in
    c.commit_changes.ensures.gives s began may (some_changes g.M.SortedMaps.maps g.M.SortedMaps.spare g.M.SortedMaps.limit c.args.core.now s c.args.session began o c.open_of.result.now c.book_law.ensures c.open_of.ensures c.if-open_of-gt0.true)

pub returns-then-open_of-gt0-clause-faults : goal.returns-then-open_of-gt0-clause-faults
returns-then-open_of-gt0-clause-faults g c = c.commit_changes.ensures.faults

pub returns-then-open_of-gt0-clause-rose : goal.returns-then-open_of-gt0-clause-rose
returns-then-open_of-gt0-clause-rose g c = c.commit_changes.ensures.rose

pub commit_none-requires-after_bounds : goal.commit_none-requires-after_bounds
commit_none-requires-after_bounds g c κs within =
    let q = c.requires in
    let o = open_to_commit g.M.SortedMaps.maps g.M.SortedMaps.spare g.M.SortedMaps.limit c.args.core.now q.state c.args.session q.began q.may in
    (q, no_changes g.M.SortedMaps.maps g.M.SortedMaps.spare g.M.SortedMaps.limit c.args.core.now q.state c.args.session q.began o c.open_of.result.now c.book_law.ensures c.open_of.ensures c.if-open_of-gt0.false)

pub returns-clause-gives : goal.returns-clause-gives
returns-clause-gives g c = λ s began may.
    let o = open_to_commit g.M.SortedMaps.maps g.M.SortedMaps.spare g.M.SortedMaps.limit c.args.core.now s c.args.session began may in
    inl (c.commit_none.ensures.gives s began may (no_changes g.M.SortedMaps.maps g.M.SortedMaps.spare g.M.SortedMaps.limit c.args.core.now s c.args.session began o c.open_of.result.now c.book_law.ensures c.open_of.ensures c.if-open_of-gt0.false))

pub returns-clause-faults : goal.returns-clause-faults
returns-clause-faults g c = λ fine. ap g.J.Journal.faults c.commit_none.ensures.medium

pub returns-clause-rose : goal.returns-clause-rose
returns-clause-rose g c = λ bad. let no : true ≡ false = sym bad ∙ c.commit_none.ensures.fine in absurd cc
