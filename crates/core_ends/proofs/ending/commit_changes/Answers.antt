use Rattle.std.proofs.Common.{refl, arith, ap, ◌∙◌}
use Rattle.txn_machine.specs.Acts as act
use Rattle.txn_machine.specs.Answers as answer
use Rattle.txn_machine.specs.Store.{Commits, changes_by}
use Rattle.data_room.specs.declared.room.DataRoom.{DataRoom}
use Rattle.core_state.proofs.Sessions.{is_there, of_ready}
use Rattle.core_ends.proofs.Leaves.{left_told, commits_some}
use Rattle.core_ends.proofs.LogEnds.{keeps_many, owes_nothing}
use Rattle.core_ends.proofs.ending.commit_changes.Goals as goal

pub open_of-requires-after_bounds : goal.open_of-requires-after_bounds
open_of-requires-after_bounds g c κs within = is_there g.M.SortedMaps.maps g.M.SortedMaps.spare g.M.SortedMaps.limit c.args.core.now c.requires.0 c.args.session c.requires.1 (of_ready g.M.SortedMaps.maps g.M.SortedMaps.spare g.M.SortedMaps.limit c.args.core.now c.requires.0 c.args.session c.requires.1 c.requires.2)

pub returns : goal.returns
returns g c = λ s h r some.
    let many = keeps_many g.M.SortedMaps.maps g.M.SortedMaps.spare g.M.SortedMaps.limit c.args.core.now s c.args.session h c.open_of.result.now c.open_of.ensures (of_ready g.M.SortedMaps.maps g.M.SortedMaps.spare g.M.SortedMaps.limit c.args.core.now s c.args.session h r) in
    left_told g.M.SortedMaps.maps g.M.SortedMaps.spare g.M.SortedMaps.limit c.args.core.now c.enter_it-number.new.core c.settle.new.self c.commit.new.self s c.args.session act.Commit (answer.Committed c.enter_it-number.result) Commits h r.goes_on.of_session (c.enter_it-number.ensures.left s h r some)
    (ap (λ (d : DataRoom). d.limit) c.settle.ensures.rest) c.settle.ensures.own c.settle.ensures.others c.settle.ensures.total
    c.commit.ensures.limit (c.commit.ensures.room s.store s.log c.args.session act.Commit (owes_nothing g.M.SortedMaps.maps g.M.SortedMaps.spare g.M.SortedMaps.limit c.args.core.now s c.args.session h r) (c.len-kept.ensures ∙ (c.open_of.result.now.kept.ok.0 ∙ many)))
    (commits_some s.store c.args.session c.enter_it-number.result (changes_by s.store c.args.session) some (c.enter_it-number.ensures.number s h)) refl refl refl refl (omega arith)
