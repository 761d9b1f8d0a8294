use Rattle.std.proofs.Common.{refl, arith, ap}
use Rattle.txn_machine.specs.Acts as act
use Rattle.txn_machine.specs.Answers as answer
use Rattle.txn_machine.specs.Keeping.{changes_of}
use Rattle.txn_machine.specs.Store.{Ends, changes_by}
use Rattle.data_room.specs.declared.room.DataRoom.{DataRoom}
use Rattle.core_state.proofs.Sessions.{is_there}
use Rattle.core_ends.proofs.Leaves.{left_told, commits_none}
use Rattle.core_ends.proofs.LogEnds.{ends_as}
use Rattle.core_ends.proofs.ending.commit_none.Goals as goal

pub own_number-number-requires-after_bounds : goal.own_number-number-requires-after_bounds
own_number-number-requires-after_bounds g c κs within = is_there g.M.SortedMaps.maps g.M.SortedMaps.spare g.M.SortedMaps.limit c.args.core.now c.requires.0 c.args.session c.requires.1 c.requires.2.opened

pub open_of-txn-requires-after_bounds : goal.open_of-txn-requires-after_bounds
open_of-txn-requires-after_bounds g c κs within = is_there g.M.SortedMaps.maps g.M.SortedMaps.spare g.M.SortedMaps.limit c.args.core.now c.requires.0 c.args.session c.requires.1 c.requires.2.opened

pub returns : goal.returns
returns g c = λ s h empty.
    let none = ap changes_of empty.kept_is in
    let as_it_ends = ends_as g.M.SortedMaps.maps g.M.SortedMaps.spare g.M.SortedMaps.limit c.args.core.now s c.args.session h c.open_of-txn.result.now c.open_of-txn.ensures empty in
    left_told g.M.SortedMaps.maps g.M.SortedMaps.spare g.M.SortedMaps.limit c.args.core.now c.end_it.new.core c.settle.new.self c.free_end.new.log s c.args.session act.Commit (answer.Committed c.own_number-number.result) Ends h empty.opened.of_session (c.end_it.ensures s h empty.opened none)
    (ap (λ (d : DataRoom). d.limit) c.settle.ensures.rest) c.settle.ensures.own c.settle.ensures.others c.settle.ensures.total
    c.free_end.ensures.limit (c.free_end.ensures.room s.store s.log c.args.session act.Commit as_it_ends)
    (commits_none s.store c.args.session c.own_number-number.result (changes_by s.store c.args.session) none (c.own_number-number.ensures s h empty.opened)) refl refl refl refl (omega arith)
