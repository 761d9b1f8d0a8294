use Rattle.std.proofs.Common.{refl, ap, ◌∙◌, arith}
use Rattle.txn_machine.specs.Acts as act
use Rattle.txn_machine.specs.Answers as answer
use Rattle.txn_machine.specs.Store.{Ends}
use Rattle.txn_machine.specs.Keeping.{Open, changes_of}
use Rattle.data_room.specs.declared.room.DataRoom.{DataRoom}
use Rattle.core_state.proofs.Sessions.{is_there, now_is}
use Rattle.core_ends.proofs.Leaves.{left_told}
use Rattle.core_ends.proofs.LogEnds.{empty_kept, ends_as}
use Rattle.core_ends.proofs.ending.end.Goals as goal

pub open_of-txn-requires-after_bounds : goal.open_of-txn-requires-after_bounds
open_of-txn-requires-after_bounds g c κs within = is_there g.M.SortedMaps.maps g.M.SortedMaps.spare g.M.SortedMaps.limit c.args.core.now c.requires.0 c.args.session c.requires.1 c.requires.2.0

pub settle-requires : goal.settle-requires
settle-requires g c = let is = c.requires.2.0.of_session in omega (arith, is)

pub returns : goal.returns
returns g c = λ s h may.
    let none = ap (λ (t : Open). changes_of t.kept) (now_is g.M.SortedMaps.maps g.M.SortedMaps.spare g.M.SortedMaps.limit c.args.core.now s c.args.session h may.0) ∙ ap changes_of may.1 in
    let as_it_ends = ends_as g.M.SortedMaps.maps g.M.SortedMaps.spare g.M.SortedMaps.limit c.args.core.now s c.args.session h c.open_of-txn.result.now c.open_of-txn.ensures (empty_kept g.M.SortedMaps.maps g.M.SortedMaps.spare g.M.SortedMaps.limit c.args.core.now s c.args.session h may.0 may.1) in
    left_told g.M.SortedMaps.maps g.M.SortedMaps.spare g.M.SortedMaps.limit c.args.core.now c.end_it.new.core c.settle.new.self c.free_end.new.log s c.args.session act.End answer.Ended Ends h may.0.of_session (c.end_it.ensures s h may.0 none)
    (ap (λ (d : DataRoom). d.limit) c.settle.ensures.rest) c.settle.ensures.own c.settle.ensures.others c.settle.ensures.total
    c.free_end.ensures.limit (c.free_end.ensures.room s.store s.log c.args.session act.End as_it_ends) refl refl refl refl refl (omega arith)
