use Rattle.std.proofs.Common.{◌∙◌}
use Rattle.txn_machine.specs.Records.{Undo}
use Rattle.log_disk.specs.Spelled.{in_bytes}
use Rattle.core_recording.proofs.Kept as kept
use Rattle.core_recording.proofs.Keeps.{latest_kept}
use Rattle.core_recording.proofs.undoing.undo_of_latest.Goals as goal
use Rattle.core_state.specs.Stands.{its_texts}

pub open_of-txn-requires-after_bounds : goal.open_of-txn-requires-after_bounds
open_of-txn-requires-after_bounds g c κs within =
    let s = c.requires.0 in
    let it = latest_kept g.M.SortedMaps.maps g.M.SortedMaps.spare g.M.SortedMaps.limit c.args.core.now s c.args.session c.requires.1 c.requires.2.0 c.requires.2.1 in
    kept.is_open g.M.SortedMaps.maps g.M.SortedMaps.spare g.M.SortedMaps.limit c.args.core.now s.store s.log (its_texts s) c.args.session c.requires.1.holds it.0 it.1

pub latest_of-requires : goal.latest_of-requires
latest_of-requires g c =
    let s = c.requires.0 in
    let it = latest_kept g.M.SortedMaps.maps g.M.SortedMaps.spare g.M.SortedMaps.limit c.args.core.now s c.args.session c.requires.1 c.requires.2.0 c.requires.2.1 in
    kept.some_kept g.M.SortedMaps.maps g.M.SortedMaps.spare g.M.SortedMaps.limit c.args.core.now s.store s.log (its_texts s) c.args.session c.requires.1.holds it.0 it.1 c.open_of-txn.result.now c.open_of-txn.ensures

pub returns : goal.returns
returns g c = λ s h may.
    let it = latest_kept g.M.SortedMaps.maps g.M.SortedMaps.spare g.M.SortedMaps.limit c.args.core.now s c.args.session h may.0 may.1 in
    let number = kept.its_number g.M.SortedMaps.maps g.M.SortedMaps.spare g.M.SortedMaps.limit c.args.core.now s.store s.log (its_texts s) c.args.session h.holds it.0 it.1 c.open_of-txn.result.now c.open_of-txn.ensures c.latest_of.result.now c.latest_of.ensures in
    let id = kept.its_id g.M.SortedMaps.maps g.M.SortedMaps.spare g.M.SortedMaps.limit c.args.core.now s.store s.log (its_texts s) c.args.session h.holds it.0 it.1 c.open_of-txn.result.now c.open_of-txn.ensures in
    (it.1.number, it.1.numbers, it.1.logged_is, λ objects. c.undo_of.ensures objects ∙ (λ x. in_bytes objects (Undo (id x) ((c.number_of.ensures ∙ number) x))))
