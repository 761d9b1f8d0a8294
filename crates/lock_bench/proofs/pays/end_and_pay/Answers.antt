use mathlib.Core.Path.{sym}
use Rattle.std.specs.Prelude.{[], ◌∷◌}
use Rattle.table_store.specs.Lists.{map_at}
use Rattle.iv_types.specs.declared.lock.GroupDelta.{GroupDelta}
use Rattle.txn_machine.specs.Deltas.{place_of}
use Rattle.ghost_rows.specs.Kept.{Pays, with_pays, width}
use Rattle.ghost_rows.proofs.Staging.{at_place, after_pay}
use Rattle.lock_bench.proofs.pays.end_and_pay.Goals as goal

pub reserve-requires-clause-kept : goal.reserve-requires-clause-kept
reserve-requires-clause-kept c κs =
    let d : GroupDelta = c.args.delta.now in
    let ended : Pays = with_pays c.requires.kept.0 c.args.session [] in
    (ended, at_place c.settle.new.self (map_at c.args.maps.now) (place_of d) (1, 7 ∷ []) (width d) 2 ended c.requires.place c.requires.width (c.settle.ensures.kept (map_at c.args.maps.now) (1, 7 ∷ []) 1 c.requires.kept.0 c.requires.kept.1))

pub pay-requires-clause-kept : goal.pay-requires-clause-kept
pay-requires-clause-kept c κs =
    let d : GroupDelta = c.args.delta.now in
    let ended : Pays = with_pays c.requires.kept.0 c.args.session [] in
    let kept = at_place c.settle.new.self (map_at c.args.maps.now) (place_of d) (1, 7 ∷ []) (width d) 2 ended c.requires.place c.requires.width (c.settle.ensures.kept (map_at c.args.maps.now) (1, 7 ∷ []) 1 c.requires.kept.0 c.requires.kept.1) in
    (ended, c.in_ok-reserve.ensures.kept ended kept)

pub returns : goal.returns
returns c =
    let d : GroupDelta = c.args.delta.now in
    let ended : Pays = with_pays c.requires.kept.0 c.args.session [] in
    let kept = at_place c.settle.new.self (map_at c.args.maps.now) (place_of d) (1, 7 ∷ []) (width d) 2 ended c.requires.place c.requires.width (c.settle.ensures.kept (map_at c.args.maps.now) (1, 7 ∷ []) 1 c.requires.kept.0 c.requires.kept.1) in
    let left = after_pay c.pay.result c.reserve.new.self c.pay.new.self (map_at c.args.maps.now) (map_at c.pay.new.maps) (place_of d) (width d) c.args.session d ended (c.in_ok-reserve.ensures.kept ended kept) c.pay.ensures.paid c.pay.ensures.err in
    record { kept = (left.0, at_place c.pay.new.self (map_at c.pay.new.maps) (1, 7 ∷ []) (place_of d) 2 (width d) left.0 (sym c.requires.place) (sym c.requires.width) left.1) }
