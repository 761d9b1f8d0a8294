use mathlib.Core.Path.{sym, ◌∙◌}
use Rattle.std.specs.Prelude.{[], ◌∷◌}
use Rattle.table_store.specs.Lists.{map_at}
use Rattle.iv_types.specs.declared.lock.GroupDelta.{GroupDelta}
use Rattle.txn_machine.specs.Deltas.{place_of}
use Rattle.ghost_rows.specs.Kept.{Pays, with_pays, width}
use Rattle.ghost_rows.proofs.RowLemmas.{pays_here}
use Rattle.ghost_rows.proofs.Staging.{at_place}
use Rattle.lock_cases.proofs.pays.pay_and_take_back.Goals as goal

pub others_pay-requires : goal.others_pay-requires
others_pay-requires c =
    let d : GroupDelta = c.args.delta.now in
    let before : Pays = c.requires.kept.0 in
    let opened = c.in_ok-reserve.ensures.kept before (at_place c.args.rows.now (map_at c.args.maps.now) (place_of d) (1, 7 ∷ []) (width d) 2 before c.requires.place c.requires.width c.requires.kept.1) in
    let paid : Pays = with_pays before c.args.session (d ∷ before c.args.session) in
    record {
      kept = (paid, at_place c.pay.new.self (map_at c.pay.new.maps) (1, 7 ∷ []) (place_of d) 2 (width d) paid (sym c.requires.place) (sym c.requires.width) (c.in-Ok.ensures.paid before opened));
    }

pub take_back-requires-clause-kept : goal.take_back-requires-clause-kept
take_back-requires-clause-kept c κs =
    let d : GroupDelta = c.args.delta.now in
    let before : Pays = c.requires.kept.0 in
    let opened = c.in_ok-reserve.ensures.kept before (at_place c.args.rows.now (map_at c.args.maps.now) (place_of d) (1, 7 ∷ []) (width d) 2 before c.requires.place c.requires.width c.requires.kept.1) in
    let paid : Pays = with_pays before c.args.session (d ∷ before c.args.session) in
    let left = c.in_ok-others_pay-in-Ok.ensures.kept paid (at_place c.pay.new.self (map_at c.pay.new.maps) (1, 7 ∷ []) (place_of d) 2 (width d) paid (sym c.requires.place) (sym c.requires.width) (c.in-Ok.ensures.paid before opened)) in (
      left.0,
      at_place c.others_pay.new.rows (map_at c.others_pay.new.maps) (place_of d) (1, 7 ∷ []) (width d) 2 left.0 c.requires.place c.requires.width left.1,
      record { earlier = before c.args.session; latest = left.2 ∙ pays_here before c.args.session (d ∷ before c.args.session); prefixes = c.in-Ok.ensures.before before opened },
    )

pub returns : goal.returns
returns c =
    let d : GroupDelta = c.args.delta.now in
    let before : Pays = c.requires.kept.0 in
    let opened = c.in_ok-reserve.ensures.kept before (at_place c.args.rows.now (map_at c.args.maps.now) (place_of d) (1, 7 ∷ []) (width d) 2 before c.requires.place c.requires.width c.requires.kept.1) in
    let paid : Pays = with_pays before c.args.session (d ∷ before c.args.session) in
    let left = c.in_ok-others_pay-in-Ok.ensures.kept paid (at_place c.pay.new.self (map_at c.pay.new.maps) (1, 7 ∷ []) (place_of d) 2 (width d) paid (sym c.requires.place) (sym c.requires.width) (c.in-Ok.ensures.paid before opened)) in
    let after : Pays = with_pays left.0 c.args.session (before c.args.session) in
    record {
      kept = (
        after,
        at_place c.take_back.new.self (map_at c.take_back.new.maps) (1, 7 ∷ []) (place_of d) 2 (width d) after (sym c.requires.place) (sym c.requires.width)
            (c.take_back.ensures.taken left.0 (before c.args.session) (at_place c.others_pay.new.rows (map_at c.others_pay.new.maps) (place_of d) (1, 7 ∷ []) (width d) 2 left.0 c.requires.place c.requires.width left.1)
            (left.2 ∙ pays_here before c.args.session (d ∷ before c.args.session)) (c.in-Ok.ensures.before before opened)),
      );
    }
