use mathlib.Core.Path.{sym}
use Rattle.table_store.specs.Lists.{map_at}
use Rattle.iv_types.specs.declared.lock.GroupDelta.{GroupDelta}
use Rattle.txn_machine.specs.Deltas.{place_of}
use Rattle.std.specs.Prelude.{[], ◌∷◌}
use Rattle.ghost_rows.specs.Kept.{width}
use Rattle.ghost_rows.proofs.Staging.{at_place, after_pay}
use Rattle.lock_cases.proofs.pay_steps.pay.Goals as goal

pub returns-clause-kept : goal.returns-clause-kept
returns-clause-kept c = λ pays kept.
    let d : GroupDelta = c.args.delta.now in
    let opened = c.in_ok-reserve.ensures.kept pays (at_place c.args.rows.now (map_at c.args.maps.now) (place_of d) (1, 7 ∷ []) (width d) 2 pays c.requires.place c.requires.width kept) in
    let left = after_pay c.pay.result c.reserve.new.self c.pay.new.self (map_at c.args.maps.now) (map_at c.pay.new.maps) (place_of d) (width d) c.args.session d pays opened c.pay.ensures.paid c.pay.ensures.err in
    (left.0, at_place c.pay.new.self (map_at c.pay.new.maps) (1, 7 ∷ []) (place_of d) 2 (width d) left.0 (sym c.requires.place) (sym c.requires.width) left.1, left.2)
