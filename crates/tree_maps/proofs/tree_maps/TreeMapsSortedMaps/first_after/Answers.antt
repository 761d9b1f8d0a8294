use Rattle.std.proofs.Common.{◌∙◌, sym, ap, length, ◌≤◌, arith}
use Rattle.iv_types.specs.Maps.{entry_after}
use Rattle.iv_types.specs.Maps.{Map}
use Rattle.table_store.proofs.Maps.{past_lists, empty_after}
use Rattle.tree_maps.proofs.tree_maps.TreeMapsSortedMaps.first_after.Goals as goal

pub returns-in-None : goal.returns-in-None
returns-in-None c =
    let none = c.in-None.ensures.lookup in
    let past : length c.args.self.now ≤ c.args.index = omega (arith, none.3, ap length c.deref.ensures.value, ap length c.self.view_is) in
    sym (ap (λ (m : Map). entry_after m c.args.key.now) (past_lists c.args.self.now c.args.index past) ∙ empty_after c.args.key.now)
