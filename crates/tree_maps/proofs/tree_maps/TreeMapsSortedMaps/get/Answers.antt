use Rattle.std.proofs.Common.{◌∙◌, sym, ap, length, ◌≤◌, arith}
use Rattle.std.specs.FinMap.{get, get-empty}
use Rattle.iv_types.specs.Maps.{Map}
use Rattle.table_store.proofs.Maps.{past_lists, by_bytes}
use Rattle.tree_maps.proofs.tree_maps.TreeMapsSortedMaps.get.Goals as goal

pub returns-in-None : goal.returns-in-None
returns-in-None c =
    let none = c.in-None.ensures.lookup in
    let past : length c.args.self.now ≤ c.args.index = omega (arith, none.3, ap length c.deref.ensures.value, ap length c.self.view_is) in
    sym (ap (λ (m : Map). get m c.args.key.now) (past_lists c.args.self.now c.args.index past) ∙ get-empty by_bytes c.args.key.now)
