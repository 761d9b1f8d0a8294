use Rattle.std.proofs.Common.{◌≤◌, arith, ap, subst, length}
use Rattle.table_store.proofs.Maps.{past_lists}
use Rattle.tree_maps.specs.Holding.{AreHeld}
use Rattle.tree_maps.proofs.tree_maps.TreeMaps.maps_law.Goals as goal

pub returns-clause-held : goal.returns-clause-held
returns-clause-held c = subst AreHeld c.self.view_is c.self.invariant.held

pub returns-clause-beyond : goal.returns-clause-beyond
returns-clause-beyond c = λ index past.
    let within : length c.args.self.now ≤ index = omega (arith, past, c.self.invariant.counted.all, ap length c.self.view_is) in
    past_lists c.args.self.now index within
