use Rattle.std.proofs.Common.{arith}
use Rattle.table_store.proofs.Counting.{counted_none}
use Rattle.tree_maps.proofs.Holding.{held_none}
use Rattle.tree_maps.proofs.tree_maps.TreeMaps.new.Goals as goal

pub invariant_of-result : goal.invariant_of-result
invariant_of-result c = record {
  counted = counted_none c.loop.trees.items (omega (arith, c.loop.invariant.full, c.loop-test.false, c.loop.auto.counter-end)) c.loop.invariant.none;
  held = held_none c.loop.trees.items c.loop.invariant.none;
}
