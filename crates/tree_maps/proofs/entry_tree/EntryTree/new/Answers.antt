use Rattle.std.proofs.Common.{subst, sym}
use Rattle.tree_maps.specs.Keyed.{AreOwn}
use Rattle.tree_maps.proofs.Trees.{own_none, map_of_none}
use Rattle.tree_maps.proofs.entry_tree.EntryTree.new.Goals as goal

pub invariant_of-result : goal.invariant_of-result
invariant_of-result c = subst (AreOwn c.new.result.entries) (sym c.new-2.ensures.len) (own_none c.new.result.entries c.new.ensures.entries)

pub returns : goal.returns
returns c = map_of_none c.new.result.entries c.new.ensures.entries
