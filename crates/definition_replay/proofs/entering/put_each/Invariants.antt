use Rattle.std.proofs.Common.{◌≡◌, length}
use Rattle.table_store.proofs.Filled.{Filling}
use Rattle.definition_replay.proofs.entering.put_each.Given as goal

-- room for all of them is told of, for it is made as each is put in
abbrev pub invariant-loop-key : goal.invariant-loop-key
invariant-loop-key g l = record {
  filling : Filling l.fn.index l.fn.entries (g.M.SortedMaps.maps l.fn.maps) (g.M.SortedMaps.maps l.maps) (λ _. length l.fn.entries) (λ _. length l.fn.entries) (g.M.SortedMaps.limit l.fn.maps) l.left.items;
  limit : g.M.SortedMaps.limit l.maps ≡ g.M.SortedMaps.limit l.fn.maps;
}

abbrev pub decreases-loop-key : goal.decreases-loop-key
decreases-loop-key g l = length l.left.items
