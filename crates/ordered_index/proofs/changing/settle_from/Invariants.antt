use Rattle.std.proofs.Common.{◌≡◌, ◌-◌, ◌≤◌, length}
use Rattle.ordered_index.specs.Flat.{IsForest, TightOutside, items}
use Rattle.ordered_index.proofs.changing.settle_from.Given as goal

abbrev pub invariant-loop-j : goal.invariant-loop-j
invariant-loop-j l = record {
  order : l.a ≤ l.j;
  buffer : length l.buffer ≡ 8192;
  forest : IsForest l.leaves.leaves;
  items_are : items l.leaves.leaves ≡ items l.fn.leaves.leaves;
  pages_are : l.leaves.pages ≡ l.fn.leaves.pages;
  tight : TightOutside l.a l.j l.leaves.leaves;
}

abbrev pub decreases-loop-j : goal.decreases-loop-j
decreases-loop-j l = l.j - l.a
