use Rattle.std.proofs.Common.{◌≡◌, ◌-◌, ◌<◌, ◌≤◌, ◌⊎◌, length, get_or}
use Rattle.std.specs.declared.cmp.Ordering.TheVariants.{Less, Equal, Greater}
use Rattle.ordered_index.specs.Flat.{place_cmp, start}
use Rattle.ordered_index.specs.Row.{no_leaf}
use Rattle.ordered_index.proofs.finding.seek.Given as goal

abbrev pub invariant-loop-low : goal.invariant-loop-low
invariant-loop-low l = record {
  order : l.low ≤ l.high;
  inside : l.high ≤ length l.leaves.leaves;
  before : 0 < l.low → (place_cmp (start (get_or l.leaves.leaves (l.low - 1) no_leaf)) (l.of, l.key) ≡ Less) ⊎ (place_cmp (start (get_or l.leaves.leaves (l.low - 1) no_leaf)) (l.of, l.key) ≡ Equal);
  after : l.high < length l.leaves.leaves → place_cmp (start (get_or l.leaves.leaves l.high no_leaf)) (l.of, l.key) ≡ Greater;
}

abbrev pub decreases-loop-low : goal.decreases-loop-low
decreases-loop-low l = l.high - l.low
