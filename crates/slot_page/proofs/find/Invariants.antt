use Rattle.std.proofs.Common.{ℕ, ◌≡◌, ◌-◌, ◌<◌, ◌≤◌, length}
use Rattle.std.specs.declared.cmp.Ordering.TheVariants.{Less, Greater}
use Rattle.slot_page.specs.Page.{entries}
use Rattle.slot_page.specs.Order.{key_cmp, key_at}
use Rattle.slot_page.proofs.find.Given as goal

abbrev pub invariant-loop-low : goal.invariant-loop-low
invariant-loop-low l = record {
  order : l.low ≤ l.high;
  inside : l.high ≤ length (entries l.page);
  below : (j : ℕ) → j < l.low → key_cmp (key_at (entries l.page) j) l.key ≡ Less;
  above : (j : ℕ) → l.high ≤ j → j < length (entries l.page) → key_cmp (key_at (entries l.page) j) l.key ≡ Greater;
}

abbrev pub decreases-loop-low : goal.decreases-loop-low
decreases-loop-low l = l.high - l.low
