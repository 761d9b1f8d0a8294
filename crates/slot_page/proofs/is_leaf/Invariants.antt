use Rattle.std.proofs.Common.{ℕ, ◌<◌}
use Rattle.slot_page.specs.Page.{Lies}
use Rattle.slot_page.proofs.is_leaf.Given as goal

abbrev pub invariant-loop-i : goal.invariant-loop-i
invariant-loop-i l = (j : ℕ) → j < l.i → Lies l.page j
