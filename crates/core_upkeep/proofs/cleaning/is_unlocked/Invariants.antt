use Rattle.std.proofs.Common.{◌≤◌, ℕ}
use Rattle.iv_types.specs.declared.lock.LockMode.TheVariants.{Increment}
use Rattle.lock_manager.specs.Table.{Covers, HasSome, locks_of}
use Rattle.core_upkeep.proofs.cleaning.is_unlocked.Given as goal

abbrev pub invariant-loop-done : goal.invariant-loop-done
invariant-loop-done l = (k : ℕ) → 1 ≤ k → k ≤ l.done → HasSome (Covers l.view l.group Increment) (locks_of l.locks k) → ⊥
