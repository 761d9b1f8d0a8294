use Rattle.std.proofs.Common.{drop}
use Rattle.table_store.specs.Changes.{CanHoldEach}
use Rattle.store_cases.proofs.table_facts.can_hold_each.Given as goal

abbrev pub invariant-loop-entry : goal.invariant-loop-entry
invariant-loop-entry l = CanHoldEach (drop l.entry-index l.entries) → CanHoldEach l.entries
