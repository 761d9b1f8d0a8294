use Rattle.std.proofs.Common.{◌≡◌, ◌+◌, ◌≤◌, ◌++◌, length, reverse, vec_capacity}
use Rattle.txn_book.proofs.kept_steps.owe.Given as goal

abbrev pub invariant-loop-delta : goal.invariant-loop-delta
invariant-loop-delta l =
    (l.more.items ++ reverse l.owed.items ≡ l.initial.more.items)
    × (length l.more.items + length l.owed.items ≤ vec_capacity l.owed)
    × (vec_capacity l.owed ≡ vec_capacity l.initial.owed)

abbrev pub decreases-loop-delta : goal.decreases-loop-delta
decreases-loop-delta l = length l.more.items
