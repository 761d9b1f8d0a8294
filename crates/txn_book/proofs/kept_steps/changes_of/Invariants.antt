use Rattle.std.proofs.Common.{◌≡◌, ◌+◌, ◌≤◌, ◌++◌, length, reverse, vec_capacity}
use Rattle.txn_book.specs.Txns.{changes_in}
use Rattle.txn_book.proofs.kept_steps.changes_of.Given as goal

abbrev pub invariant-loop-step : goal.invariant-loop-step
invariant-loop-step l =
    (l.entry.items ++ changes_in (reverse l.kept.items) ≡ changes_in (reverse l.initial.kept.items))
    × (length l.entry.items + length (changes_in (reverse l.kept.items)) ≤ vec_capacity l.entry)

abbrev pub decreases-loop-step : goal.decreases-loop-step
decreases-loop-step l = length l.kept.items
