-- Lemmas on how many steps a session goes back to.
use Rattle.std.specs.Prelude.{◌≤◌, ◌+◌, ℕ}
use Rattle.std.proofs.Common.{arith}
use Rattle.txn_sessions.specs.declared.line.After.{After}
use Rattle.txn_sessions.specs.declared.line.After.TheVariants as after
use Rattle.txn_sessions.specs.Within.{AfterWithin}

pub after_more : (n : ℕ) (last : After) → AfterWithin n last → AfterWithin (n + 1) last
after_more n (after.Says reply) h = tt
after_more n (after.Ends reply) h = tt
after_more n (after.Returns later kept) h = let k : kept ≤ n = h in let more : kept ≤ n + 1 = omega (arith, k) in more
