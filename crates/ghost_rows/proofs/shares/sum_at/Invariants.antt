use Rattle.std.proofs.Common.{◌≡◌, drop}
use Rattle.ghost_rows.specs.Shares.{sum_at}
use Rattle.ghost_rows.proofs.shares.sum_at.Given as goal

abbrev pub invariant-loop-index : goal.invariant-loop-index
invariant-loop-index l = sum_at (drop l.index l.shares) l.session ≡ sum_at l.shares l.session
