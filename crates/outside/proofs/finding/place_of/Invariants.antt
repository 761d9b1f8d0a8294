use Rattle.std.proofs.Common.{◌≡◌, ◌<◌, ℕ, false, slice_index_or}
use Rattle.outside.specs.declared.closed.ClosedDisk.{ClosedDisk}
use Rattle.outside.specs.Closed.{is_named}
use Rattle.outside.proofs.finding.place_of.Given as goal

-- none before this place has the name
abbrev pub invariant-loop-i : goal.invariant-loop-i
invariant-loop-i l = (d : ClosedDisk) (j : ℕ) → j < l.i → is_named l.name (slice_index_or l.closed j d) ≡ false
