use Rattle.std.proofs.Common.{◌≡◌, length}
use Rattle.ghost_rows.proofs.seats.no_seats.Given as goal

abbrev pub invariant-loop-index : goal.invariant-loop-index
invariant-loop-index l = length l.lists.items ≡ l._index
