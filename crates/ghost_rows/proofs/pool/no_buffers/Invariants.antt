use Rattle.std.proofs.Common.{◌≡◌, length}
use Rattle.ghost_rows.proofs.pool.no_buffers.Given as goal

abbrev pub invariant-loop-index : goal.invariant-loop-index
invariant-loop-index l = length l.pools.items ≡ l._index
