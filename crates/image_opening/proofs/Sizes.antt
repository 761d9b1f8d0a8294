-- Index 0 counts among the first indexes.
use Rattle.std.proofs.Common.{ℕ, zero, suc, ◌≤◌, arith}
use Rattle.iv_types.specs.Maps.{Map, map_size, size_below}
use Rattle.iv_types.proofs.MapSizes.{size-more}

pub first_counts : (maps : ℕ → Map) (n : ℕ) → 1 ≤ n → map_size (maps 0) ≤ size_below maps n
first_counts maps zero le = absurd (omega (arith, le))
first_counts maps (suc zero) le = let more = size-more maps 0 in omega (arith, more)
first_counts maps (suc (suc n)) le = let more = size-more maps (suc n) in let rest = first_counts maps (suc n) (omega arith) in omega (arith, more, rest)
