-- No clause of `run` rests on this module: it serves contracts between crates.
--
-- Counts of a `u64`.
use Rattle.std.specs.Prelude.{ℕ, ◌+◌, ◌-◌, ◌^◌, ◌<◌, min}
use Rattle.std.proofs.Common.{arith}

-- one more, but for the end of a `u64`
abbrev pub one_up : ℕ → ℕ
one_up n = min (n + 1) (2 ^ 64 - 1)

pub none_below : 0 < 2 ^ 64
none_below = omega arith
