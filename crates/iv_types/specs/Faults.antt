-- Counts of faults. What can fail outside, as a source, a sink or a disk, counts its faults, and a call that fails is
-- known by a count that rose.
use Rattle.std.specs.Prelude.{◌≡◌, ℕ, ◌+◌, ◌-◌, ◌^◌, ◌≤◌, min, Result, MatchResult}

-- the count rose, unless it stands at the end of its type
abbrev pub Rose : ℕ → ℕ → Type 0
Rose before now = min (before + 1) (2 ^ 64 - 1) ≤ now

-- the count stays with an Ok, and rises with an Err
abbrev pub CountsFault : {T E : Type 0} → Result T E → ℕ → ℕ → Type 0
CountsFault result before now = MatchResult result (λ _. now ≡ before) (λ _. Rose before now)
