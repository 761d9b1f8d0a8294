-- No clause of `run` rests on this module: it serves contracts between crates.
--
-- Places that an outside in memory keeps free.
use Rattle.std.specs.Prelude.{ℕ, Option, Some, None}

-- one place for the name that is open, if one is
abbrev pub places_out : {A : Type 0} → Option A → ℕ
places_out None = 0
places_out (Some x) = 1
