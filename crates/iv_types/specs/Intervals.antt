-- No clause of `run` rests on this module: it serves contracts between crates.
--
-- Ranges of encoded keys.
use Rattle.std.specs.Prelude.{◌≡◌, ◌≢◌, ℕ, ◌+◌, ◌==◌, IsTrue, List, [], ◌∷◌, ◌++◌, Option, Some, None, if◌then◌else◌}
use Rattle.std.specs.declared.cmp.Ordering.TheVariants.{Less, Greater}
use Rattle.std.specs.Ordering.{nat_cmp}
use Rattle.std.specs.Cmp.Lexicographic.{slice_cmp}
use Rattle.iv_types.specs.declared.value.Interval.{Interval}
use Rattle.iv_types.specs.Encoding.{lies_in}

-- lexicographic order of bytes
abbrev pub IsBelow : List ℕ → List ℕ → Type 0
IsBelow a b = slice_cmp nat_cmp a b ≡ Less

abbrev pub IsAtMost : List ℕ → List ℕ → Type 0
IsAtMost a b = slice_cmp nat_cmp a b ≢ Greater

abbrev pub LiesIn : List ℕ → Interval → Type 0
LiesIn key interval = IsTrue (lies_in key interval)

-- the bytes without the bytes 255 at their end, and the last one left made one greater; none where none is left
abbrev pub next : List ℕ → Option (List ℕ)
next [] = None
next (b ∷ bytes) = elim (next bytes) [
  | Some more ↦ Some (b ∷ more)
  | None ↦ if b == 255 then None else Some ((b + 1) ∷ [])
]

-- the interval of one key
abbrev pub point : List ℕ → Interval
point key = record { low = key; high = Some (key ++ 0 ∷ []) }

-- the interval of the keys that begin so
abbrev pub prefix_interval : List ℕ → Interval
prefix_interval prefix = record { low = prefix; high = next prefix }

-- some key lies in both
abbrev pub HaveCommonKey : Interval → Interval → Type 0
HaveCommonKey a b = (key : List ℕ) × LiesIn key a × LiesIn key b
