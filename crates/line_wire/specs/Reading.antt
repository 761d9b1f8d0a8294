-- No clause of `run` rests on this module: it serves contracts between crates.
--
-- Where a reader of lines stands.
use Rattle.std.specs.Prelude.{◌≡◌, ◌≢◌, ◌⊎◌, ℕ, ◌+◌, ◌-◌, ◌*◌, ◌==◌, List, [], ◌∷◌, ◌++◌, length, if◌then◌else◌}
use Rattle.line_wire.specs.Wire.{most_bytes}

pub record Reading : Type 0 where
  -- the bytes that were taken from the source and are not read yet
  pub held : List ℕ
  -- how many bytes were taken so far
  pub taken : ℕ
  -- the line that was read last
  pub text : List ℕ

-- the most bytes of a line that are kept: those of the longest line that is read, and a CR
abbrev pub most_kept : ℕ
most_kept = 65537

-- the bytes before the first LF, with a CR that stands there
abbrev pub before_lf : List ℕ → List ℕ
before_lf [] = []
before_lf (b ∷ bytes) = if b == 10 then [] else b ∷ before_lf bytes

-- a CR at the end is dropped, if there is one
abbrev pub DropsReturn : List ℕ → List ℕ → Type 0
DropsReturn old new = (old ≡ new ++ 13 ∷ []) ⊎ ((new ≡ old) × ((front : List ℕ) → old ≢ front ++ 13 ∷ []))

-- a bound on the lines that are left to a reader
abbrev pub lines_left : Reading → ℕ
lines_left r = 2 * (most_bytes - r.taken) + length r.held
