-- No clause of `run` rests on this module: it serves contracts between crates.
--
-- What a run of bytes shows at a place, and what a write leaves.
use Rattle.std.specs.Prelude.{ℕ, ◌≡◌, ◌+◌, ◌*◌, ◌/◌, ◌%◌, ◌<◌, ◌≤◌, List, [], ◌∷◌, length, get_or}

-- a number in two bytes, the greater part first
abbrev pub number : ℕ → List ℕ
number n = n / 256 ∷ n % 256 ∷ []

-- the number in the two bytes at a place
abbrev pub number_at : List ℕ → ℕ → ℕ
number_at page at = 256 * get_or page at 0 + get_or page (at + 1) 0

-- xs stands at a place of a page
pub record Shows (page : List ℕ) (at : ℕ) (xs : List ℕ) : Type 0 where
  pub each : (j : ℕ) → j < length xs → get_or page (at + j) 0 ≡ get_or xs j 0

-- new is old with xs written at a place
pub record Wrote (at : ℕ) (xs : List ℕ) (old : List ℕ) (new : List ℕ) : Type 0 where
  pub size : length new ≡ length old
  pub shown : (j : ℕ) → j < length xs → get_or new (at + j) 0 ≡ get_or xs j 0
  pub below : (j : ℕ) → j < at → get_or new j 0 ≡ get_or old j 0
  pub above : (j : ℕ) → at + length xs ≤ j → get_or new j 0 ≡ get_or old j 0
