-- What the calls of a source and a sink do.
use Rattle.std.specs.Prelude.{◌≡◌, ◌≤◌, ◌^◌, ℕ, List, [], ◌++◌, length, take, drop, Option, Some}

-- the next bytes, so many, went to the front of a piece, and none only at the end
pub record Gives (bytes : List ℕ) (count : ℕ) (piece : List ℕ) (left : Option (List ℕ)) : Type 0 where
  pub few : count ≤ length bytes
  pub same : take count piece ≡ take count bytes
  pub rest : left ≡ Some (drop count bytes)
  pub end : count ≡ 0 → bytes ≡ []

-- some bytes from the front were written, behind what had been written
pub record WroteFront (before bytes : List ℕ) (written : Option (List ℕ)) : Type 0 where
  pub count : ℕ
  pub few : count ≤ length bytes
  pub same : written ≡ Some (before ++ take count bytes)

-- the most bytes that are taken from a source
abbrev pub most_bytes : ℕ
most_bytes = 2 ^ 40
