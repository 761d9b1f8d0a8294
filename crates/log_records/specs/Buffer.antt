-- No clause of `run` rests on this module: it serves contracts between crates.
--
-- Bytes behind the first ones of a buffer.
use Rattle.std.specs.Prelude.{◌≡◌, ℕ, ◌+◌, List, ◌++◌, length, take}

-- the bytes stand behind the first `fill` ones, and there are `now` of them then
pub record Filled (fill : ℕ) (old : List ℕ) (now : ℕ) (new text : List ℕ) : Type 0 where
  pub place : now ≡ fill + length text
  pub bytes : take now new ≡ take fill old ++ text
