-- No clause of `run` rests on this module: it serves contracts between crates.
--
-- The parts of a session's line.
use Rattle.std.specs.Prelude.{◌≡◌, ◌≢◌, ℕ, List, ◌++◌, codes, decimal, IsUtf8}
use Rattle.std.specs.List.{All}
use Rattle.iv_meaning.specs.Number.{BeginsWithNoDigit}
use Rattle.iv_meaning.specs.Escrow.{IsSession}

-- the line begins with the session's number, and this stands behind it
pub record IsNumbered (session : ℕ) (rest line : List ℕ) : Type 0 where
  pub of_session : IsSession session
  pub written : line ≡ decimal session ++ rest
  pub ends : BeginsWithNoDigit rest

-- what stands behind the spaces of a text
pub record IsBehindSpaces (text rest : List ℕ) : Type 0 where
  pub spaces : List ℕ
  pub only_spaces : All (λ b. b ≡ 32) spaces
  pub whole : text ≡ spaces ++ rest
  pub unspaced : (more : List ℕ) → rest ≢ codes " " ++ more

-- a mark, any number of spaces, and a text in UTF-8, which begins with no space
pub record IsBehind (mark text rest : List ℕ) : Type 0 where
  pub behind : List ℕ
  pub written : rest ≡ mark ++ behind
  pub spaced : IsBehindSpaces behind text
  pub readable : IsUtf8 text
