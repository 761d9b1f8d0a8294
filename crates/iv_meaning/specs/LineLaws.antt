-- No clause of `run` rests on this module: it serves contracts between crates.
--
-- What the lines of an input are, however they are found.
use Rattle.std.specs.Prelude.{◌≡◌, ◌≢◌, ◌⊎◌, ℕ, List, [], ◌∷◌, ◌++◌}
use Rattle.std.specs.List.{All}
use Rattle.iv_meaning.specs.Lines.{lines_of}

-- the input is a line, its end and this rest; the end is CR LF, or LF where no CR stands before it
abbrev pub HasFirstLine : List ℕ → List ℕ → List ℕ → Type 0
HasFirstLine input line rest = (input ≡ line ++ 13 ∷ 10 ∷ rest) ⊎ ((input ≡ line ++ 10 ∷ rest) × ((front : List ℕ) → line ≢ front ++ 13 ∷ []))

-- the input is its last line, which lacks its end
pub record IsLast (input line : List ℕ) (others : List (List ℕ)) : Type 0 where
  pub whole : input ≡ line
  pub some : line ≢ []
  pub last : others ≡ []

-- What the lines of an input are, without a word on how they are found: no line has a LF in it, and the input is the
-- first line, its end and a rest that the other lines are the lines of, or one last line.
abbrev pub AreLines : List ℕ → List (List ℕ) → Type 0
AreLines input [] = input ≡ []
AreLines input (line ∷ lines) = All (λ b. b ≢ 10) line × (IsLast input line lines ⊎ ((rest : List ℕ) × HasFirstLine input line rest × AreLines rest lines))

-- `lines_of` gives the lines of every input
abbrev pub LinesLaw : Type 0
LinesLaw = (input : List ℕ) → AreLines input (lines_of input)
