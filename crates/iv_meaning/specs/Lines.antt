-- The lines of an input. A line ends with LF, the byte 10, which the last line may lack. One CR, the byte 13, that stands
-- directly before the LF is no part of the line.
use Rattle.std.specs.Prelude.{ℕ, Bool, false, List, [], ◌∷◌, ◌==◌, ◌&&◌, if◌then◌else◌}

abbrev pub begins_with_lf : List ℕ → Bool
begins_with_lf [] = false
begins_with_lf (b ∷ bytes) = b == 10

-- a byte is a CR directly before a LF
abbrev pub is_return : ℕ → List ℕ → Bool
is_return b bytes = b == 13 && begins_with_lf bytes

-- the first line: the bytes before the first LF, and before the CR there
abbrev pub first_line : List ℕ → List ℕ
first_line [] = []
first_line (b ∷ bytes) = if b == 10 then [] else if is_return b bytes then [] else b ∷ first_line bytes

-- the bytes behind the first LF
abbrev pub after_line : List ℕ → List ℕ
after_line [] = []
after_line (b ∷ bytes) = if b == 10 then bytes else after_line bytes

-- some lines, with a byte put before the first of them
abbrev pub onto_first : ℕ → List (List ℕ) → List (List ℕ)
onto_first b [] = (b ∷ []) ∷ []
onto_first b (line ∷ lines) = (b ∷ line) ∷ lines

abbrev pub lines_of : List ℕ → List (List ℕ)
lines_of [] = []
lines_of (b ∷ bytes) = if b == 10 then [] ∷ lines_of bytes else if is_return b bytes then lines_of bytes else onto_first b (lines_of bytes)

-- the most bytes of a line that is read
abbrev pub longest_line : ℕ
longest_line = 65536
