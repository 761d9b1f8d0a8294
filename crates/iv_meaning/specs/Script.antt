-- What is printed for an input: the whole of it, that of its first lines, and of this a front.
use Rattle.std.specs.Prelude.{◌≡◌, ℕ, List, ◌++◌}
use Rattle.std.specs.List.{AllZip}
use Rattle.iv_meaning.specs.Lines.{lines_of}
use Rattle.iv_meaning.specs.Said.{Said, Says}
use Rattle.iv_meaning.specs.Serial.{World, IsSerialFrom}

abbrev pub AnswersLines : World → List (List ℕ) → List ℕ → Type 0
AnswersLines w lines out = (said : List Said) × AllZip Says lines said × IsSerialFrom w said out

-- the lines of the input are answered
abbrev pub IsOutput : World → List ℕ → List ℕ → Type 0
IsOutput w input out = AnswersLines w (lines_of input) out

-- its first lines are answered, and the other lines are not
abbrev pub AnswersFirst : World → List ℕ → List ℕ → Type 0
AnswersFirst w input out = (first : List (List ℕ)) × (others : List (List ℕ)) × (lines_of input ≡ first ++ others) × AnswersLines w first out

-- the same, with the end of the output cut off
abbrev pub IsOutputPart : World → List ℕ → List ℕ → Type 0
IsOutputPart w input out = (rest : List ℕ) × AnswersFirst w input (out ++ rest)
