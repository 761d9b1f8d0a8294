-- No clause of `run` rests on this module: it serves contracts between crates.
--
-- What the reading of a line finds.
use Rattle.std.specs.Prelude.{◌≡◌, ◌≢◌, ◌+◌, ◌<◌, ◌≤◌, ℕ, List, [], ◌++◌, length, Option, Some, Result, Ok, Err}
use Rattle.iv_meaning.specs.Lines.{first_line, after_line, longest_line}
use Rattle.iv_types.specs.Faults.{Rose}
use Rattle.line_wire.specs.Reading.{Reading, before_lf}
use Rattle.line_wire.specs.Wire.{most_bytes}
use Rattle.line_wire.specs.declared.line.Line.{Line}
use Rattle.line_wire.specs.declared.line.Line.TheVariants.{Text, TooLong, End}
use Rattle.line_wire.specs.declared.line.LineFault.{LineFault}
use Rattle.line_wire.specs.declared.line.LineFault.TheVariants.{ReadFault, TooMuch}

-- the line that comes first in what was ahead, and what is ahead then
abbrev pub Reads : Line → List ℕ → List ℕ → List ℕ → Type 0
Reads Text ahead text then_ = (ahead ≢ []) × (length text ≤ longest_line) × (text ≡ first_line ahead) × (then_ ≡ after_line ahead)
Reads TooLong ahead text then_ = (ahead ≢ []) × (longest_line < length (first_line ahead)) × (then_ ≡ after_line ahead)
Reads End ahead text then_ = (ahead ≡ []) × (then_ ≡ [])

-- where the source tells what is left: what was taken and what is left are together what they were
pub record Counted (before size : ℕ) (now : Reading) (left : Option (List ℕ)) : Type 0 where
  pub rest : List ℕ
  pub tells : left ≡ Some rest
  pub count : now.taken + length rest ≡ before + size

-- the same, and the line that was read
pub record FoundLine (line : Line) (ahead : List ℕ) (before size : ℕ) (now : Reading) (left : Option (List ℕ)) : Type 0 where
  pub counted : Counted before size now left
  pub reads : Reads line ahead now.text (now.held ++ counted.rest)

-- the same, where no LF is in all that was taken
pub record NoLineTaken (ahead : List ℕ) (before size : ℕ) (now : Reading) (left : Option (List ℕ)) : Type 0 where
  pub counted : Counted before size now left
  pub front : List ℕ
  pub whole : ahead ≡ front ++ counted.rest
  pub no_lf : before_lf front ≡ front

abbrev pub Found : Result Line LineFault → List ℕ → ℕ → ℕ → Reading → Option (List ℕ) → Type 0
Found (Ok line) ahead before size now left = FoundLine line ahead before size now left
Found (Err fault) ahead before size now left = NoLineTaken ahead before size now left

-- how many bytes were taken, by what was found
abbrev pub Took : Result Line LineFault → ℕ → Type 0
Took (Ok Text) taken = taken ≤ most_bytes
Took (Ok TooLong) taken = taken ≤ most_bytes
Took (Ok End) taken = taken < most_bytes
Took (Err ReadFault) taken = taken < most_bytes
Took (Err TooMuch) taken = taken ≡ most_bytes

-- each line that is read leaves fewer to be read
abbrev pub Nearer : Result Line LineFault → ℕ → ℕ → Type 0
Nearer (Ok Text) before now = now < before
Nearer (Ok TooLong) before now = now < before
Nearer (Ok End) before now = now ≤ before
Nearer (Err fault) before now = now ≤ before

-- which counts of faults may rise: only a read fault's
abbrev pub CountsReadFault : Result Line LineFault → ℕ → ℕ → Type 0
CountsReadFault (Ok line) before now = now ≡ before
CountsReadFault (Err TooMuch) before now = now ≡ before
CountsReadFault (Err ReadFault) before now = Rose before now

-- the bytes that were left are those that are held now and those that are left now, and none only at the end
pub record Filled (bytes : List ℕ) (count before : ℕ) (now : Reading) (left : Option (List ℕ)) : Type 0 where
  pub rest : List ℕ
  pub tells : left ≡ Some rest
  pub same : now.held ++ rest ≡ bytes
  pub count_is : now.taken + length rest ≡ before + length bytes
  pub end : count ≡ 0 → bytes ≡ []
