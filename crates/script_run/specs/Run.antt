-- What a run has read and written, by the status with which it ends.
use Rattle.std.specs.Prelude.{◌≡◌, ◌≢◌, ◌⊎◌, ◌+◌, ◌<◌, ℕ, List, [], ◌++◌, length, Option, Some}
use Rattle.std.specs.List.{AllByRecursion}
use Rattle.iv_types.specs.Faults.{Rose}
use Rattle.iv_meaning.specs.Lines.{lines_of}
use Rattle.iv_meaning.specs.Database.{Database}
use Rattle.iv_meaning.specs.Serial.{opened_with}
use Rattle.iv_meaning.specs.Script.{IsOutput, AnswersFirst, IsOutputPart}
use Rattle.line_wire.specs.Wire.{most_bytes}
use Rattle.script_run.specs.declared.status.Status.{Status}
use Rattle.script_run.specs.declared.status.Status.TheVariants.{Done, Usage, ReadFault, WriteFault, DiskFault, BadImage, NoMemory, TooMuch}

-- Each whole line that was taken is answered. What else was taken begins a line, and the rest is left.
pub record AnswersTaken (db : Database) (input : List ℕ) (left : Option (List ℕ)) (out : List ℕ) : Type 0 where
  pub lines : List ℕ
  pub begun : List ℕ
  pub rest : List ℕ
  pub tells : left ≡ Some rest
  pub split : input ≡ lines ++ (begun ++ rest)
  pub apart : lines_of input ≡ lines_of lines ++ lines_of (begun ++ rest)
  pub no_end : AllByRecursion (λ b. b ≢ 10) begun
  pub answered : IsOutput (opened_with db) lines out

-- What was written for an input of which this is left, from this database on: with Done the whole output; with a fault of the source or too much
-- input, that of the lines that were taken, and with want of memory of some first lines; with a fault of the sink, the front
-- of such an output. A run of lines alone ends with no fault of a disk or of an image.
abbrev pub Answered : Database → Status → List ℕ → Option (List ℕ) → List ℕ → Type 0
Answered db Done input left out = IsOutput (opened_with db) input out
Answered db Usage input left out = Unit {0}
Answered db ReadFault input left out = AnswersTaken db input left out
Answered db WriteFault input left out = IsOutputPart (opened_with db) input out
Answered db DiskFault input left out = ⊥
Answered db BadImage input left out = ⊥
Answered db NoMemory input left out = AnswersFirst (opened_with db) input out
Answered db TooMuch input left out = AnswersTaken db input left out

pub record Output (db : Database) (status : Status) (input before : List ℕ) (left written : Option (List ℕ)) : Type 0 where
  pub out : List ℕ
  pub wrote : written ≡ Some (before ++ out)
  pub answered : Answered db status input left out

-- all was taken from the source, and it was less than may be taken
pub record TookAll (input : List ℕ) (left : Option (List ℕ)) : Type 0 where
  pub none : left ≡ Some []
  pub less : length input < most_bytes

-- as much was taken from the source as may be taken
pub record TookMost (input : List ℕ) (left : Option (List ℕ)) : Type 0 where
  pub rest : List ℕ
  pub tells : left ≡ Some rest
  pub most : length input ≡ most_bytes + length rest

-- what was taken of the input
abbrev pub Taken : Status → List ℕ → Option (List ℕ) → Type 0
Taken Done input left = TookAll input left
Taken Usage input left = left ≡ Some input
Taken ReadFault input left = Unit {0}
Taken WriteFault input left = Unit {0}
Taken DiskFault input left = Unit {0}
Taken BadImage input left = left ≡ Some input
Taken NoMemory input left = Unit {0}
Taken TooMuch input left = TookMost input left

-- the source's count of faults rises with ReadFault, and it may have risen where the sink failed after it
abbrev pub SourceFaults : Status → ℕ → ℕ → Type 0
SourceFaults Done before now = now ≡ before
SourceFaults Usage before now = now ≡ before
SourceFaults ReadFault before now = Rose before now
SourceFaults WriteFault before now = (now ≡ before) ⊎ Rose before now
SourceFaults DiskFault before now = now ≡ before
SourceFaults BadImage before now = now ≡ before
SourceFaults NoMemory before now = now ≡ before
SourceFaults TooMuch before now = now ≡ before

-- the sink's rises with WriteFault, and it may with Usage
abbrev pub SinkFaults : Status → ℕ → ℕ → Type 0
SinkFaults Done before now = now ≡ before
SinkFaults Usage before now = (now ≡ before) ⊎ Rose before now
SinkFaults ReadFault before now = now ≡ before
SinkFaults WriteFault before now = Rose before now
SinkFaults DiskFault before now = now ≡ before
SinkFaults BadImage before now = now ≡ before
SinkFaults NoMemory before now = now ≡ before
SinkFaults TooMuch before now = now ≡ before
