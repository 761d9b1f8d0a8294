-- What `make` prints: the summary of a run of the lines that it makes.
use Rattle.std.specs.Prelude.{◌≡◌, ◌⊎◌, ◌+◌, ℕ, List, [], ◌∷◌, ◌++◌, Option, Some, codes, decimal}
use Rattle.std.specs.List.{AllByRecursion}
use Rattle.iv_meaning.specs.Database.{Database}
use Rattle.iv_meaning.specs.Said.{Said, Says}
use Rattle.iv_meaning.specs.Serial.{World, opened_with, latest, Answers, IsEnd}
use Rattle.line_wire.specs.Wire.{WroteFront}
use Rattle.made_script.specs.Made.{made_lines}
use Rattle.script_run.specs.declared.status.Status.{Status}
use Rattle.script_run.specs.declared.status.Status.TheVariants.{Done, WriteFault, NoMemory}

-- Each line is answered by a piece of its own, on the world that the piece before it left. With `IsEnd` of the last world the
-- pieces, one behind another, are serial (`IsSerialFrom`).
abbrev pub AnswersEach : World → List (List ℕ) → List (List ℕ) → World → Type 0
AnswersEach w [] [] last = last ≡ w
AnswersEach w (line ∷ lines) (piece ∷ pieces) last = (said : Said) × (after : World) × Says line said × Answers said w piece after × AnswersEach after lines pieces last
AnswersEach w _ _ last = ⊥

-- a line `s: ROLLBACK` whose answer begins with `s OK 0`
pub record IsRolledBack (line piece : List ℕ) : Type 0 where
  pub session : List ℕ
  pub more : List ℕ
  pub asks : line ≡ session ++ codes ": ROLLBACK"
  pub told : piece ≡ session ++ (codes " OK 0\n" ++ more)

-- so many of the lines were rolled back
abbrev pub RollsBack : List (List ℕ) → List (List ℕ) → ℕ → Type 0
RollsBack [] [] count = count ≡ 0
RollsBack (line ∷ lines) (piece ∷ pieces) count =
    ((others : ℕ) × IsRolledBack line piece × (count ≡ others + 1) × RollsBack lines pieces others) ⊎ ((IsRolledBack line piece → ⊥) × RollsBack lines pieces count)
RollsBack _ _ count = ⊥

-- a reply of code 29 stands in a piece
pub record LacksMemory (piece : List ℕ) : Type 0 where
  pub front : List ℕ
  pub more : List ℕ
  pub told : piece ≡ front ++ (codes " ERR 29 NoMemory\n" ++ more)

-- the numbers of rounds, of the last commit and of the lines that were rolled back, and the answer to the last line
abbrev pub summary_text : ℕ → ℕ → ℕ → List ℕ → List ℕ
summary_text number commit count last =
    codes "MADE " ++ (decimal number ++ (codes "\nCOMMIT " ++ (decimal commit ++ (codes "\nROLLBACK " ++ (decimal count ++ (codes "\n" ++ last))))))

-- The lines were run from this database on, and each was answered, none by code 29; the text tells the greatest commit number of
-- the world that they left, how many of them were rolled back, and the answer to the last.
pub record IsSummary (db : Database) (number : ℕ) (text : List ℕ) : Type 0 where
  pub pieces : List (List ℕ)
  pub last : List ℕ
  pub world : World
  pub count : ℕ
  pub answered : AnswersEach (opened_with db) (made_lines number) (pieces ++ last ∷ []) world
  pub ended : IsEnd world
  pub counted : RollsBack (made_lines number) (pieces ++ last ∷ []) count
  pub remembered : AllByRecursion (λ piece. LacksMemory piece → ⊥) (pieces ++ last ∷ [])
  pub told : text ≡ summary_text number (latest world).number count last

-- What `make` has written by the status with which it ends: with Done the summary, with a fault of the sink a front of one, and
-- nothing where memory was wanting. It has no other status.
abbrev pub Made : Database → Status → ℕ → List ℕ → Option (List ℕ) → Type 0
Made db Done number before written = (text : List ℕ) × IsSummary db number text × (written ≡ Some (before ++ text))
Made db WriteFault number before written = (text : List ℕ) × IsSummary db number text × WroteFront before text written
Made db NoMemory number before written = written ≡ Some before
Made db _ number before written = ⊥

-- the statuses of `make`
abbrev pub EndsMade : Status → Type 0
EndsMade Done = Unit {0}
EndsMade WriteFault = Unit {0}
EndsMade NoMemory = Unit {0}
EndsMade _ = ⊥
