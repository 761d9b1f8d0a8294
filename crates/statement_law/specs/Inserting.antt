-- No clause of `run` rests on this module: it serves contracts between crates.
--
-- How an INSERT works: all its rows are evaluated, and then each is put in where none of its key is there.
use Rattle.std.specs.Prelude.{ℕ, List, [], ◌∷◌, length, Option, Some, None}
use Rattle.iv_types.specs.declared.catalog.TableDef.{TableDef}
use Rattle.iv_types.specs.declared.lock.LockMode.TheVariants.{Exclusive}
use Rattle.iv_types.specs.declared.refusal.Refusal.TheVariants.{DuplicateKey, NumberRange}
use Rattle.iv_types.specs.Intervals.{point}
use Rattle.iv_meaning.specs.Database.{Row, key_of}
use Rattle.script_law.specs.Works.{Work, done, refuses, fetches, puts}

-- where a row of the key was found, the statement is refused
abbrev pub unless_there : List Row → Work → Work
unless_there [] next = next
unless_there (row ∷ rows) next = refuses DuplicateKey

-- row by row the point of the new key is locked and read, and the row is put in
abbrev pub inserts : TableDef → List Row → ℕ → Work
inserts t [] count = done [] count
inserts t (row ∷ rows) count =
    fetches t.number (point (key_of t row)) Exclusive (λ found. unless_there found (puts t.number (key_of t row) (Some row) (λ before. inserts t rows count)))

-- a row that is refused refuses the statement before its first step
abbrev pub insert_work : TableDef → Option (List Row) → Work
insert_work t None = refuses NumberRange
insert_work t (Some rows) = inserts t rows (length rows)
