-- No clause of `run` rests on this module: it serves contracts between crates.
--
-- The rows of a database at a commit number, by the changes that were committed.
use Rattle.std.specs.Prelude.{◌≡◌, ℕ, List, [], ◌∷◌, ◌++◌}
use Rattle.iv_meaning.specs.Database.{Database, Row}
use Rattle.iv_meaning.specs.Statement.{Kept, sets, defines}
use Rattle.iv_meaning.specs.History.{Entry, state_at}
use Rattle.version_chain.specs.Law.{Committed, rows_at}

-- the changes of rows that a commit keeps, with its number
abbrev pub commits_in : ℕ → List Kept → List (Committed Row)
commits_in n [] = []
commits_in n (sets c ∷ ks) = (n, c) ∷ commits_in n ks
commits_in n (defines o ∷ ks) = commits_in n ks

-- those of a history
abbrev pub commits_of : List Entry → List (Committed Row)
commits_of [] = []
commits_of (e ∷ es) = commits_in e.number e.kept ++ commits_of es

-- the rows at a number by these changes are those of the database at that number
abbrev pub StateLaw : Type 0
StateLaw = (origin : Database) (history : List Entry) (n : ℕ) → (state_at origin history n).rows ≡ rows_at n (commits_of history) origin.rows
