-- What was committed, entry by entry, and the database at a commit number.
use Rattle.std.specs.Prelude.{ℕ, nat_le, List, [], ◌∷◌, filter}
use Rattle.iv_meaning.specs.Database.{Database}
use Rattle.iv_meaning.specs.Statement.{Kept, keep_all}

pub record Entry : Type 0 where
  pub number : ℕ
  pub session : ℕ
  -- the changes of which the first was made first
  pub kept : List Kept

-- the database after some entries, of which the first was committed first
abbrev pub fold : List Entry → Database → Database
fold [] db = db
fold (e ∷ es) db = fold es (record (keep_all e.kept db) { number = e.number })

-- the database at a commit number
abbrev pub state_at : Database → List Entry → ℕ → Database
state_at origin history number = fold (filter (λ e. nat_le e.number number) history) origin
