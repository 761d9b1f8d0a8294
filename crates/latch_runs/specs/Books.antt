-- No clause of `run` rests on this module: it serves contracts between crates.
--
-- A history of amounts.
use Rattle.std.specs.Prelude.{◌≡◌, ℕ, List, [], ◌∷◌, ◌++◌, map}
use Rattle.latch_runs.specs.declared.book.Entry.{Entry}
use Rattle.latch_runs.specs.declared.book.Book.{Book}

abbrev pub entry : ℕ → ℕ → Entry
entry n a = record { seat = n; amount = a }

-- the number of the seat that added it
abbrev pub by : Entry → ℕ
by e = e.seat

abbrev pub entries_of : ℕ → List ℕ → List Entry
entries_of n amounts = map (entry n) amounts

-- the seat n adds the amount at the end
abbrev pub Adds : ℕ → ℕ → List Entry → List Entry → Type 0
Adds n a h h' = h' ≡ h ++ entry n a ∷ []

abbrev pub history : Book → List Entry
history b = b.entries.items
