-- No clause of `run` rests on this module: it serves contracts between crates.
--
-- Changes of rows that a transaction keeps, the latest first: what they make of a table, and how they are taken back.
use Rattle.std.specs.Prelude.{◌≡◌, ◌≢◌, ◌⊎◌, ℕ, ◌≤◌, ◌==◌, List, [], ◌∷◌, All, Contains, if◌then◌else◌}
use Rattle.std.specs.Prelude.{ℤ, pos, ◌+ℤ◌, ◌-ℤ◌}
use Rattle.std.specs.FinMap.{FinMap, get}
use Rattle.std.specs.declared.cmp.Ordering.{Ordering}
use Rattle.table_laws.specs.Table.{write, Change}
use Rattle.table_laws.specs.Sums.{part}

-- one of the sessions 1 to n
abbrev pub IsSession : ℕ → ℕ → Type 0
IsSession n s = (1 ≤ s) × (s ≤ n)

-- the list has each of the sessions 1 to n, once or more, and no others, in any order
abbrev pub AreSessions : ℕ → List ℕ → Type 0
AreSessions n sessions = All (IsSession n) sessions × ((s : ℕ) → IsSession n s → Contains sessions s)

module _ {K X : Type 0} where
  -- one of the changes names the key
  abbrev pub Touches : K → List (Change K X) → Type 0
  Touches key [] = ⊥
  Touches key (c ∷ changes) = (key ≡ c.key) ⊎ Touches key changes

  -- what the changes do to the sum of a number that each row has
  abbrev pub changed : (K → X → ℤ) → List (Change K X) → ℤ
  changed f [] = pos 0
  changed f (c ∷ changes) = changed f changes +ℤ (part f c.key c.after -ℤ part f c.key c.before)

  -- the kept changes of each session, with those of one session set
  abbrev pub with_kept : (ℕ → List (Change K X)) → ℕ → List (Change K X) → ℕ → List (Change K X)
  with_kept kept session changes s = if s == session then changes else kept s

  -- none of the sessions 1 to n but this one changes the key
  abbrev pub IsAlone : ℕ → (ℕ → List (Change K X)) → ℕ → K → Type 0
  IsAlone n kept session key = (s : ℕ) → IsSession n s → s ≢ session → Touches key (kept s) → ⊥

module _ {K : Type 0} {R : K → K → Ordering} {X : Type 0} where
  -- the table after the changes
  abbrev pub redo : List (Change K X) → FinMap R X → FinMap R X
  redo [] table = table
  redo (c ∷ changes) table = write (redo changes table) c.key c.after

  -- the table with the changes taken back
  abbrev pub take_back : List (Change K X) → FinMap R X → FinMap R X
  take_back [] table = table
  take_back (c ∷ changes) table = take_back changes (write table c.key c.before)

  -- each change was told the row that it found, where the first of them began with the base
  abbrev pub AreTrue : FinMap R X → List (Change K X) → Type 0
  AreTrue base [] = Unit {0}
  AreTrue base (c ∷ changes) = (c.before ≡ get (redo changes base) c.key) × AreTrue base changes

  -- ---- several sessions

  -- the table after the changes of some sessions, one session after another
  abbrev pub redo_all : (ℕ → List (Change K X)) → List ℕ → FinMap R X → FinMap R X
  redo_all kept [] table = table
  redo_all kept (s ∷ sessions) table = redo_all kept sessions (redo (kept s) table)

  -- the table with the changes of some sessions taken back, one session after another
  abbrev pub take_back_all : (ℕ → List (Change K X)) → List ℕ → FinMap R X → FinMap R X
  take_back_all kept [] table = table
  take_back_all kept (s ∷ sessions) table = take_back_all kept sessions (take_back (kept s) table)

-- The sessions 1 to n keep changes of one table, and no two of them change one key. The stored table has under a key that a
-- session changed what the changes of that session alone leave there of the base, and under any other key the base's row.
pub record IsStored {K : Type 0} {R : K → K → Ordering} {X : Type 0}
    (n : ℕ) (kept : ℕ → List (Change K X)) (base stored : FinMap R X) : Type 0 where
  pub told : (s : ℕ) → IsSession n s → AreTrue base (kept s)
  pub apart : (s t : ℕ) (key : K) → IsSession n s → IsSession n t → s ≢ t → Touches key (kept s) → Touches key (kept t) → ⊥
  pub own : (s : ℕ) (key : K) → IsSession n s → Touches key (kept s) → get stored key ≡ get (redo (kept s) base) key
  pub others : (key : K) → ((s : ℕ) → IsSession n s → Touches key (kept s) → ⊥) → get stored key ≡ get base key
