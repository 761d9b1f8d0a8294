-- No clause of `run` rests on this module: it serves contracts between crates.
--
-- The laws of tables, of kept changes and of sums. K is the type of the keys, and X that of the rows.
use Rattle.std.specs.Prelude.{◌≡◌, ◌≢◌, ◌↔◌, ℕ, ◌≤◌, ◌==◌, Bool, true, T, List, [], ◌∷◌, Contains, Option, Some, if◌then◌else◌}
use Rattle.std.specs.Prelude.{ℤ, pos, ◌+ℤ◌, ◌≤ℤ◌}
use Rattle.std.specs.FinMap.{FinMap, get, entries, is_sorted, IsAntisymmetric}
use Rattle.std.specs.Cmp.{IsTotalOrder}
use Rattle.std.specs.declared.cmp.Ordering.{Ordering}
use Rattle.table_laws.specs.Table.{write, rows_where, Change}
use Rattle.table_laws.specs.Sums.{sum_of, total, part, passing, sum_to}
use Rattle.table_laws.specs.Place.{place_cmp}
use Rattle.table_laws.specs.Kept.{Touches, changed, with_kept, redo, take_back, AreTrue, redo_all, take_back_all}
use Rattle.table_laws.specs.Kept.{IsSession, AreSessions, IsAlone, IsStored}

-- a total order, in which only a key itself ties with it
pub record IsKeyOrder {K : Type 0} (R : K → K → Ordering) : Type 0 where
  pub total : IsTotalOrder R
  pub exact : IsAntisymmetric R

abbrev pub PlaceLaw : Type 0
PlaceLaw = IsKeyOrder place_cmp

-- ---- tables

module _ (K X : Type 0) where
  -- after a write its row stands under its key
  abbrev pub WriteLaw : Type 0
  WriteLaw = (R : K → K → Ordering) → IsKeyOrder R → (table : FinMap R X) (key : K) (row : Option X) → get (write table key row) key ≡ row

  -- and under every other key what stood there
  abbrev pub OtherKeysLaw : Type 0
  OtherKeysLaw = (R : K → K → Ordering) → IsKeyOrder R → (table : FinMap R X) (key other : K) (row : Option X) → other ≢ key
      → get (write table key row) other ≡ get table other

  -- tables with the same row under each key are one table
  abbrev pub SameTableLaw : Type 0
  SameTableLaw = (R : K → K → Ordering) → IsKeyOrder R → (a b : FinMap R X) → ((key : K) → get a key ≡ get b key) → a ≡ b

  -- of two writes under one key the last counts
  abbrev pub WriteTwiceLaw : Type 0
  WriteTwiceLaw = (R : K → K → Ordering) → IsKeyOrder R → (table : FinMap R X) (key : K) (first last : Option X)
      → write (write table key first) key last ≡ write table key last

  -- writes under two keys may change places
  abbrev pub WritesApartLaw : Type 0
  WritesApartLaw = (R : K → K → Ordering) → IsKeyOrder R → (table : FinMap R X) (k l : K) (a b : Option X) → k ≢ l
      → write (write table k a) l b ≡ write (write table l b) k a

  -- to write what stands there changes nothing
  abbrev pub WriteThereLaw : Type 0
  WriteThereLaw = (R : K → K → Ordering) → IsKeyOrder R → (table : FinMap R X) (key : K) → write table key (get table key) ≡ table

  -- a row is among those that pass exactly where the table has it under its key and the test is true of it
  abbrev pub RowsWhereLaw : Type 0
  RowsWhereLaw = (R : K → K → Ordering) → IsKeyOrder R → (test : K → X → Bool) (table : FinMap R X) (key : K) (row : X)
      → Contains (rows_where test (entries table)) (key, row) ↔ ((get table key ≡ Some row) × (test key row ≡ true))

  -- the rows that pass stand in the order of their keys, one row a key
  abbrev pub RowsInOrderLaw : Type 0
  RowsInOrderLaw = (R : K → K → Ordering) (test : K → X → Bool) (table : FinMap R X)
      → T (is_sorted R (rows_where test (entries table)))

  -- tables whose rows pass alike have the same list of rows that pass
  abbrev pub SameRowsLaw : Type 0
  SameRowsLaw = (R : K → K → Ordering) → IsKeyOrder R → (test : K → X → Bool) (a b : FinMap R X)
      → ((key : K) → passing (test key) (get a key) ≡ passing (test key) (get b key))
      → rows_where test (entries a) ≡ rows_where test (entries b)

  -- a write changes a sum over the table by what the new row has, less what the old one had
  abbrev pub TotalLaw : Type 0
  TotalLaw = (R : K → K → Ordering) → IsKeyOrder R → (f : K → X → ℤ) (table : FinMap R X) (key : K) (row : Option X)
      → total f (write table key row) +ℤ part f key (get table key) ≡ total f table +ℤ part f key row

  -- numbers that agree at each row of the table have one sum
  abbrev pub SameTotalLaw : Type 0
  SameTotalLaw = (R : K → K → Ordering) → IsKeyOrder R → (f g : K → X → ℤ) (table : FinMap R X)
      → ((key : K) → part f key (get table key) ≡ part g key (get table key)) → total f table ≡ total g table

  -- the sum over the rows that pass is the sum over all, of 0 at each row that does not pass
  abbrev pub TotalWhereLaw : Type 0
  TotalWhereLaw = (f : K → X → ℤ) (test : K → X → Bool) (rows : List (K × X))
      → sum_of f (rows_where test rows) ≡ sum_of (λ key row. if test key row then f key row else pos 0) rows

-- ---- kept changes

module _ (K X : Type 0) where
  -- changes that are taken back where they were made leave the base
  abbrev pub TakingBackLaw : Type 0
  TakingBackLaw = (R : K → K → Ordering) → IsKeyOrder R → (base : FinMap R X) (changes : List (Change K X)) → AreTrue base changes
      → take_back changes (redo changes base) ≡ base

  -- a key that no change names is as in the base, after the changes and after they are taken back
  abbrev pub UntouchedLaw : Type 0
  UntouchedLaw = (R : K → K → Ordering) → IsKeyOrder R → (base : FinMap R X) (changes : List (Change K X)) (key : K)
      → (Touches key changes → ⊥)
      → (get (redo changes base) key ≡ get base key) × (get (take_back changes base) key ≡ get base key)

  -- what changes do to a sum over the table
  abbrev pub ChangedLaw : Type 0
  ChangedLaw = (R : K → K → Ordering) → IsKeyOrder R → (f : K → X → ℤ) (base : FinMap R X) (changes : List (Change K X))
      → AreTrue base changes → total f (redo changes base) ≡ total f base +ℤ changed f changes

-- ---- kept changes of several sessions

module _ (K X : Type 0) where
  -- the kept changes of all sessions taken back from the stored table, in any order of the sessions, leave the base
  abbrev pub SeveralOwnersLaw : Type 0
  SeveralOwnersLaw = (R : K → K → Ordering) → IsKeyOrder R → (n : ℕ) (kept : ℕ → List (Change K X)) (base stored : FinMap R X)
      → IsStored n kept base stored → (sessions : List ℕ) → AreSessions n sessions → take_back_all kept sessions stored ≡ base

  -- and made again to the base, in any order of the sessions, they give the stored table
  abbrev pub MadeAgainLaw : Type 0
  MadeAgainLaw = (R : K → K → Ordering) → IsKeyOrder R → (n : ℕ) (kept : ℕ → List (Change K X)) (base stored : FinMap R X)
      → IsStored n kept base stored → (sessions : List ℕ) → AreSessions n sessions → redo_all kept sessions base ≡ stored

  -- a sum over the stored table is that over the base and what the kept changes of each session do to it
  abbrev pub StoredTotalLaw : Type 0
  StoredTotalLaw = (R : K → K → Ordering) → IsKeyOrder R → (f : K → X → ℤ) (n : ℕ) (kept : ℕ → List (Change K X)) (base stored : FinMap R X)
      → IsStored n kept base stored → total f stored ≡ total f base +ℤ sum_to n (λ s. changed f (kept s))

  -- before any change the stored table is the base
  abbrev pub AtFirstLaw : Type 0
  AtFirstLaw = (R : K → K → Ordering) (n : ℕ) (base : FinMap R X) → IsStored n (λ s. []) base base

  -- a session that keeps one more change, under a key that no other session changed
  abbrev pub StoredWriteLaw : Type 0
  StoredWriteLaw = (R : K → K → Ordering) → IsKeyOrder R → (n : ℕ) (kept : ℕ → List (Change K X)) (base stored : FinMap R X)
      → IsStored n kept base stored → (session : ℕ) → IsSession n session → (key : K) (row : Option X) → IsAlone n kept session key
      → IsStored n (with_kept kept session (record { key = key; before = get stored key; after = row } ∷ kept session))
      base (write stored key row)

  -- a session's latest change taken back
  abbrev pub StoredUndoLaw : Type 0
  StoredUndoLaw = (R : K → K → Ordering) → IsKeyOrder R → (n : ℕ) (kept : ℕ → List (Change K X)) (base stored : FinMap R X)
      → IsStored n kept base stored → (session : ℕ) → IsSession n session
      → (latest : Change K X) (earlier : List (Change K X)) → kept session ≡ latest ∷ earlier
      → IsStored n (with_kept kept session earlier) base (write stored latest.key latest.before)

  -- a commit: the stored table stays, and the session's changes are made to the base
  abbrev pub StoredCommitLaw : Type 0
  StoredCommitLaw = (R : K → K → Ordering) → IsKeyOrder R → (n : ℕ) (kept : ℕ → List (Change K X)) (base stored : FinMap R X)
      → IsStored n kept base stored → (session : ℕ) → IsSession n session
      → IsStored n (with_kept kept session []) (redo (kept session) base) stored

  -- a roll back: the base stays, and the session's changes are taken back from the stored table
  abbrev pub StoredRollBackLaw : Type 0
  StoredRollBackLaw = (R : K → K → Ordering) → IsKeyOrder R → (n : ℕ) (kept : ℕ → List (Change K X)) (base stored : FinMap R X)
      → IsStored n kept base stored → (session : ℕ) → IsSession n session
      → IsStored n (with_kept kept session []) base (take_back (kept session) stored)

  -- a session reads, under a key that no other session changed, what its own changes leave there of the base
  abbrev pub OwnRowLaw : Type 0
  OwnRowLaw = (R : K → K → Ordering) → IsKeyOrder R → (n : ℕ) (kept : ℕ → List (Change K X)) (base stored : FinMap R X)
      → IsStored n kept base stored → (session : ℕ) → IsSession n session → (key : K) → IsAlone n kept session key
      → get stored key ≡ get (redo (kept session) base) key

-- ---- sums

-- numbers that agree from 1 to n have one sum
abbrev pub SameSumLaw : Type 0
SameSumLaw = (n : ℕ) (f g : ℕ → ℤ) → ((s : ℕ) → 1 ≤ s → s ≤ n → f s ≡ g s) → sum_to n f ≡ sum_to n g

-- to set one of the numbers changes the sum by what it changes the number
abbrev pub SetSumLaw : Type 0
SetSumLaw = (n : ℕ) (f : ℕ → ℤ) (i : ℕ) (x : ℤ) → 1 ≤ i → i ≤ n → sum_to n (λ s. if s == i then x else f s) +ℤ f i ≡ sum_to n f +ℤ x

abbrev pub ZeroSumLaw : Type 0
ZeroSumLaw = (n : ℕ) → sum_to n (λ s. pos 0) ≡ pos 0

abbrev pub PlusSumLaw : Type 0
PlusSumLaw = (n : ℕ) (f g : ℕ → ℤ) → sum_to n (λ s. f s +ℤ g s) ≡ sum_to n f +ℤ sum_to n g

-- a sum of sums, in either order
abbrev pub SumOfSumsLaw : Type 0
SumOfSumsLaw = (m n : ℕ) (f : ℕ → ℕ → ℤ) → sum_to m (λ s. sum_to n (λ t. f s t)) ≡ sum_to n (λ t. sum_to m (λ s. f s t))

abbrev pub SumAtMostLaw : Type 0
SumAtMostLaw = (n : ℕ) (f g : ℕ → ℤ) → ((s : ℕ) → 1 ≤ s → s ≤ n → f s ≤ℤ g s) → sum_to n f ≤ℤ sum_to n g
