-- No clause of `run` rests on this module: it serves contracts between crates.
--
-- What chains are for: rows and numbers of views at a commit number.
use Rattle.std.specs.Prelude.{◌≡◌, ◌≤◌, ℕ, nat_le, max, List, [], ◌∷◌, map, Option, if◌then◌else◌}
use Rattle.std.specs.List.{AllByRecursion}
use Rattle.std.specs.FinMap.{FinMap, get}
use Rattle.table_laws.specs.Place.{Place, place_cmp}
use Rattle.table_laws.specs.Table.{Change, write}
use Rattle.version_chain.specs.Versions.{Version, number, above}
use Rattle.version_chain.specs.Chains.{pushed, chain_of, is_empty, row_at}

-- ---- lists of calls

-- the calls that change the versions
pub data Call (V : Type 0) : Type 0 where
  Push : Version V → Call V
  Prune : ℕ → Call V

module _ {V : Type 0} where
  -- the versions and the greatest number pruned, as the clauses of the calls have them
  abbrev pub called : List (Version V) × ℕ → Call V → List (Version V) × ℕ
  called c (Push v) = (pushed v c.1 c.0, c.1)
  called c (Prune oldest) = (above oldest c.0, max c.1 oldest)

  abbrev pub called_all : List (Version V) × ℕ → List (Call V) → List (Version V) × ℕ
  called_all c [] = c
  called_all c (x ∷ xs) = called_all (called c x) xs

  -- what calls leave of new chains
  abbrev pub left_by : List (Call V) → List (Version V) × ℕ
  left_by calls = called_all ([], 0) calls

  -- what they push, in order
  abbrev pub pushed_by : List (Call V) → List (Version V)
  pushed_by [] = []
  pushed_by (Push v ∷ calls) = v ∷ pushed_by calls
  pushed_by (Prune oldest ∷ calls) = pushed_by calls

  -- no number is below those before it
  abbrev pub AreRising : List (Version V) → Type 0
  AreRising [] = Unit {0}
  AreRising (v ∷ vs) = AllByRecursion (λ w. number v ≤ number w) vs × AreRising vs

-- ---- the meaning

-- a change of a row, and the number of its commit
abbrev pub Committed : Type 0 → Type 0
Committed X = ℕ × Change Place X

module _ {X : Type 0} where
  -- the version that a change leaves: the row before it
  abbrev pub version_of : Committed X → Version (Option X)
  version_of c = ((c.1.key, c.0), c.1.before)

  -- the rows at a commit number
  abbrev pub rows_at : ℕ → List (Committed X) → FinMap place_cmp X → FinMap place_cmp X
  rows_at n [] rows = rows
  rows_at n (c ∷ cs) rows = rows_at n cs (if nat_le c.0 n then write rows c.1.key c.1.after else rows)

  -- the rows after all
  abbrev pub rows_after : List (Committed X) → FinMap place_cmp X → FinMap place_cmp X
  rows_after [] rows = rows
  rows_after (c ∷ cs) rows = rows_after cs (write rows c.1.key c.1.after)

  -- each change was told the row that it found
  abbrev pub AreTrue : FinMap place_cmp X → List (Committed X) → Type 0
  AreTrue rows [] = Unit {0}
  AreTrue rows (c ∷ cs) = (c.1.before ≡ get rows c.1.key) × AreTrue (write rows c.1.key c.1.after) cs

-- ---- the laws

-- Whatever was called, the versions of a place are those that were pushed for it and are above what was pruned, in the order
-- of their pushing.
abbrev pub ChainLaw : Type 0 → Type 0
ChainLaw V = (calls : List (Call V)) → AreRising (pushed_by calls) → (p : Place)
    → chain_of p (left_by calls).0 ≡ chain_of p (above (left_by calls).1 (pushed_by calls))

-- A place is empty exactly where none of these is its.
abbrev pub EmptyLaw : Type 0 → Type 0
EmptyLaw V = (calls : List (Call V)) → AreRising (pushed_by calls) → (p : Place)
    → is_empty p (left_by calls).0 ≡ is_empty p (above (left_by calls).1 (pushed_by calls))

-- A row at a number that is not below what was pruned is the row of the state at that number.
abbrev pub AtLaw : Type 0 → Type 0
AtLaw X = (calls : List (Call (Option X))) → AreRising (pushed_by calls)
    → (base : FinMap place_cmp X) (commits : List (Committed X)) → AreTrue base commits → pushed_by calls ≡ map version_of commits
    → (n : ℕ) → (left_by calls).1 ≤ n → (p : Place)
    → row_at n p (get (rows_after commits base) p) (left_by calls).0 ≡ get (rows_at n commits base) p

-- To prune changes no answer for a number from there on.
abbrev pub PruneLaw : Type 0 → Type 0
PruneLaw X = (vs : List (Version (Option X))) (oldest n : ℕ) → oldest ≤ n → (p : Place) (now : Option X) → row_at n p now (above oldest vs) ≡ row_at n p now vs
