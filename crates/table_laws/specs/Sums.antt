-- No clause of `run` rests on this module: it serves contracts between crates.
--
-- Sums of a number that each of some counted things has, as each session, and of one that each entry of a table has.
use Rattle.std.specs.Prelude.{ℕ, zero, suc, Bool, List, [], ◌∷◌, ℤ, pos, ◌+ℤ◌, Option, Some, None, if◌then◌else◌}
use Rattle.std.specs.FinMap.{FinMap, entries}
use Rattle.std.specs.declared.cmp.Ordering.{Ordering}

-- over 1 to n
abbrev pub sum_to : ℕ → (ℕ → ℤ) → ℤ
sum_to zero f = pos 0
sum_to (suc n) f = sum_to n f +ℤ f (suc n)

module _ {K X : Type 0} where
  -- the sum of a number that each entry has
  abbrev pub sum_of : (K → X → ℤ) → List (K × X) → ℤ
  sum_of f [] = pos 0
  sum_of f (e ∷ es) = f e.0 e.1 +ℤ sum_of f es

  -- the number of one entry, where there is one
  abbrev pub part : (K → X → ℤ) → K → Option X → ℤ
  part f key None = pos 0
  part f key (Some row) = f key row

-- the sum over a table
abbrev pub total : {K : Type 0} {R : K → K → Ordering} {X : Type 0} → (K → X → ℤ) → FinMap R X → ℤ
total f table = sum_of f (entries table)

-- the row, if it passes
abbrev pub passing : {X : Type 0} → (X → Bool) → Option X → Option X
passing test None = None
passing test (Some row) = if test row then Some row else None
