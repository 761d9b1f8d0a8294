-- No clause of `run` rests on this module: it serves contracts between crates.
--
-- What the bounds are for.
use Rattle.std.specs.Prelude.{◌≡◌, ℕ, ℤ, ◌≤ℤ◌, List, [], ◌∷◌}
use Rattle.std.specs.List.{AllByRecursion}
use Rattle.iv_meaning.specs.Escrow.{Account, inf, sup, value, IsLeftOf, Ending, ended, ended_by, IsBySession, earlier, prefix_of, untouched, with_increment, with_kept, settled}
use Rattle.iv_types.specs.declared.lock.Prefix.{Prefix}
use Rattle.escrow_bounds.specs.Column as column
use Rattle.escrow_bounds.specs.Column.{Column, part, with_part, without, added, least, greatest}

-- whatever of the open transactions' latest increments is taken back, the value that is left lies between the bounds
abbrev pub LiesBetween : Type 0
LiesBetween = (a left : Account) → IsLeftOf a left → (inf a ≤ℤ value left) × (value left ≤ℤ sup a)

-- taking back and committing only narrow the bounds
abbrev pub EndingNarrows : Type 0
EndingNarrows = (a : Account) (e : Ending) → IsBySession e → (inf a ≤ℤ inf (ended a e)) × (sup (ended a e) ≤ℤ sup a)

-- so the value stays between them, whatever is taken back and commits
abbrev pub StaysBetween : Type 0
StaysBetween = (a : Account) (es : List Ending) → AllByRecursion IsBySession es → (inf a ≤ℤ value (ended_by es a)) × (value (ended_by es a) ≤ℤ sup a)

-- ---- lists of calls

-- the calls that change a column; an `Add` is one that is kept
pub data Call : Type 0 where
  Reserve : ℕ → Call
  Add : ℕ → ℤ → Call
  TakeBack : ℕ → Prefix → Call
  Settle : ℕ → Call
  DropTxn : ℕ → Call

-- what each leaves, by the clauses of `Escrow`
abbrev pub called : Column → Call → Column
called c (Reserve s) = with_part c s (part c s)
called c (Add s d) = added c s d
called c (TakeBack s p) = with_part c s p
called c (Settle s) = column.settled c s
called c (DropTxn s) = without c s

-- and by the meaning
abbrev pub meant : Account → Call → Account
meant a (Reserve s) = a
meant a (Add s d) = with_increment a s d
meant a (TakeBack s p) = with_kept a s (earlier (a.kept s))
meant a (Settle s) = settled a s
meant a (DropTxn s) = with_kept a s []

-- what is handed back is the prefix before the session's latest increment
abbrev pub IsMet : Account → Call → Type 0
IsMet a (TakeBack s p) = p ≡ prefix_of (earlier (a.kept s))
IsMet a _ = Unit {0}

abbrev pub AreMet : Account → List Call → Type 0
AreMet a [] = Unit {0}
AreMet a (x ∷ xs) = IsMet a x × AreMet (meant a x) xs

abbrev pub called_all : Column → List Call → Column
called_all c [] = c
called_all c (x ∷ xs) = called_all (called c x) xs

abbrev pub meant_all : Account → List Call → Account
meant_all a [] = a
meant_all a (x ∷ xs) = meant_all (meant a x) xs

-- after any calls on a new column that meet their conditions, the value that undoing leaves lies between the bounds
abbrev pub CallsStayBetween : Type 0
CallsStayBetween =
    (n : ℤ) (calls : List Call) → AreMet (untouched n) calls → (left : Account) → IsLeftOf (meant_all (untouched n) calls) left
    → (least (called_all (column.untouched n) calls) ≤ℤ value left) × (value left ≤ℤ greatest (called_all (column.untouched n) calls))
