-- Lemmas on how many steps a session counts.
use Rattle.std.specs.Prelude.{◌≡◌, ◌<◌, ◌≤◌, ◌+◌, ℕ, zero, suc, List, [], ◌∷◌, length, get_or}
use Rattle.std.specs.List.{AllByRecursion}
use Rattle.std.proofs.Common.{arith}
use mathlib.Core.Path.{sym, subst}
use Rattle.txn_sessions.specs.declared.standing.Savepoint.{Savepoint}
use Rattle.txn_sessions.specs.declared.standing.Standing.{Standing}
use Rattle.txn_sessions.specs.Kept.{IsKeptBy, StandsWithin}

all_more : (n : ℕ) (saved : List Savepoint) → AllByRecursion (IsKeptBy n) saved → AllByRecursion (IsKeptBy (n + 1)) saved
all_more n [] h = h
all_more n (s ∷ saved) h =
    let first : s.kept ≤ n = h.0 in
    let one : s.kept ≤ n + 1 = omega (arith, first) in
    (one, all_more n saved h.1)

pub more : (n : ℕ) (s : Standing) → StandsWithin n s → StandsWithin (n + 1) s
more n s h =
    let k : s.kept ≤ n = h.kept in
    let one : s.kept ≤ n + 1 = omega (arith, k) in
    record { kept = one; saved = all_more n s.saved.items h.saved }

pub kept_at : (n : ℕ) (saved : List Savepoint) (place : ℕ) (s : Savepoint) → place < length saved → s ≡ get_or saved place s → AllByRecursion (IsKeptBy n) saved → s.kept ≤ n
kept_at n [] place s lt e h = absurd (omega (arith, lt))
kept_at n (x ∷ saved) zero s lt e h = subst (λ (y : Savepoint). y.kept ≤ n) (sym e) h.0
kept_at n (x ∷ saved) (suc place) s lt e h = kept_at n saved place s (omega (arith, lt)) e h.1
