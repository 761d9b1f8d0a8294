-- No clause of `run` rests on this module: it serves contracts between crates.
--
-- Walks from session to session, each to one for which the one before waits.
use Rattle.std.specs.Prelude.{◌≡◌, ℕ, zero, suc, ◌<◌, ◌≤◌, ◌↔◌}
use Rattle.iv_types.specs.declared.session.Sessions.{Sessions}
use Rattle.iv_types.specs.SessionSets.{Has}

-- a walk of so many steps leads from one session to another
abbrev pub HasWalk : (ℕ → Sessions) → ℕ → ℕ → ℕ → Type 0
HasWalk waits zero from to = from ≡ to
HasWalk waits (suc n) from to = (next : ℕ) × Has (waits from) next × HasWalk waits n next to

-- the set has the sessions from which so many steps lead to the requester
abbrev pub IsLevel : (ℕ → Sessions) → ℕ → Sessions → ℕ → Type 0
IsLevel waits requester set steps = (session : ℕ) → 1 ≤ session → Has set session ↔ HasWalk waits steps session requester

-- no walk of fewer steps, but for the empty one, leads from the requester back
abbrev pub HasNoShorter : (ℕ → Sessions) → ℕ → ℕ → Type 0
HasNoShorter waits requester total = (steps : ℕ) → suc steps < total → ¬ HasWalk waits (suc steps) requester requester
