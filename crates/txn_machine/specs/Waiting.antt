-- No clause of `run` rests on this module: it serves contracts between crates.
--
-- Who waits for whom by the locks that are held, and rings of sessions that wait for each other.
use Rattle.std.specs.Prelude.{ℕ, List, [], ◌∷◌}
use Rattle.iv_meaning.specs.Waits.{AreDifferent}
use Rattle.txn_machine.specs.Locks.{Locks, IsInTheWay}

-- a lock that the other holds is in the way of what the session waits for
abbrev pub WaitsOn : Locks → Locks → ℕ → ℕ → Type 0
WaitsOn locks waiting session other = IsInTheWay locks session (waiting session) other

-- each of some sessions waits for the next, and the last for this one
abbrev pub Leads : (ℕ → ℕ → Type 0) → List ℕ → ℕ → Type 0
Leads Waits [] end = ⊥
Leads Waits (s ∷ []) end = Waits s end
Leads Waits (s ∷ t ∷ ts) end = Waits s t × Leads Waits (t ∷ ts) end

-- a cycle: different sessions, of which each waits for the next and the last for the first
pub record IsRing (Waits : ℕ → ℕ → Type 0) (first : ℕ) (others : List ℕ) : Type 0 where
  pub different : AreDifferent (first ∷ others)
  pub leads : Leads Waits (first ∷ others) first
