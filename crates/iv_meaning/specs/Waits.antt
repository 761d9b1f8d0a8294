-- No clause of `run` rests on this module: it serves contracts between crates.
--
-- Who waits for whom among the sessions 1 to 64, and cycles of waiting sessions.
use Rattle.std.specs.Prelude.{◌≡◌, ℕ, ◌-◌, ◌≤◌, ◌==◌, List, [], ◌∷◌, length, get_or, take, if◌then◌else◌}
use Rattle.std.specs.List.{Contains}
use Rattle.iv_types.specs.declared.session.Sessions.{Sessions}
use Rattle.iv_types.specs.declared.session.Cycle.{Cycle}
use Rattle.iv_types.specs.Replies.{members}
use Rattle.iv_types.specs.Intervals.{IsAtMost}

abbrev pub nobody : Sessions
nobody = record { bits = 0 }

-- for whom a session waits, by the sets that are recorded of the sessions from 1 on
abbrev pub recorded : List Sessions → ℕ → Sessions
recorded waits session = get_or waits (session - 1) nobody

-- whom a session would wait for: the requester for the holders, each other session for those recorded
abbrev pub would_wait_for : List Sessions → ℕ → Sessions → ℕ → Sessions
would_wait_for waits requester holders session = if session == requester then holders else recorded waits session

abbrev pub WaitsFor : (ℕ → Sessions) → ℕ → ℕ → Type 0
WaitsFor waits session other = Contains (members (waits session)) other

-- each session of a list waits for the next one, and the last for this one
abbrev pub LeadsTo : (ℕ → Sessions) → List ℕ → ℕ → Type 0
LeadsTo waits [] end = ⊥
LeadsTo waits (s ∷ []) end = WaitsFor waits s end
LeadsTo waits (s ∷ t ∷ ts) end = WaitsFor waits s t × LeadsTo waits (t ∷ ts) end

abbrev pub AreDifferent : List ℕ → Type 0
AreDifferent [] = Unit {0}
AreDifferent (s ∷ ss) = ¬ (Contains ss s) × AreDifferent ss

-- A list of different sessions that begins with the requester, in which each waits for the next and the last for the first.
pub record IsCycle (waits : ℕ → Sessions) (requester : ℕ) (cycle : List ℕ) : Type 0 where
  pub others : List ℕ
  pub begins : cycle ≡ requester ∷ others
  pub different : AreDifferent cycle
  pub leads : LeadsTo waits cycle requester

-- the shortest, and of equally long ones the first in lexicographic order
pub record IsFirstCycle (waits : ℕ → Sessions) (requester : ℕ) (cycle : List ℕ) : Type 0 where
  pub is : IsCycle waits requester cycle
  pub shortest : (other : List ℕ) → IsCycle waits requester other → length cycle ≤ length other
  pub first : (other : List ℕ) → IsCycle waits requester other → length other ≡ length cycle → IsAtMost cycle other

-- the sessions of a cycle as it is answered
abbrev pub sessions_of : Cycle → List ℕ
sessions_of cycle = take cycle.length cycle.members
