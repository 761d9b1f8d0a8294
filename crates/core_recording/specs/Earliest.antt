-- No clause of `run` rests on this module: it serves contracts between crates.
--
-- Which session's next step has the record of the least number.
use Rattle.std.specs.Prelude.{◌≡◌, ℕ, ◌≤◌, nat_le, List, slice_get, Option, Some, None, if◌then◌else◌}
use Rattle.iv_types.specs.declared.lock.KeptStep.{KeptStep}
use Rattle.iv_meaning.specs.Escrow.{IsSession}
use Rattle.txn_book.specs.declared.open_table.Open.{Open}
use Rattle.record_lending.specs.Steps.{number_of}
use Rattle.core_recording.specs.Carrying.{steps_at}

-- ---- a number with its session

abbrev pub lesser : ℕ → ℕ → Option (ℕ × ℕ) → Option (ℕ × ℕ)
lesser number session None = Some (number, session)
lesser number session (Some least) = if nat_le least.0 number then Some least else Some (number, session)

abbrev pub with_step : Option KeptStep → ℕ → Option (ℕ × ℕ) → Option (ℕ × ℕ)
with_step None session least = least
with_step (Some k) session least = lesser (number_of k) session least

-- ---- behind so many steps of each session's

module _ (opens : List (Option Open)) (done : ℕ → ℕ) where
  -- a session has a next step, and that of none up to this one has a record of a lesser number
  pub record IsLeastUpTo (n number session : ℕ) : Type 0 where
    pub of_session : IsSession session
    pub step : KeptStep
    pub there : slice_get (steps_at opens session) (done session) ≡ Some step
    pub number_is : number ≡ number_of step
    pub first : (other : ℕ) (k : KeptStep) → 1 ≤ other → other ≤ n → slice_get (steps_at opens other) (done other) ≡ Some k → number ≤ number_of k

  -- or none up to this one has a next step
  abbrev pub LeastUpTo : ℕ → Option (ℕ × ℕ) → Type 0
  LeastUpTo n None = (session : ℕ) → 1 ≤ session → session ≤ n → slice_get (steps_at opens session) (done session) ≡ None
  LeastUpTo n (Some least) = IsLeastUpTo n least.0 least.1

  -- of all sessions
  pub record IsEarliest (session : ℕ) : Type 0 where
    pub number : ℕ
    pub least : IsLeastUpTo 64 number session

  abbrev pub AreDone : Type 0
  AreDone = (session : ℕ) → IsSession session → slice_get (steps_at opens session) (done session) ≡ None
