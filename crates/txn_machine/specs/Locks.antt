-- No clause of `run` rests on this module: it serves contracts between crates.
--
-- Locks on intervals of the keys of indexes: which of them conflict, whom a request has to wait for, and deadlocks.
use Rattle.std.specs.Prelude.{◌≡◌, ◌≢◌, ◌↔◌, ℕ, ◌==◌, List, if◌then◌else◌}
use Rattle.std.specs.List.{Contains}
use Rattle.iv_types.specs.declared.lock.LockMode.{LockMode}
use Rattle.iv_types.specs.declared.lock.LockMode.TheVariants.{Share, Increment}
use Rattle.iv_types.specs.declared.lock.Want.{Want}
use Rattle.iv_types.specs.declared.session.Sessions.{Sessions}
use Rattle.iv_types.specs.Replies.{members}
use Rattle.iv_types.specs.Intervals.{HaveCommonKey}
use Rattle.iv_meaning.specs.Escrow.{IsSession}
use Rattle.iv_meaning.specs.Waits.{IsFirstCycle}

-- different sessions may hold both on one key
abbrev pub Agree : LockMode → LockMode → Type 0
Agree Share Share = Unit {0}
Agree Increment Increment = Unit {0}
Agree _ _ = ⊥

-- locks of different sessions conflict
pub record Conflict (a b : Want) : Type 0 where
  pub one_index : a.index ≡ b.index
  pub common_key : HaveCommonKey a.interval b.interval
  pub modes : Agree a.mode b.mode → ⊥

-- one of these locks conflicts with one of these wants
pub record Meet (locks wants : List Want) : Type 0 where
  pub lock : Want
  pub held : Contains locks lock
  pub want : Want
  pub wanted : Contains wants want
  pub conflict : Conflict lock want

-- the locks of each session, or what each waits for
abbrev pub Locks : Type 0
Locks = ℕ → List Want

-- the session can't have these wants while the other holds its locks
pub record IsInTheWay (locks : Locks) (session : ℕ) (wants : List Want) (other : ℕ) : Type 0 where
  pub of_session : IsSession other
  pub not_itself : other ≢ session
  pub meet : Meet (locks other) wants

-- exactly the sessions that are in the way
abbrev pub AreInTheWay : Locks → ℕ → List Want → Sessions → Type 0
AreInTheWay locks session wants sessions = (other : ℕ) → Contains (members sessions) other ↔ IsInTheWay locks session wants other

-- the same of the other sessions
abbrev pub with_one : {X : Type 0} → (ℕ → X) → ℕ → X → ℕ → X
with_one f session x s = if s == session then x else f s

-- The session's wait for these wants would close this cycle, the first of the shortest. A session waits for those that are
-- in the way of what it waits for.
pub record IsDeadlock (locks waiting : Locks) (session : ℕ) (wants : List Want) (cycle : List ℕ) : Type 0 where
  pub waits : ℕ → Sessions
  pub of_all : (s : ℕ) → IsSession s → AreInTheWay locks s (with_one waiting session wants s) (waits s)
  pub closes : IsFirstCycle waits session cycle
