-- No clause of `run` rests on this module: it serves contracts between crates.
--
-- What the calls keep: no two sessions hold locks that conflict, and waits close no cycle.
use Rattle.std.specs.Prelude.{◌≡◌, ◌≢◌, ℕ, List, [], ◌∷◌}
use Rattle.iv_types.specs.declared.lock.Want.{Want}
use Rattle.iv_types.specs.declared.session.Sessions.{Sessions}
use Rattle.iv_meaning.specs.Escrow.{IsSession}
use Rattle.iv_meaning.specs.Waits as sets
use Rattle.iv_meaning.specs.Waits.{AreDifferent}
use Rattle.txn_machine.specs.Locks.{Locks, Meet, IsInTheWay, AreInTheWay, with_one}
use Rattle.lock_manager.specs.Table.{Table, IsNew, IsFree, IsReserved, IsGranted, IsRecorded, IsCancelled, IsReleased, locks_of, waiting_of}

-- ---- cycles

-- each session of a list waits for the next one, and the last for this one
abbrev pub LeadsTo : (ℕ → ℕ → Type 0) → List ℕ → ℕ → Type 0
LeadsTo Waits [] end = ⊥
LeadsTo Waits (s ∷ []) end = Waits s end
LeadsTo Waits (s ∷ t ∷ ts) end = Waits s t × LeadsTo Waits (t ∷ ts) end

-- different sessions, of which each waits for the next and the last for the first
abbrev pub IsCycle : (ℕ → ℕ → Type 0) → List ℕ → Type 0
IsCycle Waits [] = ⊥
IsCycle Waits (s ∷ ss) = AreDifferent (s ∷ ss) × LeadsTo Waits (s ∷ ss) s

-- a session waits for those that are in the way of what it waits for
abbrev pub WaitsFor : Locks → Locks → ℕ → ℕ → Type 0
WaitsFor locks waiting session other = IsInTheWay locks session (waiting session) other

abbrev pub HasNoCycle : Table → Type 0
HasNoCycle table = (cycle : List ℕ) → ¬ IsCycle (WaitsFor (locks_of table) (waiting_of table)) cycle

-- no cycle would go through the session if it waited for these wants
abbrev pub ClosesNone : Table → ℕ → List Want → Type 0
ClosesNone table session wants = (others : List ℕ) → ¬ IsCycle (WaitsFor (locks_of table) (with_one (waiting_of table) session wants)) (session ∷ others)

-- ---- conflicts

-- locks of different sessions never conflict
abbrev pub HasNoConflict : Table → Type 0
HasNoConflict table = (a b : ℕ) → IsSession a → IsSession b → a ≢ b → ¬ Meet (locks_of table a) (locks_of table b)

-- ---- calls

-- the calls that change a table: a `Grant` is a grant or a request that is granted, a `Wait` one that is blocked and recorded
pub data Call : Type 0 where
  Reserve : ℕ → ℕ → Call
  Grant : ℕ → List Want → Call
  Wait : ℕ → List Want → Call
  Cancel : ℕ → Call
  Release : ℕ → Call

-- what a call makes of a table; a wait is recorded only where that closes no cycle
abbrev pub IsStep : Call → Table → Table → Type 0
IsStep (Reserve session more) old new = IsReserved old new session more
IsStep (Grant session wants) old new = IsSession session × IsFree (locks_of old) session wants × IsGranted old new session wants
IsStep (Wait session wants) old new = IsRecorded old new session wants × ClosesNone old session wants
IsStep (Cancel session) old new = IsCancelled old new session
IsStep (Release session) old new = IsReleased old new session

-- one call after the other
abbrev pub AreSteps : List Call → Table → Table → Type 0
AreSteps [] old new = old ≡ new
AreSteps (call ∷ calls) old new = (between : Table) × IsStep call old between × AreSteps calls between new

-- ---- the law

abbrev pub StepKeepsNoCycle : Type 0
StepKeepsNoCycle = (call : Call) (old new : Table) → IsStep call old new → HasNoCycle old → HasNoCycle new

abbrev pub StepKeepsNoConflict : Type 0
StepKeepsNoConflict = (call : Call) (old new : Table) → IsStep call old new → HasNoConflict old → HasNoConflict new

-- after any calls on a new table
abbrev pub CallsKeepBoth : Type 0
CallsKeepBoth = (calls : List Call) (new table : Table) → IsNew new → AreSteps calls new table → HasNoCycle table × HasNoConflict table

-- a cycle is told by the sets of those who are in the way
abbrev pub SetsTell : Type 0
SetsTell =
    (table : Table) (session : ℕ) (wants : List Want) (waits : ℕ → Sessions) → IsSession session
    → ((s : ℕ) → IsSession s → AreInTheWay (locks_of table) s (with_one (waiting_of table) session wants s) (waits s))
    → ((cycle : List ℕ) → ¬ sets.IsCycle waits session cycle) → ClosesNone table session wants
