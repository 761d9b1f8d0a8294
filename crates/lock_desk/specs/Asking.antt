-- No clause of `run` rests on this module: it serves contracts between crates.
--
-- What becomes of a request for locks, by the locks that sessions hold and what they wait for.
use Rattle.std.specs.Prelude.{◌≡◌, ◌≢◌, ◌↔◌, ℕ, List, []}
use Rattle.std.specs.List.{Contains}
use Rattle.iv_types.specs.declared.lock.Want.{Want}
use Rattle.iv_types.specs.declared.session.Sessions.{Sessions}
use Rattle.iv_types.specs.Replies.{members}
use Rattle.iv_meaning.specs.Escrow.{IsSession}
use Rattle.iv_meaning.specs.Waits.{sessions_of}
use Rattle.lock_manager.specs.Table as table
use Rattle.lock_manager.specs.Table.{Table}
use Rattle.txn_machine.specs.Locks.{Locks, with_one, IsInTheWay, AreInTheWay, IsDeadlock}
use Rattle.txn_machine.specs.Waiting.{WaitsOn, IsRing}
use Rattle.lock_desk.specs.declared.asking.Asked.{Asked}
use Rattle.lock_desk.specs.declared.asking.Asked.TheVariants.{Free, Blocked, Deadlock}

-- the same locks, each once or more
abbrev pub HasLocks : List Want → List Want → Type 0
HasLocks held locks = (w : Want) → Contains held w ↔ Contains locks w

-- the table has these locks of the sessions, and what they wait for
pub record Agrees (t : Table) (held waited : Locks) : Type 0 where
  pub locks : (session : ℕ) → IsSession session → HasLocks (table.locks_of t session) (held session)
  pub waiting : (session : ℕ) → IsSession session → table.waiting_of t session ≡ waited session

-- exactly these sessions are in the way, and to wait for them closes no cycle
pub record HasToWait (held waiting : Locks) (session : ℕ) (wants : List Want) (sessions : Sessions) : Type 0 where
  pub in_the_way : AreInTheWay held session wants sessions
  pub not_empty : members sessions ≢ []
  pub no_cycle : (others : List ℕ) → IsRing (WaitsOn held (with_one waiting session wants)) session others → ⊥

abbrev pub IsAsked : Asked → Locks → Locks → ℕ → List Want → Type 0
IsAsked Free held waiting session wants = (other : ℕ) → IsInTheWay held session wants other → ⊥
IsAsked (Blocked sessions) held waiting session wants = HasToWait held waiting session wants sessions
IsAsked (Deadlock cycle) held waiting session wants = IsDeadlock held waiting session wants (sessions_of cycle)
