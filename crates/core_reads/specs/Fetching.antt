-- No clause of `run` rests on this module: it serves contracts between crates.
--
-- A Fetch whose lock is free.
use Rattle.std.specs.Prelude.{◌≡◌, ◌≤◌, ◌+◌, ℕ, List, [], ◌∷◌, Option}
use Rattle.iv_types.specs.Maps.{Map}
use Rattle.iv_types.specs.declared.lock.LockMode.{LockMode}
use Rattle.iv_types.specs.declared.lock.Want.{Want}
use Rattle.iv_types.specs.declared.value.Interval.{Interval}
use Rattle.iv_meaning.specs.Database.{Row}
use Rattle.txn_machine.specs.Acts as act
use Rattle.txn_machine.specs.Counts.{fetch_size, transaction_size, most_of_transaction, told_need}
use Rattle.txn_machine.specs.May.{MayAct}
use Rattle.txn_machine.specs.State.{State}
use Rattle.txn_machine.specs.Steps.{IsFree, Finds}
use Rattle.txn_machine.specs.Store.{schema_of, now}
use Rattle.core_state.specs.Stands.{Began}
use Rattle.core_state.specs.declared.state.CoreState.{CoreState}

-- its step has begun, it may be asked for, and nobody is in the way of its lock
pub record MayFetch {M : Type 0} (maps : M → ℕ → Map) (spare : M → ℕ → ℕ) (limit : M → Option ℕ) (s : State) (core : CoreState M) (session index : ℕ) (interval : Interval) (mode : LockMode) (wants : List Want) : Type 0 where
  pub began : Began maps spare limit core s session
  pub may : MayAct s.store session (act.Fetch index interval mode)
  pub wants_are : wants ≡ record { index = index; interval = interval; mode = mode } ∷ []
  pub free : IsFree s.store session wants

-- and the transaction has room for what its rows count
pub record CanRead {M : Type 0} (maps : M → ℕ → Map) (spare : M → ℕ → ℕ) (limit : M → Option ℕ) (s : State) (core : CoreState M) (session index : ℕ) (interval : Interval) (mode : LockMode) (wants : List Want) (need : ℕ) : Type 0 where
  pub fetches : MayFetch maps spare limit s core session index interval mode wants
  pub need_is : (rows : List Row) → Finds s.store index interval rows → need ≡ told_need (fetch_size (schema_of s.store) index interval rows)
  pub room : transaction_size (schema_of s.store) (now s.store session) + need ≤ most_of_transaction
