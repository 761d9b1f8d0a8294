-- No clause of `run` rests on this module: it serves contracts between crates.
--
-- A step that is under way.
use Rattle.std.specs.Prelude.{◌≡◌, ◌≢◌, ℕ, [], Option, None}
use Rattle.iv_types.specs.Maps.{Map}
use Rattle.iv_meaning.specs.Escrow.{IsSession}
use Rattle.lock_manager.specs.Table as table
use Rattle.txn_machine.specs.Laws.{IsReached}
use Rattle.txn_machine.specs.State.{State}
use Rattle.core_state.specs.Stands.{Counts, IsOpening}
use Rattle.core_state.specs.declared.state.CoreState.{CoreState}

-- a session's step has begun in this state: it waits for nothing, the others for what they waited for, and nothing is counted yet
pub record IsUnderway {M : Type 0} (maps : M → ℕ → Map) (spare : M → ℕ → ℕ) (limit : M → Option ℕ) (s : State) (session : ℕ) (core : CoreState M) : Type 0 where
  pub reached : IsReached s
  pub opening : IsOpening core.log_room.limit core.data_room.limit s
  pub runs : s.stop ≡ None
  pub own : IsSession session → table.waiting_of core.locks session ≡ []
  pub waiting : (other : ℕ) → IsSession other → other ≢ session → table.waiting_of core.locks other ≡ s.waiting other
  pub counts : Counts maps spare limit core s
