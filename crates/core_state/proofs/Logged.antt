-- What the log has room for in a core.
use Rattle.std.specs.Prelude.{◌≡◌, ℕ, ◌+◌, ◌≤◌, Option, None, Some}
use mathlib.Core.Path.{refl, sym, ap, subst}
use Rattle.std.proofs.Common.{arith}
use Rattle.iv_types.specs.Maps.{Map}
use Rattle.txn_machine.specs.Counts.{told_need}
use Rattle.txn_machine.specs.Log.{Log, Opening, Within, Above, block_bytes, reserved, carried}
use Rattle.txn_machine.specs.State.{State}
use Rattle.txn_machine.specs.Steps.{FitsLog, IsLogFull}
use Rattle.txn_machine.specs.Store.{Store}
use Rattle.txn_machine.proofs.LogSteps.{log_room_law}
use Rattle.log_room.specs.Rooms.{AreCountedIn}
use Rattle.core_state.specs.Stands.{Began}
use Rattle.core_state.specs.declared.state.CoreState.{CoreState}

-- a need that is told with so many bytes is within the log as it is
exact_within : (limit : Option ℕ) (used kept need exact : ℕ) (s : Store) (l : Log) → AreCountedIn limit used kept s l → need ≡ told_need exact
    → Within limit (l.used + reserved s l + need) → Within limit (l.used + reserved s l + exact)
exact_within None used kept need exact s l are is fits = tt
exact_within (Some most) used kept need exact s l are is fits = let few = are.few in omega (arith, few, is, fits)

exact_above : (limit : Option ℕ) (all need exact : ℕ) → need ≡ told_need exact → Above limit (all + need) → Above limit (all + exact)
exact_above None all need exact is above = above
exact_above (Some most) all need exact is above = omega (arith, is, above)

module _ {M : Type 0} (maps : M → ℕ → Map) (spare : M → ℕ → ℕ) (limit : M → Option ℕ) (core : CoreState M) (s : State) (i : ℕ) (h : Began maps spare limit core s i) where
  pub log_limit_of : s.opening.log_limit ≡ core.log_room.limit
  log_limit_of = h.opening.log_is

  -- it has room for a need, or has none
  pub log_fits : (need exact : ℕ) → need ≡ told_need exact → Within core.log_room.limit (s.log.used + reserved s.store s.log + need) → FitsLog s exact
  log_fits need exact is fits = subst (λ m. Within m (s.log.used + reserved s.store s.log + exact)) (sym log_limit_of)
      (exact_within core.log_room.limit core.log_room.used core.log_room.reserved need exact s.store s.log h.reserves.log_room is fits)

  pub log_full : (need exact : ℕ) → need ≡ told_need exact → Above core.log_room.limit (s.log.used + reserved s.store s.log + need) → IsLogFull s exact s.log.used (reserved s.store s.log)
  log_full need exact is above = record {
    used_is = refl;
    reserved_is = refl;
    full = subst (λ m. Above m (s.log.used + reserved s.store s.log + exact)) (sym log_limit_of) (exact_above core.log_room.limit (s.log.used + reserved s.store s.log) need exact is above);
  }

  -- what a checkpoint carries is no more than what is used
  pub carries_less : block_bytes + 1 + carried s.store ≤ s.log.used
  carries_less = (log_room_law s h.reached (subst (λ m. Within m (block_bytes + 1)) (sym log_limit_of) h.opening.least) h.runs).1
