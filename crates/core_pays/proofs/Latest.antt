-- What a session reserves in the log for the latest step of its transaction.
use Rattle.std.specs.Prelude.{◌≡◌, ℕ, ◌-◌, List, [], ◌∷◌, Option, Some, None, refl}
use Rattle.std.specs.Option.{unwrap_or}
use mathlib.Core.Path.{sym, ap, ◌∙◌}
use Rattle.iv_types.specs.Maps.{Map}
use Rattle.iv_types.specs.declared.statement.Mode.{Mode}
use Rattle.iv_types.specs.declared.statement.Mode.TheVariants.{Serial, Snapshot}
use Rattle.txn_machine.specs.Counts.{told_need}
use Rattle.txn_machine.specs.Keeping.{KeptStep, Put, Pay, idle}
use Rattle.txn_machine.specs.Log.{owed_bytes, still_owed}
use Rattle.txn_machine.specs.May.{IsOpen}
use Rattle.txn_machine.specs.State.{State}
use Rattle.txn_machine.specs.Store.{now}
use Rattle.log_room.specs.Rooms.{IsSerial, KeepsLatest}
use Rattle.core_state.specs.Stands.{Began, its_texts}
use Rattle.core_state.specs.declared.state.CoreState.{CoreState}
use Rattle.core_state.proofs.Sessions.{snapshots_bare}
use Rattle.core_effects.specs.Undoing.{KeepsPay, KeepsPut}
use Rattle.core_effects.proofs.Unpaid as pay
use Rattle.core_effects.proofs.Unput as put
use Rattle.core_pays.specs.Keeping.{IsOwedOfLatest}

serial_or : (m : Mode) → (m ≡ Snapshot → ⊥) → m ≡ Serial
serial_or Serial differs = refl
serial_or Snapshot differs = absurd (differs refl)

module _ {M : Type 0} (maps : M → ℕ → Map) (spare : M → ℕ → ℕ) (limit : M → Option ℕ) (core : CoreState M) (s : State) (i : ℕ) (h : Began maps spare limit core s i) where
  -- a transaction that keeps a step is serial
  serial : IsOpen s.store i → (k : KeptStep) (ks : List KeptStep) → (now s.store i).kept ≡ k ∷ ks → IsSerial s.store i
  serial o k ks kept_is =
      let there : s.store.open_of i ≡ Some (now s.store i) = o.is_open ∙ ap Some (sym (ap (λ x. unwrap_or x idle) o.is_open)) in
      record {
        of_session = o.of_session;
        is_open = there;
        mode_is = serial_or (now s.store i).mode (λ snapshot.
            let none : (now s.store i).kept ≡ [] = snapshots_bare maps spare limit core s i h i (now s.store i) o.of_session there snapshot in
            let bad : [] ≡ k ∷ ks = sym none ∙ kept_is in
            absurd (cc));
      }

  pub keeps_change : (o : KeepsPut s.store i) → KeepsLatest s.store s.log i (Put o.change o.owed)
  keeps_change o =
      let it = put.last maps spare limit core s.store s.log (its_texts s) i h.holds o in
      record { serial = serial o.is_open (Put o.change o.owed) o.earlier o.kept_is; earlier = o.earlier; kept_is = o.kept_is; number = it.number; numbers = it.numbers; logged_is = it.logged }

  pub keeps_pay : (o : KeepsPay s.store i) → KeepsLatest s.store s.log i (Pay o.latest)
  keeps_pay o =
      let it = pay.last maps spare limit core s.store s.log (its_texts s) i h.holds o in
      record { serial = serial o.is_open (Pay o.latest) o.earlier o.kept_is; earlier = o.earlier; kept_is = o.kept_is; number = it.number; numbers = it.numbers; logged_is = it.logged }

  -- what is told of it
  pub change_owes : (o : KeepsPut s.store i) (bytes : ℕ) → bytes ≡ told_need (owed_bytes (s.log.logged i).ghosted (still_owed (now s.store i))) → IsOwedOfLatest s.store s.log i (Some bytes)
  change_owes o bytes is = (o.change, o.owed, keeps_change o, is)

  pub pay_owes : (o : KeepsPay s.store i) → IsOwedOfLatest s.store s.log i None
  pay_owes o = (o.latest, keeps_pay o)
