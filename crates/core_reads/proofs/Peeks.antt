-- A Peek at an open snapshot.
use Rattle.std.specs.Prelude.{◌≡◌, ◌≤◌, ℕ, Option}
use mathlib.Core.Path.{sym, ap, subst, ◌∙◌}
use Rattle.iv_types.specs.declared.statement.Mode.TheVariants.{Snapshot}
use Rattle.iv_types.specs.Maps.{Map}
use Rattle.txn_machine.specs.Keeping.{Open}
use Rattle.txn_machine.specs.May.{IsOpenIn, IsOpen}
use Rattle.txn_machine.specs.State.{State}
use Rattle.txn_machine.specs.Store.{now}
use Rattle.txn_machine.proofs.Marks.{mark_law}
use Rattle.core_state.specs.Stands.{Began}
use Rattle.core_state.specs.declared.state.CoreState.{CoreState}
use Rattle.core_state.proofs.Sessions.{now_is}

abbrev pub opened_by : (s : State) (i : ℕ) → IsOpenIn s.store i Snapshot → IsOpen s.store i
opened_by s i on = record { of_session = on.of_session; transaction = on.transaction; is_open = on.is_open }

module _ {M : Type 0} (maps : M → ℕ → Map) (spare : M → ℕ → ℕ) (limit : M → Option ℕ) (core : CoreState M) (s : State) (i : ℕ) (h : Began maps spare limit core s i) (on : IsOpenIn s.store i Snapshot) where
  -- its number is that of the snapshot
  pub is_number : (number : ℕ) → number ≡ (now s.store i).number → number ≡ on.transaction.number
  is_number number e = e ∙ ap (λ (t : Open). t.number) (now_is maps spare limit core s i h (opened_by s i on))

  marked : s.store.mark ≤ on.transaction.number
  marked = mark_law s h.reached i (opened_by s i on) on.mode_is

  pub rows_kept : (number : ℕ) → number ≡ (now s.store i).number → core.store.row_versions.pruned ≤ number
  rows_kept number e = subst (λ n. core.store.row_versions.pruned ≤ n) (sym (is_number number e)) (subst (λ n. n ≤ on.transaction.number) (sym h.holds.row_mark) marked)

  pub deltas_kept : (number : ℕ) → number ≡ (now s.store i).number → core.store.delta_versions.pruned ≤ number
  deltas_kept number e = subst (λ n. core.store.delta_versions.pruned ≤ n) (sym (is_number number e)) (subst (λ n. n ≤ on.transaction.number) (sym h.holds.delta_mark) marked)
