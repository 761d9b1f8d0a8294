-- The step that a transaction keeps last, which keeps one.
use Rattle.std.specs.Prelude.{◌≡◌, ◌≢◌, ℕ, List, [], ◌∷◌, Option, Some}
use mathlib.Core.Path.{refl, sym, ap, subst, ◌∙◌}
use Rattle.iv_types.specs.Maps.{Map}
use Rattle.iv_types.specs.declared.lock.KeptStep.{KeptStep as BookStep}
use Rattle.iv_types.specs.declared.lock.KeptStep.TheVariants as step
use Rattle.iv_types.specs.declared.statement.Mode.{Mode}
use Rattle.iv_types.specs.declared.statement.Mode.TheVariants.{Serial, Snapshot}
use Rattle.txn_machine.specs.Keeping.{KeptStep, Put, Pay, Open}
use Rattle.txn_machine.specs.May.{IsOpen}
use Rattle.txn_machine.specs.State.{State}
use Rattle.txn_machine.specs.Store.{now}
use Rattle.txn_book.specs.Holding.{AreKept}
use Rattle.txn_book.specs.Txns.{txn_of}
use Rattle.log_room.specs.Rooms.{KeepsLatest}
use Rattle.core_state.specs.Stands.{Began}
use Rattle.core_state.specs.declared.state.CoreState.{CoreState}
use Rattle.core_state.proofs.Sessions.{own_txn, now_is, snapshots_bare}

-- the log has a number for it
numbers_of : (bs : List BookStep) (k : KeptStep) (ks : List KeptStep) (ns : List ℕ) → AreKept bs (k ∷ ks) ns → (n : ℕ) × (others : List ℕ) × (ns ≡ n ∷ others)
numbers_of [] k ks ns h = absurd h
numbers_of (step.Put k a b m ∷ bs) (Put c owed) ks [] h = absurd h
numbers_of (step.Pay d before m ∷ bs) (Pay e) ks [] h = absurd h
numbers_of (step.Put k a b m ∷ bs) (Pay e) ks ns h = absurd h
numbers_of (step.Pay d before m ∷ bs) (Put c owed) ks ns h = absurd h
numbers_of (step.Put k a b m ∷ bs) (Put c owed) ks (n ∷ ns) h = (n, ns, refl)
numbers_of (step.Pay d before m ∷ bs) (Pay e) ks (n ∷ ns) h = (n, ns, refl)

serial_or : (m : Mode) → (m ≡ Snapshot → ⊥) → m ≡ Serial
serial_or Serial differs = refl
serial_or Snapshot differs = absurd (differs refl)

module _ {M : Type 0} (maps : M → ℕ → Map) (spare : M → ℕ → ℕ) (limit : M → Option ℕ) (core : CoreState M) (s : State) (i : ℕ) (h : Began maps spare limit core s i) (o : IsOpen s.store i) where
  latest_of : (ks : List KeptStep) → o.transaction.kept ≡ ks → ks ≢ [] → (k : KeptStep) × KeepsLatest s.store s.log i k
  latest_of [] e some = absurd (some refl)
  latest_of (k ∷ ks) e some =
      let own = own_txn maps spare limit core s i h o in
      let numbers = numbers_of (txn_of own.txn).kept k ks (s.log.logged i).kept (subst (λ (xs : List KeptStep). AreKept (txn_of own.txn).kept xs (s.log.logged i).kept) e own.is.kept) in
      let is : now s.store i ≡ o.transaction = now_is maps spare limit core s i h o in (
        k,
        record {
          serial = record {
            of_session = o.of_session;
            is_open = o.is_open ∙ ap Some (sym is);
            mode_is = ap (λ (t : Open). t.mode) is ∙ serial_or o.transaction.mode (λ snapshot. some (sym e ∙ snapshots_bare maps spare limit core s i h i o.transaction o.of_session o.is_open snapshot));
          };
          earlier = ks;
          kept_is = ap (λ (t : Open). t.kept) is ∙ e;
          number = numbers.0;
          numbers = numbers.1;
          logged_is = numbers.2;
        },
      )

  pub latest_kept : o.transaction.kept ≢ [] → (k : KeptStep) × KeepsLatest s.store s.log i k
  latest_kept some = latest_of o.transaction.kept refl some
