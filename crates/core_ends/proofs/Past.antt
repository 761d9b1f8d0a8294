-- A commit of changes, with the versions that it leaves.
use Rattle.std.specs.Prelude.{◌≡◌, ℕ, ◌+◌, List, [], ◌∷◌, reverse, Option, Some, None}
use mathlib.Core.Path.{sym, ap, subst, ◌∙◌}
use Rattle.std.proofs.lemmas.List.{reverse-reverse}
use Rattle.std.specs.FinMap.{get}
use Rattle.table_laws.specs.Place.{Place}
use Rattle.iv_meaning.specs.Escrow.{IsSession}
use Rattle.ghost_rows.specs.declared.view_rows.ViewRows.{ViewRows}
use Rattle.data_store.specs.declared.store.DataStore.{DataStore}
use Rattle.iv_types.specs.Maps.{Map}
use Rattle.iv_types.specs.declared.lock.GroupDelta.{GroupDelta}
use Rattle.iv_types.specs.declared.lock.KeptStep.{KeptStep as BookStep}
use Rattle.iv_types.specs.declared.lock.KeptStep.TheVariants as step
use Rattle.iv_types.specs.declared.statement.Mode.TheVariants.{Serial}
use Rattle.txn_machine.specs.Ghosts.{the_views}
use Rattle.txn_machine.specs.Keeping.{KeptStep, Put, Pay, Open}
use Rattle.txn_machine.specs.May.{IsOpen, IsReady}
use Rattle.txn_machine.specs.State.{State}
use Rattle.txn_machine.specs.Store.{schema_of, committed, now, Commits, Ends, does, changes_by}
use Rattle.txn_machine.proofs.Reached.{reached}
use Rattle.txn_book.specs.declared.open_table.Open.{Open as BookOpen}
use Rattle.txn_book.specs.Opens.{open_at}
use Rattle.txn_book.specs.Txns.{txn_of}
use Rattle.txn_book.specs.Holding.{AreKept}
use Rattle.version_chain.specs.declared.rows.Version as row
use Rattle.data_store.specs.Past.{Pendings, RowVersions}
use Rattle.data_store.specs.ViewPast.{DeltaVersions}
use Rattle.data_store.specs.Machine.{changes_on, IsPast}
use Rattle.data_past.specs.Moves.{fewer, CanForget, puts_in, version_at, delta_at, pushed_all, AreSteps}
use Rattle.data_past.specs.Ahead.{rows_at, deltas_at}
use Rattle.data_past.proofs.Aheads.{ahead_commits}
use Rattle.data_past.proofs.Committing.{can_forget, same_puts, same_count}
use Rattle.data_past.proofs.Effects.{past_txn}
use Rattle.core_state.specs.Stands.{Began}
use Rattle.core_state.specs.declared.state.CoreState.{CoreState}
use Rattle.core_state.proofs.Sessions.{HasTxn, own_txn, now_is}

-- kept steps without the numbers of their records
steps_of : (bs : List BookStep) (ks : List KeptStep) (ns : List ℕ) → AreKept bs ks ns → AreSteps bs ks
steps_of [] [] ns h = tt
steps_of (step.Put k a b n ∷ bs) (Put c owed ∷ ks) (m ∷ ns) h = (h.0, steps_of bs ks ns h.2)
steps_of (step.Pay d before n ∷ bs) (Pay e ∷ ks) (m ∷ ns) h = (h.0, steps_of bs ks ns h.2)
steps_of [] (k ∷ ks) ns h = absurd h
steps_of (step.Put k a b n ∷ bs) (Put c owed ∷ ks) [] h = absurd h
steps_of (step.Pay d before n ∷ bs) (Pay e ∷ ks) [] h = absurd h
steps_of (step.Put k a b n ∷ bs) (Pay e ∷ ks) ns h = absurd h
steps_of (step.Pay d before n ∷ bs) (Put c owed ∷ ks) ns h = absurd h
steps_of (step.Put k a b n ∷ bs) [] ns h = absurd h
steps_of (step.Pay d before n ∷ bs) [] ns h = absurd h

module _ {M : Type 0} (maps : M → ℕ → Map) (spare : M → ℕ → ℕ) (limit : M → Option ℕ) where
  module _ (core : CoreState M) (s : State) (i : ℕ) (h : Began maps spare limit core s i) (r : IsReady s.store i Serial) where
    abbrev pub opened : IsOpen s.store i
    opened = record { of_session = r.goes_on.of_session; transaction = r.goes_on.transaction; is_open = r.goes_on.is_open }

    module _ (b : BookOpen) (there : open_at core.book.opens i ≡ Some b) where
      own : HasTxn (schema_of s.store) (open_at core.book.opens i) r.goes_on.transaction (s.log.logged i)
      own = own_txn maps spare limit core s i h opened

      steps : AreSteps (reverse b.kept.items) (now s.store i).kept
      steps =
          let both : Some b ≡ Some own.txn = sym there ∙ own.there in
          let same : b ≡ own.txn = cc in
          subst (λ (t : Open). AreSteps (reverse b.kept.items) t.kept) (sym (now_is maps spare limit core s i h opened))
          (subst (λ (x : BookOpen). AreSteps (reverse x.kept.items) r.goes_on.transaction.kept) (sym same) (steps_of (txn_of own.txn).kept r.goes_on.transaction.kept (s.log.logged i).kept own.is.kept))

      pub forgets : CanForget core.store.pending.entries (puts_in b.kept.items)
      forgets = subst (λ (l : List BookStep). CanForget core.store.pending.entries (puts_in l)) (reverse-reverse b.kept.items)
          (can_forget core.store.row_versions.versions core.store.delta_versions.versions core.store.pending.entries s.store h.holds.past i r.goes_on.of_session (reverse b.kept.items) steps)

      pub left_versions : (number : ℕ) → number ≡ (committed s.store).number + 1 → (versions : List row.Version) (paid : List GroupDelta) → versions ≡ rows_at core.ahead i → paid ≡ deltas_at core.ahead i
          → (R : RowVersions) (D : DeltaVersions) (P : Pendings) → R ≡ pushed_all (version_at number) versions core.store.row_versions.pruned core.store.row_versions.versions
          → D ≡ pushed_all (delta_at number) paid core.store.delta_versions.pruned core.store.delta_versions.versions
          → ((place : Place) → get P place ≡ fewer (changes_on place (puts_in b.kept.items)) (get core.store.pending.entries place)) → IsPast R D P (does the_views s.store i Commits)
      left_versions number number_is versions paid versions_are paid_are R D P rows deltas pending =
          ahead_commits core.ahead core.store.row_versions.room core.store.delta_versions.room s.store h.holds.ahead core.store.row_versions.versions core.store.delta_versions.versions core.store.pending.entries h.holds.past i r.goes_on.of_session (reached s h.reached)
          (ap (λ (t : Open). t.owed) (now_is maps spare limit core s i h opened) ∙ r.owes_nothing) versions paid versions_are paid_are R D P
          (rows ∙ (λ j. pushed_all (version_at (number_is j)) versions (h.holds.row_mark j) core.store.row_versions.versions))
          (deltas ∙ (λ j. pushed_all (delta_at (number_is j)) paid (h.holds.delta_mark j) core.store.delta_versions.versions))
          (λ place. pending place ∙ ap (λ n. fewer n (get core.store.pending.entries place))
          (ap (λ (l : List BookStep). changes_on place (puts_in l)) (sym (reverse-reverse b.kept.items))
          ∙ (ap (changes_on place) (same_puts (reverse b.kept.items) (now s.store i).kept steps) ∙ same_count place (changes_by s.store i))))

  -- a transaction that has changed nothing ends
  pub past_ended : (core new : CoreState M) (s : State) (i : ℕ) → Began maps spare limit core s i → IsSession i → changes_by s.store i ≡ []
      → (views : ViewRows) → new.store ≡ record core.store { views = views } → IsPast new.store.row_versions.versions new.store.delta_versions.versions new.store.pending.entries (does the_views s.store i Ends)
  past_ended core new s i h is none views same =
      subst (λ (store : DataStore M). IsPast store.row_versions.versions store.delta_versions.versions store.pending.entries (does the_views s.store i Ends)) (sym same)
      (past_txn core.store.row_versions.versions core.store.delta_versions.versions core.store.pending.entries s.store h.holds.past i None is (sym none))
