-- What is told of a Prune.
use Rattle.std.specs.Prelude.{◌≡◌, ℕ, ◌≤◌, max, List, [], ◌∷◌, Option, refl}
use mathlib.Core.Path.{sym, ap, subst, ◌∙◌}
use Rattle.std.proofs.Common.{arith}
use Rattle.iv_types.specs.Maps.{Map}
use Rattle.txn_machine.specs.Acts as act
use Rattle.txn_machine.specs.Answers as answer
use Rattle.txn_machine.specs.Ghosts.{the_views}
use Rattle.txn_machine.specs.Store.{Prunes, does, schema_of, committed, least_snapshot}
use Rattle.txn_machine.specs.Counts.{definition_sizes}
use Rattle.txn_machine.specs.Locks.{with_one}
use Rattle.table_laws.proofs.Stored.{by_session}
use Rattle.txn_machine.specs.State.{State}
use Rattle.txn_machine.proofs.Basics.{one_same, one_other}
use Rattle.txn_machine.proofs.LogRoom.{logs_logged}
use Rattle.txn_machine.proofs.Marks.{mark_law, mark_reached}
use Rattle.txn_book.specs.Books as books
use Rattle.txn_book.specs.Books.{number_of}
use Rattle.txn_book.specs.Holding as book
use Rattle.txn_book.proofs.Least.{least_above, least_in_book}
use Rattle.version_chain.specs.Chains.{Chains}
use Rattle.version_chain.specs.Versions.{above}
use Rattle.data_store.specs.Machine.{IsPast}
use Rattle.data_past.proofs.Aheads.{ahead_prunes}
use Rattle.data_past.proofs.Effects.{past_prunes}
use Rattle.version_chain.specs.declared.deltas.Delta.{Delta}
use Rattle.data_room.specs.Reserved.{IsReserved}
use Rattle.log_room.specs.Rooms.{SameRoomLaw}
use Rattle.core_state.specs.Stands.{Began, Told}
use Rattle.core_state.specs.declared.state.CoreState.{CoreState}

max_above : (a b : ℕ) → a ≤ b → max a b ≡ b
max_above a b le = omega (arith, le)

module _ {M : Type 0} (maps : M → ℕ → Map) (spare : M → ℕ → ℕ) (limit : M → Option ℕ) (core : CoreState M) (s : State) (h : Began maps spare limit core s 0) where
  abbrev oldest : ℕ
  oldest = least_snapshot s.store.open_of 64 (committed s.store).number

  pub in_book : books.least_snapshot core.book.opens 64 (number_of core.book) ≡ oldest
  in_book =
      ap (books.least_snapshot core.book.opens 64) h.holds.book.number
      ∙ least_in_book (schema_of s.store) core.book.opens s.store.open_of s.log.logged h.holds.book.txns 64 (committed s.store).number (omega arith)

  pub above_mark : s.store.mark ≤ oldest
  above_mark = least_above s.store.open_of s.store.mark 64 (committed s.store).number (mark_reached s h.reached).marked
      (λ j low high o e snap. mark_law s h.reached j (record { of_session = (low, high); transaction = o; is_open = e }) snap)

  pub pruned_told : SameRoomLaw → (rows : Chains (Option (List ℕ))) (deltas : Chains Delta) (least : ℕ) → least ≡ books.least_snapshot core.book.opens 64 (number_of core.book)
      → rows.versions ≡ above least core.store.row_versions.versions → deltas.versions ≡ above least core.store.delta_versions.versions → core.store.row_versions.room ≤ rows.room → core.store.delta_versions.room ≤ deltas.room → rows.pruned ≡ max core.store.row_versions.pruned least → deltas.pruned ≡ max core.store.delta_versions.pruned least
      → Told maps spare limit s 0 act.Prune answer.Pruned (record core { store = record core.store { row_versions = rows; delta_versions = deltas } })
  pruned_told law rows deltas least least_is rows_left deltas_left row_room delta_room rows_are deltas_are = record {
    reached = h.reached;
    opening = h.opening;
    runs = h.runs;
    effects = Prunes ∷ [];
    says = refl;
    holds = record {
      stored = h.holds.stored;
      book = subst (λ l. book.Holds core.book (schema_of s.store) s.store.open_of l s.store.history (committed s.store).number (definition_sizes s.definitions)) (sym (logs_logged s.store 0 act.Prune Prunes s.log ∙ same_logged)) h.holds.book;
      locks = h.holds.locks;
      begun = h.holds.begun;
      next = h.holds.next;
      texts = h.holds.texts;
      row_mark = rows_are ∙ marked core.store.row_versions.pruned h.holds.row_mark;
      delta_mark = deltas_are ∙ marked core.store.delta_versions.pruned h.holds.delta_mark;
      most = h.holds.most;
      past = past;
      ahead = ahead_prunes core.ahead core.store.row_versions.room core.store.delta_versions.room s.store h.holds.ahead 0 rows.room deltas.room row_room delta_room;
      rooms = h.holds.rooms;
    };
    reserves = record {
      data_room = subst (λ l. IsReserved core.data_room (schema_of s.store) s.store.open_of l) (sym (logs_logged s.store 0 act.Prune Prunes s.log ∙ same_logged)) h.reserves.data_room;
      log_room = law.prunes core.log_room s.store s.log 0 act.Prune h.reserves.log_room;
    };
    own = λ sessions e. absurd (cc);
    none = λ _ is. h.own is;
    waiting = h.waiting;
    counts = record { steps = h.counts.steps; seats = h.counts.seats; few = h.counts.few; cleaner = h.counts.cleaner; removed = h.counts.removed; running = h.counts.running; begun = h.counts.begun; next = h.counts.next; stop = h.counts.stop };
    no_fault = refl;
    begins_one = omega arith;
    appends_one = omega arith;
  }
    where
      past : IsPast rows.versions deltas.versions core.store.pending.entries (does the_views s.store 0 Prunes)
      past =
          let least_here : least ≡ oldest = least_is ∙ in_book in
          subst (λ r. IsPast r deltas.versions core.store.pending.entries (does the_views s.store 0 Prunes)) (sym (rows_left ∙ ap (λ (n : ℕ). above n core.store.row_versions.versions) least_here))
          (subst (λ d. IsPast (above oldest core.store.row_versions.versions) d core.store.pending.entries (does the_views s.store 0 Prunes)) (sym (deltas_left ∙ ap (λ (n : ℕ). above n core.store.delta_versions.versions) least_here))
          (past_prunes core.store.row_versions.versions core.store.delta_versions.versions core.store.pending.entries s.store h.holds.past 0 above_mark))

      marked : (old : ℕ) → old ≡ s.store.mark → max old least ≡ oldest
      marked old e = max_above old least (subst (λ n. n ≤ least) (sym e) (subst (λ n. s.store.mark ≤ n) (sym (least_is ∙ in_book)) above_mark)) ∙ (least_is ∙ in_book)

      as_logged : (j : ℕ) → with_one s.log.logged 0 (s.log.logged 0) j ≡ s.log.logged j
      as_logged j = by_session j 0 (λ e. one_same s.log.logged 0 (s.log.logged 0) j e ∙ ap s.log.logged (sym e)) (λ n. one_other s.log.logged 0 (s.log.logged 0) j n)

      same_logged : with_one s.log.logged 0 (s.log.logged 0) ≡ s.log.logged
      same_logged = λ k j. as_logged j k
