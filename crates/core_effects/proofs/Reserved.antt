-- Room was made ahead.
use Rattle.std.specs.Prelude.{◌≡◌, ℕ, ◌≤◌, max, List, [], ◌∷◌, length, Option, refl}
use mathlib.Core.Path.{sym, ap, subst, ◌∙◌}
use mathlib.Core.Logic.{inl, inr}
use Rattle.std.proofs.Common.{arith}
use Rattle.table_laws.proofs.Stored.{by_session}
use Rattle.iv_types.specs.Maps.{Map}
use Rattle.iv_types.specs.declared.lock.Want.{Want}
use Rattle.iv_types.specs.declared.lock.GroupDelta.{GroupDelta}
use Rattle.lock_manager.specs.Table as table
use Rattle.lock_manager.specs.Table.{Table, SessionLocks, IsReserved}
use Rattle.lock_desk.specs.Asking.{HasLocks}
use Rattle.lock_desk.specs.PayWants.{wants_at}
use Rattle.txn_machine.specs.State.{State}
use Rattle.txn_machine.specs.Store.{locks_of}
use Rattle.txn_book.specs.Opens.{open_at}
use Rattle.txn_book.specs.Txns.{txn_of}
use Rattle.core_state.specs.Rooms.{IsWanted, AreWanted, still_owed}
use Rattle.core_state.specs.Stands.{Began}
use Rattle.core_state.specs.declared.state.CoreState.{CoreState}
use Rattle.core_state.proofs.Rooms.{rooms_with}

-- more room for locks
pub wanted_more : (room more : ℕ) (locks waiting : List Want) (wants : List (List Want)) (ds : List GroupDelta) → room ≤ more → AreWanted room locks waiting wants ds → AreWanted more locks waiting wants ds
wanted_more room more locks waiting wants [] le h = tt
wanted_more room more locks waiting [] (d ∷ ds) le h = absurd h
wanted_more room more locks waiting (w ∷ ws) (d ∷ ds) le h = (by h.0, h.1)
  where
    by : IsWanted room locks waiting w d (length ds) → IsWanted more locks waiting w d (length ds)
    by (inl full) = inl (full.0, omega (arith, full.1, le))
    by (inr (inl held)) = inr (inl (held.0, held.1, held.2, omega (arith, held.3, le)))
    by (inr (inr waits)) = inr (inr (waits.0, waits.1, omega (arith, waits.2, le)))

pub same_locks : (before after : Table) (i more : ℕ) → IsReserved before after i more → (j : ℕ) → table.locks_of after j ≡ table.locks_of before j
same_locks before after i more reserved j = by_session j i
    (λ e. subst (λ k. table.locks_of after k ≡ table.locks_of before k) (sym e) (ap (λ (x : SessionLocks). x.locks) reserved.changed))
    (λ n. ap (λ (x : SessionLocks). x.locks) (reserved.others j n))

same_waiting : (before after : Table) (i more : ℕ) → IsReserved before after i more → (j : ℕ) → table.waiting_of after j ≡ table.waiting_of before j
same_waiting before after i more reserved j = by_session j i
    (λ e. subst (λ k. table.waiting_of after k ≡ table.waiting_of before k) (sym e) (ap (λ (x : SessionLocks). x.waiting) reserved.changed))
    (λ n. ap (λ (x : SessionLocks). x.waiting) (reserved.others j n))

module _ {M : Type 0} (maps : M → ℕ → Map) (spare : M → ℕ → ℕ) (limit : M → Option ℕ) (core : CoreState M) (s : State) (i : ℕ) (h : Began maps spare limit core s i) where
  pub locks_began : (after : Table) (more : ℕ) → IsReserved core.locks after i more → Began maps spare limit (record core { locks = after }) s i
  locks_began after more reserved = record {
    reached = h.reached;
    opening = h.opening;
    reserves = h.reserves;
    runs = h.runs;
    holds = record {
      stored = h.holds.stored;
      book = h.holds.book;
      locks = λ j js. subst (λ ls. HasLocks ls (locks_of s.store j)) (sym (same_locks core.locks after i more reserved j)) (h.holds.locks j js);
      begun = h.holds.begun;
      next = h.holds.next;
      texts = h.holds.texts;
      row_mark = h.holds.row_mark;
      delta_mark = h.holds.delta_mark;
      most = h.holds.most;
      past = h.holds.past;
      ahead = h.holds.ahead;
      rooms = rooms_with (spare core.store.tables) (spare core.store.tables) core.store.catalog core.store.views core.store.views core.book.opens core.book.opens core.locks after core.wants core.wants i (open_at core.book.opens i) h.holds.rooms h.holds.rooms.undo refl (λ j n. refl)
          (record { of_locks = reserved.others; of_wants = λ j n. refl; of_buffers = λ j n. omega arith; of_seats = λ j place n has. has })
          (λ t is js. let c = h.holds.rooms.each i js t is in record {
            wanted = subst (λ (p : SessionLocks). AreWanted p.room p.locks p.waiting (wants_at core.wants i) (still_owed (txn_of t))) (sym reserved.changed)
                (wanted_more (table.room_of core.locks i) (max (table.room_of core.locks i) more) (table.locks_of core.locks i) (table.waiting_of core.locks i) (wants_at core.wants i) (still_owed (txn_of t)) (omega arith) c.wanted);
            buffers = c.buffers;
            seats = c.seats;
            kept = c.kept;
            small = c.small;
          });
    };
    own = λ js. same_waiting core.locks after i more reserved i ∙ h.own js;
    waiting = λ j js n. same_waiting core.locks after i more reserved j ∙ h.waiting j js n;
    counts = record { steps = h.counts.steps; seats = h.counts.seats; few = h.counts.few; cleaner = h.counts.cleaner; removed = h.counts.removed; running = h.counts.running; begun = h.counts.begun; next = h.counts.next; stop = h.counts.stop };
  }
