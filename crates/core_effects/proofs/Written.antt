-- A change is made.
use Rattle.std.specs.Prelude.{◌≡◌, ◌≢◌, ◌*◌, ◌+◌, ◌≤◌, ℕ, List, [], ◌∷◌, ◌++◌, map, length, reverse, Option, Some, refl}
use mathlib.Core.Path.{sym, ap, subst, ◌∙◌}
use mathlib.Core.Logic.{inl, inr}
use Rattle.std.proofs.Common.{arith}
use Rattle.std.proofs.lemmas.List.Elements.{Contains-append_cases, Contains-append_right}
use Rattle.table_laws.specs.Table.{write}
use Rattle.iv_types.specs.Maps.{Map}
use Rattle.iv_types.specs.declared.lock.GroupDelta.{GroupDelta}
use Rattle.iv_types.specs.declared.lock.Kept.{Kept}
use Rattle.iv_types.specs.declared.lock.Want.{Want}
use Rattle.ghost_rows.specs.State.{room_of}
use Rattle.lock_manager.specs.Table as table
use Rattle.lock_desk.specs.Asking.{HasLocks}
use Rattle.lock_desk.specs.PayWants.{wants_at}
use Rattle.table_store.specs.Changes.{TakesRoom}
use Rattle.txn_machine.specs.Acts.{Act}
use Rattle.txn_machine.specs.Counts.{definition_sizes, put_size, most_of_transaction}
use Rattle.txn_machine.specs.Deltas.{RowChange}
use Rattle.txn_machine.specs.Ghosts.{the_views}
use Rattle.txn_machine.specs.Keeping.{Put, Open}
use Rattle.txn_machine.specs.Locks.{with_one}
use Rattle.txn_machine.specs.Log.{Log, Logged, logs, keeps}
use Rattle.txn_machine.specs.RowChanges.{row_change}
use Rattle.txn_machine.specs.Steps.{put_owed, group_want}
use Rattle.txn_machine.specs.Store.{Store, Writes, does, wrote, now, schema_of, committed}
use Rattle.txn_machine.proofs.Basics.{one_same, one_other}
use Rattle.txn_book.specs.Books.{Books, IsBook, Changes}
use Rattle.txn_book.specs.Opens.{open_at}
use Rattle.txn_book.specs.Txns.{Txn, txn_of, with_put}
use Rattle.txn_book.specs.Holding as book
use Rattle.txn_book.specs.declared.open_table.Open.{Open as BookOpen}
use Rattle.txn_book.proofs.Holding.{changed_holds, put_is}
use Rattle.data_store.specs.Contents.{contents_of}
use Rattle.data_store.proofs.Told.{untold_held}
use Rattle.data_store.specs.Held.{IsHeld}
use Rattle.data_store.specs.Machine.{IsPast}
use Rattle.data_store.specs.declared.store.Pending.{Pending}
use Rattle.data_changes.specs.Effects as effect
use Rattle.data_past.specs.Moves.{one_more, ChangesAt, CanCount}
use Rattle.data_past.proofs.Committing.{can_count}
use Rattle.data_past.specs.Ahead.{Becomes, rows_at, deltas_at, all_deltas, made_of}
use Rattle.data_past.specs.declared.versions.Versions.{Versions}
use Rattle.data_past.proofs.Aheads.{ahead_writes}
use Rattle.data_past.proofs.Committing.{made_as}
use Rattle.data_past.proofs.Effects.{past_writes}
use Rattle.spare_map.specs.Spared.{Spared}
use Rattle.table_laws.specs.Place.{Place}
use Rattle.core_state.proofs.Few.{session_few}
use Rattle.core_state.specs.Rooms.{AreWanted, IsCovered, CanBeTakenBack, all_gone, gone_if, gone_of, paid}
use Rattle.core_state.specs.Stands.{Holds, told, Texts, all_texts}
use Rattle.definition_parts.proofs.Staying.{texts_now}
use Rattle.core_state.specs.declared.state.CoreState.{CoreState}
use Rattle.core_state.proofs.Rooms.{rooms_moved}
use Rattle.core_state.proofs.Sessions.{contents_as, kept_of, locks_same}
use Rattle.core_effects.specs.Writing.{CanWrite}
use Rattle.core_effects.specs.declared.writing.Writing.{Writing}
use Rattle.core_effects.proofs.Opened.{Has, own}

-- with all wants of its pays there
all_wanted : (room : ℕ) (locks waiting : List Want) (ds : List GroupDelta) → length ds ≤ room → AreWanted room locks waiting (map (λ d. group_want d ∷ []) ds) ds
all_wanted room locks waiting [] le = tt
all_wanted room locks waiting (d ∷ ds) le = (inl (refl, omega (arith, le)), refl)

module _ {M : Type 0} (maps : M → ℕ → Map) (spare : M → ℕ → ℕ) (limit : M → Option ℕ) (core : CoreState M) (s : Store) (l : Log) (texts : Texts) (i : ℕ) (h : Holds maps spare limit core s l texts) (w : Writing) (can : CanWrite maps spare limit s core i w) where
  abbrev pub mine : Has (schema_of s) (open_at core.book.opens i) (now s i) (l.logged i)
  mine = own maps spare limit core s l texts i h can.is_open

  abbrev pub kept : Kept
  kept = w.ready.kept

  abbrev pub c : RowChange
  c = row_change w.ready.kept.change

  abbrev owed : List GroupDelta
  owed = w.owed.items

  -- what is asked of the open transaction holds of this one
  same_open : (t : BookOpen) → open_at core.book.opens i ≡ Some t → t ≡ mine.txn
  same_open t there = let one : Some t ≡ Some mine.txn = sym there ∙ mine.there in cc

  abbrev written : Open
  written = record (now s i) { kept = Put c owed ∷ (now s i).kept; owed = owed; back = 0 }

  abbrev store_after : Store
  store_after = record s { rows = write s.rows c.key c.after; open_of = with_one s.open_of i (Some written) }

  does_is : does the_views s i (Writes c.key c.after) ≡ store_after
  does_is = sym (ap (λ x. wrote s i (now s i) x (put_owed s x)) can.change) ∙ ap (wrote s i (now s i) c) (sym can.owed)

  abbrev t_after : Txn
  t_after = with_put (txn_of mine.txn) kept core.next owed w.txn_bytes w.history_bytes

  abbrev logged_after : Logged
  logged_after = keeps (l.logged i) l.next

  covered_after : (wants : List (List (List Want))) → wants_at wants i ≡ map (λ d. group_want d ∷ []) owed → IsCovered core.store.catalog core.store.views core.locks (wants_at wants i) i t_after
  covered_after wants set =
      let had : IsCovered core.store.catalog core.store.views core.locks (wants_at core.wants i) i (txn_of mine.txn) = h.rooms.each i can.is_open.of_session mine.txn mine.there in
      record {
        wanted = subst (λ ws. AreWanted (table.room_of core.locks i) (table.locks_of core.locks i) (table.waiting_of core.locks i) ws owed) (sym set)
            (all_wanted (table.room_of core.locks i) (table.locks_of core.locks i) (table.waiting_of core.locks i) owed can.owes.locks);
        buffers = subst (λ (t : BookOpen). 2 * length owed + length (paid (reverse t.kept.items)) ≤ room_of core.store.views i) (same_open can.owes.buffers.0 can.owes.buffers.1) can.owes.buffers.2;
        seats = λ d has. elim (Contains-append_cases owed (paid (txn_of mine.txn).kept) d has) [
          | inl mine_ ↦ can.owes.seats d mine_
          | inr old ↦ had.seats d (Contains-append_right (Rattle.core_state.specs.Rooms.still_owed (txn_of mine.txn)) (paid (txn_of mine.txn).kept) d old)
        ];
        kept = ((can.ready.0, can.ready.1, can.ready.2.kept), had.small, had.kept);
        small = subst (λ (t : BookOpen). t.txn_bytes + w.txn_bytes ≤ most_of_transaction) (same_open can.small.0 can.small.1) can.small.2;
      }

  -- one more change of its row can be counted
  pub counted_once : CanCount core.store.pending.entries (w.noting.index, w.noting.key)
  counted_once = can_count core.store.row_versions.versions core.store.delta_versions.versions core.store.pending.entries s h.past i can.is_open.of_session (w.noting.index, w.noting.key)
      (λ j js. let few = session_few maps spare limit core s l texts h j js in omega (arith, few))

  pub written_holds : (a : Act) (tables : M) (pending : Spared Pending) (after : Books) (wants : List (List (List Want))) → ChangesAt (w.noting.index, w.noting.key) (one_more w.noting.committed) core.store.pending.entries pending.entries
      → (ahead : List Versions) → Becomes core.ahead ahead i (rows_at core.ahead i ++ w.version ∷ []) (deltas_at core.ahead i ++ w.copies.items) → limit tables ≡ limit core.store.tables → IsBook core.book
      → TakesRoom (spare core.store.tables) (spare tables) kept.gone kept.made
      → IsHeld core.store.catalog (maps tables) core.store.views (effect.with_put (told s texts) i c owed)
      → Changes core.book after i t_after → wants_at wants i ≡ w.wants.items → ((j : ℕ) → j ≢ i → wants_at wants j ≡ wants_at core.wants j)
      → Holds maps spare limit (record core { store = record core.store { tables = tables; pending = pending }; book = after; wants = wants; ahead = ahead; next = core.next + 1 }) (does the_views s i (Writes c.key c.after)) (logs s i a (Writes c.key c.after) l) texts
  written_holds a tables pending after wants counts ahead added same_limit good takes stored changes set others =
      subst (λ u. Holds maps spare limit (record core { store = record core.store { tables = tables; pending = pending }; book = after; wants = wants; ahead = ahead; next = core.next + 1 }) u (logs s i a (Writes c.key c.after) l) texts) (sym does_is)
      (record {
        stored = untold_held core.store.catalog (maps tables) core.store.views (told store_after texts)
            (subst (IsHeld core.store.catalog (maps tables) core.store.views)
            (contents_as (effect.with_put (told s texts) i c owed) (contents_of store_after) refl refl refl (λ j. sym (kept_of s.open_of i (Some written) j))) stored);
        book = changed_holds core.book (schema_of s) s.open_of l.logged s.history (committed s).number (definition_sizes texts.since) h.book good i can.is_open.of_session after (with_one s.open_of i (Some written)) (with_one l.logged i logged_after)
            (λ j n. (one_other s.open_of i (Some written) j n, one_other l.logged i logged_after j n)) t_after written changes (one_same s.open_of i (Some written) i refl)
            (subst (book.IsTxn (schema_of s) t_after written) (sym (one_same l.logged i logged_after i refl))
            (subst (λ n. book.IsTxn (schema_of s) t_after written (keeps (l.logged i) n)) h.next is_it));
        locks = λ j js. subst (HasLocks (table.locks_of core.locks j)) (sym (locks_same s.open_of i (Some written) refl j)) (h.locks j js);
        begun = h.begun;
        next = ap (λ n. n + 1) h.next;
        texts = texts_now (maps core.store.tables 0) (maps tables 0) core.store.catalog (all_texts texts) h.texts stored.texts;
        row_mark = h.row_mark;
        delta_mark = h.delta_mark;
        most = same_limit ∙ h.most;
        past = subst (IsPast core.store.row_versions.versions core.store.delta_versions.versions pending.entries) does_is
            (past_writes core.store.row_versions.versions core.store.delta_versions.versions core.store.pending.entries s h.past i can.is_open.of_session c.key pending.entries c.after w.noting.committed can.noted.committed
            (subst (λ (p : Place). ChangesAt p (one_more w.noting.committed) core.store.pending.entries pending.entries) can.noted.is_of counts));
        ahead = ahead_writes core.ahead core.store.row_versions.room core.store.delta_versions.room s h.ahead i can.owes_none c owed store_after refl refl w.version version_is ahead
            (subst (λ ds. Becomes core.ahead ahead i (rows_at core.ahead i ++ w.version ∷ []) (deltas_at core.ahead i ++ ds)) can.ahead.copies added) can.ahead.row_room
            (subst (λ ds. all_deltas core.ahead + length ds ≤ core.store.delta_versions.room) can.ahead.copies can.ahead.delta_room);
        rooms = rooms_moved (spare core.store.tables) (spare tables) core.store.catalog core.store.views core.store.views core.book after core.locks core.locks core.wants wants i
            t_after good can.is_open.of_session h.rooms changes
            (λ index. let here : gone_if index (open_at core.book.opens i) ≡ gone_of index (txn_of mine.txn).kept = ap (gone_if index) mine.there in let room = takes index in let undo = can.undo index in omega (arith, here, room, undo))
            (record { of_locks = λ j n. refl; of_wants = others; of_buffers = λ j n. omega arith; of_seats = λ j place n has. has })
            (covered_after wants (set ∙ can.wants));
      })
    where
      version_is : w.version ≡ made_of (schema_of s) c
      version_is = can.ahead.version ∙ (made_as core.store.catalog kept.change ∙ ap (λ os. made_of os c) h.stored.objects)

      is_it : book.IsTxn (schema_of s) t_after written (keeps (l.logged i) core.next)
      is_it =
          subst (λ n. book.IsTxn (schema_of s) (with_put (txn_of mine.txn) kept core.next owed n w.history_bytes) written (keeps (l.logged i) core.next)) (sym can.bytes)
          (subst (λ n. book.IsTxn (schema_of s) (with_put (txn_of mine.txn) kept core.next owed (put_size (schema_of s) c owed) n) written (keeps (l.logged i) core.next)) (sym can.history_bytes)
          (put_is (schema_of s) (txn_of mine.txn) (now s i) (l.logged i) mine.is kept c owed core.next refl can.notes))
