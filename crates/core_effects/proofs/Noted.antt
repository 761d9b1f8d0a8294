-- A Fetch is noted.
use Rattle.std.specs.Prelude.{◌+◌, ◌≤◌, ◌≡◌, ℕ, List, ◌∷◌, length, Option, Some, refl}
use mathlib.Core.Path.{sym, ap, subst}
use Rattle.std.proofs.Common.{arith}
use Rattle.iv_types.specs.Maps.{Map}
use Rattle.lock_manager.specs.Table as table
use Rattle.lock_desk.specs.Asking.{HasLocks}
use Rattle.lock_desk.specs.PayWants.{wants_at}
use Rattle.txn_machine.specs.Acts.{Act}
use Rattle.txn_machine.specs.Counts.{note_size, definition_sizes, most_of_transaction}
use Rattle.txn_machine.specs.Ghosts.{the_views}
use Rattle.txn_machine.specs.Keeping.{Open, Note}
use Rattle.txn_machine.specs.Locks.{with_one}
use Rattle.txn_machine.specs.Log.{Log, logs}
use Rattle.txn_machine.specs.May.{IsOpen}
use Rattle.txn_machine.specs.Store.{Store, now, schema_of, committed, with_txn, does, Notes}
use Rattle.txn_machine.proofs.Basics.{one_same, one_other}
use Rattle.txn_machine.proofs.LogRoom.{logs_logged}
use Rattle.txn_book.specs.Books.{Books, IsBook, Changes}
use Rattle.txn_book.specs.Opens.{open_at}
use Rattle.txn_book.specs.Txns.{txn_of, noting}
use Rattle.txn_book.specs.Holding as book
use Rattle.txn_book.specs.declared.open_table.Open.{Open as BookOpen}
use Rattle.txn_book.proofs.Holding.{changed_holds, noted_is}
use Rattle.data_store.specs.Contents.{contents_of}
use Rattle.data_store.specs.Held.{IsHeld}
use Rattle.data_past.proofs.Aheads.{ahead_notes}
use Rattle.data_past.proofs.Effects.{past_notes}
use Rattle.core_state.specs.Rooms.{gone_if}
use Rattle.core_state.specs.Stands.{Holds, Texts}
use Rattle.core_state.specs.declared.state.CoreState.{CoreState}
use Rattle.core_state.proofs.Rooms.{rooms_changed, elsewhere_same, covered_alike}
use Rattle.core_state.proofs.Sessions.{contents_as, kept_same, locks_same}
use Rattle.core_effects.proofs.Opened.{Has, own}

module _ {M : Type 0} (maps : M → ℕ → Map) (spare : M → ℕ → ℕ) (limit : M → Option ℕ) (core : CoreState M) (s : Store) (l : Log) (texts : Texts) (i : ℕ) (h : Holds maps spare limit core s l texts) (o : IsOpen s i)
    (a : Act) (n : Note) (bytes : ℕ) (after : Books) (good : IsBook core.book) where
  abbrev noted : Open
  noted = record (now s i) { notes = n ∷ (now s i).notes }

  pub noted_holds : ((t : BookOpen) → open_at core.book.opens i ≡ Some t → t.txn_bytes + bytes ≤ most_of_transaction) → ((t : BookOpen) → open_at core.book.opens i ≡ Some t → Changes core.book after i (noting (txn_of t) bytes)) → note_size (schema_of s) n ≡ bytes → n.kept ≡ length (now s i).kept
      → Holds maps spare limit (record core { book = after }) (does the_views s i (Notes n)) (logs s i a (Notes n) l) texts
  noted_holds fits changed size last =
      let mine : Has (schema_of s) (open_at core.book.opens i) (now s i) (l.logged i) = own maps spare limit core s l texts i h o in
      let changes : Changes core.book after i (noting (txn_of mine.txn) bytes) = changed mine.txn mine.there in
      record {
        stored = subst (IsHeld core.store.catalog (maps core.store.tables) core.store.views)
            (contents_as (contents_of s) (contents_of (with_txn s i (Some noted))) refl refl refl (λ j. sym (kept_same s.open_of i (Some noted) refl j))) h.stored;
        book = subst (λ x. book.Holds after (schema_of s) (with_one s.open_of i (Some noted)) x s.history (committed s).number (definition_sizes texts.since)) (sym (logs_logged s i a (Notes n) l))
            (changed_holds core.book (schema_of s) s.open_of l.logged s.history (committed s).number (definition_sizes texts.since) h.book good i o.of_session after (with_one s.open_of i (Some noted)) (with_one l.logged i (l.logged i))
            (λ j differ. (one_other s.open_of i (Some noted) j differ, one_other l.logged i (l.logged i) j differ)) (noting (txn_of mine.txn) bytes) noted changes (one_same s.open_of i (Some noted) i refl)
            (subst (book.IsTxn (schema_of s) (noting (txn_of mine.txn) bytes) noted) (sym (one_same l.logged i (l.logged i) i refl))
            (subst (λ b. book.IsTxn (schema_of s) (noting (txn_of mine.txn) b) noted (l.logged i)) size (noted_is (schema_of s) (txn_of mine.txn) (now s i) (l.logged i) mine.is n last))));
        locks = λ j js. subst (HasLocks (table.locks_of core.locks j)) (sym (locks_same s.open_of i (Some noted) refl j)) (h.locks j js);
        begun = h.begun;
        next = h.next;
        texts = h.texts;
        row_mark = h.row_mark;
        delta_mark = h.delta_mark;
        most = h.most;
        past = past_notes core.store.row_versions.versions core.store.delta_versions.versions core.store.pending.entries s h.past i n o.of_session;
        ahead = ahead_notes core.ahead core.store.row_versions.room core.store.delta_versions.room s h.ahead i n;
        rooms = rooms_changed (spare core.store.tables) (spare core.store.tables) core.store.catalog core.store.views core.store.views core.book after core.locks core.locks core.wants core.wants i
            (noting (txn_of mine.txn) bytes) good o.of_session h.rooms changes (λ index. let same : gone_if index (open_at core.book.opens i) ≡ gone_if index (Some mine.txn) = ap (gone_if index) mine.there in omega (arith, same)) (elsewhere_same i core.store.views core.locks core.wants)
            (covered_alike core.store.catalog core.store.views core.locks (wants_at core.wants i) i (txn_of mine.txn) (noting (txn_of mine.txn) bytes) refl refl refl (fits mine.txn mine.there) (h.rooms.each i o.of_session mine.txn mine.there));
      }
