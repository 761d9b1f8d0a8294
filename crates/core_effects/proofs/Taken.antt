-- A session has taken locks.
use Rattle.std.specs.Prelude.{◌≡◌, ℕ, List, [], ◌++◌, Option, Some, refl}
use Rattle.std.specs.Option.{unwrap_or}
use Rattle.std.specs.List.{Contains}
use mathlib.Core.Path.{sym, ap, subst}
use mathlib.Core.Logic.{inl, inr}
use Rattle.std.proofs.Common.{arith}
use Rattle.std.proofs.lemmas.List.Elements.{Contains-append_left, Contains-append_right, Contains-append_cases}
use Rattle.table_laws.proofs.Stored.{by_session}
use Rattle.iv_types.specs.Maps.{Map}
use Rattle.iv_types.specs.declared.lock.Want.{Want}
use Rattle.iv_meaning.specs.Escrow.{IsSession}
use Rattle.lock_manager.specs.Table as table
use Rattle.lock_manager.specs.Table.{Table, SessionLocks, IsGranted, HasGained}
use Rattle.lock_desk.specs.Asking.{HasLocks}
use Rattle.lock_desk.specs.PayWants.{wants_at}
use Rattle.txn_machine.specs.Acts.{Act}
use Rattle.txn_machine.specs.Ghosts.{the_views}
use Rattle.txn_machine.specs.Keeping.{Open, idle}
use Rattle.txn_machine.specs.Locks.{with_one}
use Rattle.txn_machine.specs.Log.{Log, logs}
use Rattle.txn_machine.specs.May.{IsOpen}
use Rattle.txn_machine.specs.Store.{Store, now, schema_of, locks_of, with_txn, does, Takes}
use Rattle.txn_machine.proofs.Basics.{one_same, one_other}
use Rattle.txn_machine.proofs.LogRoom.{logs_logged}
use Rattle.txn_book.specs.Opens.{open_at}
use Rattle.txn_book.specs.Txns.{txn_of}
use Rattle.txn_book.specs.Holding as book
use Rattle.data_store.specs.Contents.{contents_of}
use Rattle.data_store.specs.Held.{IsHeld}
use Rattle.data_past.proofs.Aheads.{ahead_takes}
use Rattle.data_past.proofs.Effects.{past_takes}
use Rattle.core_state.specs.Rooms.{HasRooms, AreWanted, still_owed}
use Rattle.core_state.specs.Stands.{Holds, Texts}
use Rattle.core_state.specs.declared.state.CoreState.{CoreState}
use Rattle.core_state.proofs.Rooms.{rooms_with}
use Rattle.core_state.proofs.Sessions.{contents_as, kept_same}
use Rattle.core_effects.proofs.Opened.{Has, own, locked_is}

-- locks and wants, in whatever order
gained_as : (held before wants after : List Want) → HasLocks held before → HasGained held wants after → HasLocks after (wants ++ before)
gained_as held before wants after same gained w = (to, from)
  where
    to : Contains after w → Contains (wants ++ before) w
    to c = elim ((gained w).0 c) [ inl old ↦ Contains-append_right wants before w ((same w).0 old) | inr new ↦ Contains-append_left wants before w new ]

    from : Contains (wants ++ before) w → Contains after w
    from c = elim (Contains-append_cases wants before w c) [ inl new ↦ (gained w).1 (inr new) | inr old ↦ (gained w).1 (inl ((same w).1 old)) ]

module _ {M : Type 0} (maps : M → ℕ → Map) (spare : M → ℕ → ℕ) (limit : M → Option ℕ) (core : CoreState M) (s : Store) (l : Log) (texts : Texts) (i : ℕ) (h : Holds maps spare limit core s l texts) (o : IsOpen s i)
    (a : Act) (wants : List Want) (after : Table) (back : List (List (List Want))) (granted : IsGranted core.locks after i wants) where
  abbrev taken : Open
  taken = record (now s i) { locks = wants ++ (now s i).locks }

  abbrev opens : ℕ → Option Open
  opens = with_one s.open_of i (Some taken)

  txn_same : (j : ℕ) → IsSession j → book.IsSame (schema_of s) (open_at core.book.opens j) (opens j) ((logs s i a (Takes wants) l).logged j)
  txn_same j js =
      subst (λ (f : ℕ → Rattle.txn_machine.specs.Log.Logged). book.IsSame (schema_of s) (open_at core.book.opens j) (opens j) (f j)) (sym (logs_logged s i a (Takes wants) l))
      (by_session j i
      (λ e. subst (λ k. book.IsSame (schema_of s) (open_at core.book.opens k) (opens k) (with_one l.logged i (l.logged i) k)) (sym e)
      (let mine : Has (schema_of s) (open_at core.book.opens i) (now s i) (l.logged i) = own maps spare limit core s l texts i h o in
      subst (λ x. book.IsSame (schema_of s) (open_at core.book.opens i) x (with_one l.logged i (l.logged i) i)) (sym (one_same s.open_of i (Some taken) i refl))
      (subst (λ x. book.IsSame (schema_of s) (open_at core.book.opens i) (Some taken) x) (sym (one_same l.logged i (l.logged i) i refl))
      (subst (λ x. book.IsSame (schema_of s) x (Some taken) (l.logged i)) (sym mine.there) (locked_is (schema_of s) (txn_of mine.txn) (now s i) taken (l.logged i) refl refl refl refl refl refl refl mine.is)))))
      (λ n. subst (λ x. book.IsSame (schema_of s) (open_at core.book.opens j) x (with_one l.logged i (l.logged i) j)) (sym (one_other s.open_of i (Some taken) j n))
      (subst (λ x. book.IsSame (schema_of s) (open_at core.book.opens j) (s.open_of j) x) (sym (one_other l.logged i (l.logged i) j n)) (h.book.txns j js))))

  -- whatever stands ready then
  pub taken_holds : HasRooms (spare core.store.tables) core.store.catalog core.store.views core.book.opens after back
      → Holds maps spare limit (record core { locks = after; wants = back }) (does the_views s i (Takes wants)) (logs s i a (Takes wants) l) texts
  taken_holds rooms = record {
    stored = subst (IsHeld core.store.catalog (maps core.store.tables) core.store.views)
        (contents_as (contents_of s) (contents_of (with_txn s i (Some taken))) refl refl refl (λ j. sym (kept_same s.open_of i (Some taken) refl j))) h.stored;
    book = record { number = h.book.number; nobody = h.book.nobody; txns = txn_same; entries = h.book.entries; bytes = h.book.bytes };
    locks = λ j js. by_session j i
        (λ e. subst (λ k. HasLocks (table.locks_of after k) (unwrap_or (opens k) idle).locks) (sym e)
        (subst (λ x. HasLocks (table.locks_of after i) (unwrap_or x idle).locks) (sym (one_same s.open_of i (Some taken) i refl)) (gained_as (table.locks_of core.locks i) (locks_of s i) wants (table.locks_of after i) (h.locks i o.of_session) granted.locks)))
        (λ n. subst (λ x. HasLocks (table.locks_of after j) (unwrap_or x idle).locks) (sym (one_other s.open_of i (Some taken) j n))
        (subst (λ (x : SessionLocks). HasLocks x.locks (locks_of s j)) (sym (granted.others j n)) (h.locks j js)));
    begun = h.begun;
    next = h.next;
    texts = h.texts;
    row_mark = h.row_mark;
    delta_mark = h.delta_mark;
    most = h.most;
    past = past_takes core.store.row_versions.versions core.store.delta_versions.versions core.store.pending.entries s h.past i wants o.of_session;
    ahead = ahead_takes core.ahead core.store.row_versions.room core.store.delta_versions.room s h.ahead i wants;
    rooms = rooms;
  }

  -- a session that owes nothing
  pub none_rooms : back ≡ core.wants → ((t : Rattle.txn_book.specs.declared.open_table.Open.Open) → open_at core.book.opens i ≡ Some t → still_owed (txn_of t) ≡ [])
      → HasRooms (spare core.store.tables) core.store.catalog core.store.views core.book.opens after back
  none_rooms same nothing =
      rooms_with (spare core.store.tables) (spare core.store.tables) core.store.catalog core.store.views core.store.views core.book.opens core.book.opens core.locks after core.wants back i (open_at core.book.opens i) h.rooms h.rooms.undo refl (λ j n. refl)
      (record { of_locks = granted.others; of_wants = λ j n. ap (λ ws. wants_at ws j) same; of_buffers = λ j n. omega arith; of_seats = λ j place n has. has })
      (λ t is js. let c = h.rooms.each i js t is in record {
        wanted = subst (AreWanted (table.room_of after i) (table.locks_of after i) (table.waiting_of after i) (wants_at back i)) (sym (nothing t is)) tt;
        buffers = c.buffers;
        seats = c.seats;
        kept = c.kept;
        small = c.small;
      })
