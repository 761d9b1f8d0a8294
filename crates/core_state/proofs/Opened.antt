-- A core as it is made, and as a step begins.
use Rattle.std.specs.Prelude.{◌≡◌, ◌≢◌, ℕ, ◌+◌, ℤ, List, [], ◌∷◌, map, length, Option, None, Some, IsSome, refl}
use Rattle.std.specs.List.{AllZip, sum}
use Rattle.std.specs.FinMap.{empty, entries, len-entries, len-empty}
use mathlib.Core.Path.{sym, ap, subst, ◌∙◌}
use Rattle.std.proofs.Common.{arith}
use Rattle.std.proofs.lemmas.List.{nil_from_length, length-map}
use Rattle.table_laws.specs.Place.{Place, place_cmp}
use Rattle.table_laws.proofs.Stored.{by_session}
use Rattle.iv_types.specs.Maps.{Map}
use Rattle.lock_manager.specs.Table as table
use Rattle.lock_manager.specs.Table.{Table, SessionLocks, IsCancelled, IsNew}
use Rattle.lock_desk.specs.Asking.{HasLocks}
use Rattle.lock_desk.specs.PayWants.{wants_at}
use Rattle.iv_types.specs.declared.lock.Want.{Want}
use Rattle.query_laws.specs.Limited.{IsLimited}
use Rattle.query_laws.proofs.LimitedLemmas.{numbers_law}
use Rattle.core_state.proofs.Rooms.{rooms_back, no_rooms}
use Rattle.iv_meaning.specs.Database.{Row, Database}
use Rattle.iv_meaning.specs.Objects as defined
use Rattle.txn_machine.specs.Laws.{EmptyLaw, IsReached}
use Rattle.txn_machine.specs.Counts.{sum_over}
use Rattle.txn_machine.specs.Log.{Within, block_bytes, opened_log, not_logged, row_entries, view_entry, view_entries}
use Rattle.txn_machine.specs.Store.{locks_of, opened}
use Rattle.txn_machine.specs.State.{State, opened_state}
use Rattle.txn_machine.specs.Steps.{used_data}
use Rattle.txn_machine.proofs.LogSums.{sum_none}
use Rattle.txn_log.specs.Room.{rows_bytes, OpensWithin}
use Rattle.txn_book.specs.Holding as book
use Rattle.txn_book.specs.Opens.{open_at}
use Rattle.txn_book.specs.declared.open_table.Open.{Open}
use Rattle.data_store.specs.Contents.{no_contents}
use Rattle.data_store.specs.Held.{IsHeld}
use Rattle.data_store.specs.Machine.{IsPast}
use Rattle.data_store.specs.Past.{Pendings, RowVersions}
use Rattle.data_store.specs.ViewPast.{DeltaVersions}
use Rattle.data_past.specs.Ahead.{rows_at, deltas_at}
use Rattle.data_past.proofs.Aheads.{ahead_opened}
use Rattle.data_past.proofs.Effects.{past_opened}
use Rattle.data_room.specs.Reserved.{share_at, kept_for}
use Rattle.data_room.proofs.Kept.{reserved_none}
use Rattle.log_room.specs.Rooms.{IsRoomOf}
use Rattle.core_state.specs.Seats.{new_seat, seat_at, machine_seat, machine_cleaner}
use Rattle.core_state.specs.Stands.{Stands, Began, limited}
use Rattle.core_state.specs.declared.state.CoreState.{CoreState}

module _ {M : Type 0} (maps : M → ℕ → Map) (spare : M → ℕ → ℕ) (limit : M → Option ℕ) (core : CoreState M) (t : Table) (back : List (List (List Want))) (s : State) (i : ℕ) where
  locks_same : IsCancelled core.locks t i → (j : ℕ) → table.locks_of t j ≡ table.locks_of core.locks j
  locks_same cancelled j = by_session j i
      (λ e. subst (λ k. table.locks_of t k ≡ table.locks_of core.locks k) (sym e) (ap (λ (x : SessionLocks). x.locks) cancelled.changed))
      (λ n. ap (λ (x : SessionLocks). x.locks) (cancelled.others j n))

  -- the session waits for nothing
  pub begins : IsCancelled core.locks t i → ((more : List (List Want)) → wants_at core.wants i ≡ [] ∷ more → wants_at back i ≡ table.waiting_of core.locks i ∷ more)
      → ((want : Want) (others : List Want) (more : List (List Want)) → wants_at core.wants i ≡ (want ∷ others) ∷ more → wants_at back i ≡ wants_at core.wants i) → ((j : ℕ) → j ≢ i → wants_at back j ≡ wants_at core.wants j)
      → Stands maps spare limit core s → s.stop ≡ None → Began maps spare limit (record core { locks = t; wants = back }) s i
  begins cancelled put there others h runs = record {
    reached = h.reached;
    opening = h.opening;
    runs = runs;
    reserves = h.reserves runs;
    holds = record {
      stored = h.holds.stored;
      book = h.holds.book;
      locks = λ j js. subst (λ ls. HasLocks ls (locks_of s.store j)) (sym (locks_same cancelled j)) (h.holds.locks j js);
      begun = h.holds.begun;
      next = h.holds.next;
      texts = h.holds.texts;
      row_mark = h.holds.row_mark;
      delta_mark = h.holds.delta_mark;
      past = h.holds.past;
      ahead = h.holds.ahead;
      most = h.holds.most;
      rooms = rooms_back (spare core.store.tables) core.store.catalog core.store.views core.book.opens core.locks t core.wants back i h.holds.rooms cancelled put there others;
    };
    own = λ _. ap (λ (x : SessionLocks). x.waiting) cancelled.changed;
    waiting = λ j js n. ap (λ (x : SessionLocks). x.waiting) (cancelled.others j n) ∙ h.waiting j js;
    counts = record {
      steps = h.counts.steps;
      seats = h.counts.seats;
      few = h.counts.few;
      cleaner = h.counts.cleaner;
      removed = h.counts.removed;
      running = h.counts.running;
      begun = h.counts.begun;
      next = h.counts.next;
      stop = h.counts.stop;
    };
  }

-- ---- a new core

module _ {M : Type 0} (maps : M → ℕ → Map) (spare : M → ℕ → ℕ) (limit : M → Option ℕ) (core : CoreState M) (number : ℕ) where
  abbrev the_db : Database
  the_db = record { number = number; schema = []; rows = empty }

  abbrev the_state : State
  the_state = opened_state (limited core.log_room.limit core.data_room.limit) (opened the_db empty)

  abbrev reached_here : EmptyLaw → IsReached the_state
  reached_here law = record { db = the_db; view = empty; opening = limited core.log_room.limit core.data_room.limit; was_opened = law number; steps = []; run = refl }

  no_entries : {X : Type 0} → entries (empty {X = X} {R = place_cmp}) ≡ []
  no_entries {X} = nil_from_length _ (sym (len-entries (empty {X = X} {R = place_cmp})) ∙ len-empty place_cmp X)

  -- nothing is used
  within_here : (most : Option ℕ) → OpensWithin (limited core.log_room.limit most) (record { db = the_db; view = empty })
  within_here None = tt
  within_here (Some most) =
      let rows : rows_bytes [] empty ≡ 0 = ap (λ (es : List (Place × Row)). sum (map (λ e. row_entries [] e.0 e.1) es)) no_entries in
      let views : view_entries empty ≡ 0 = ap (λ (es : List (Place × List ℤ)). sum (map (λ e. view_entry e.0 (length e.1)) es)) no_entries in
      let kept : sum_over 64 (kept_for [] (λ session. None) (λ session. not_logged)) ≡ 0 = sum_none 64 (kept_for [] (λ session. None) (λ session. not_logged)) (λ j lo hi. refl) in
      let all : used_data (opened_state (limited core.log_room.limit (Some most)) (opened the_db empty)) ≡ rows_bytes [] empty + view_entries empty + 0 + sum_over 64 (kept_for [] (λ session. None) (λ session. not_logged)) = refl in
      omega (arith, rows, views, kept, all)

  nobody : (o : Option Open) → o ≡ None → book.IsSame [] o None not_logged
  nobody o e = subst (λ x. book.IsSame [] x None not_logged) (sym e) tt

  -- without versions, and nothing is pending
  past_of : {rows : RowVersions} {deltas : DeltaVersions} {pending : Pendings} → rows ≡ [] → deltas ≡ [] → pending ≡ empty → IsPast rows deltas pending (opened the_db empty)
  past_of {rows} {deltas} {pending} no_rows no_deltas none =
      subst (λ (r : RowVersions). IsPast r deltas pending (opened the_db empty)) (sym no_rows)
      (subst (λ (d : DeltaVersions). IsPast [] d pending (opened the_db empty)) (sym no_deltas)
      (subst (λ (p : Pendings). IsPast [] [] p (opened the_db empty)) (sym none) (past_opened the_db empty)))

  -- it stands where the machine begins
  pub made : EmptyLaw → IsHeld core.store.catalog (maps core.store.tables) core.store.views no_contents → maps core.store.tables 0 ≡ empty → (core.store.row_versions.pruned ≡ number) × (core.store.delta_versions.pruned ≡ number)
      → (core.store.row_versions.versions ≡ []) × (core.store.delta_versions.versions ≡ []) × (core.store.pending.entries ≡ empty) → core.book.opened ≡ number → core.book.history ≡ [] → core.book.entry_bytes ≡ 0 → ((session : ℕ) → open_at core.book.opens session ≡ None)
      → IsRoomOf core.log_room (opened the_db empty) (opened_log 1) → Within core.log_room.limit (block_bytes + 1) → IsSome core.data_room.limit
      → IsNew core.locks → ((session : ℕ) → rows_at core.ahead session ≡ []) → ((session : ℕ) → deltas_at core.ahead session ≡ []) → limit core.store.tables ≡ core.data_room.limit → core.data_room.total ≡ 0 → ((session : ℕ) → share_at core.data_room.shares session ≡ 0) → core.begun ≡ 0 → core.next ≡ 1 → core.steps ≡ 0 → ((session : ℕ) → seat_at core.seats session ≡ new_seat) → machine_cleaner core.cleaner ≡ the_state.cleaner → core.stop ≡ None → Stands maps spare limit core the_state
  made law stored no_texts marks past opened_at history bytes none log_room least bounded new no_rows no_deltas most total shares begun next steps seats cleaner stop = record {
    reached = reached_here law;
    opening = record { log_is = refl; data_is = refl; reached = reached_here law; was = refl; least = least; bounded = bounded; within = within_here core.data_room.limit; early = omega arith };
    reserves = λ _. record { data_room = reserved_none core.data_room [] (λ session. None) (λ session. not_logged) total shares (λ session. refl); log_room = log_room };
    holds = record {
      stored = stored;
      book = record {
        number = omega (arith, opened_at, ap length history);
        nobody = none 0;
        txns = λ j js. nobody (open_at core.book.opens j) (none j);
        entries = subst (λ es. AllZip book.IsEntry es []) (sym history) tt;
        bytes = bytes;
      };
      locks = λ j js. subst (λ ls. HasLocks ls []) (sym (ap (λ (x : SessionLocks). x.locks) (new j))) (λ w. (λ h. h, λ h. h));
      begun = begun;
      next = next;
      texts = record { are = no_texts; many = let none : length (defined.schema_of core.store.catalog) ≡ 0 = ap length stored.objects in let same = length-map core.store.catalog defined.object_of in omega (arith, none, same); short = tt; few = omega arith };
      row_mark = marks.0;
      delta_mark = marks.1;
      past = past_of past.0 past.1 past.2;
      ahead = ahead_opened core.ahead core.store.row_versions.room core.store.delta_versions.room the_db empty no_rows no_deltas;
      most = most;
      rooms = no_rooms (spare core.store.tables) core.store.catalog core.store.views core.book.opens core.locks core.wants (subst IsLimited (sym stored.objects) numbers_law.0) none;
    };
    waiting = λ j js. ap (λ (x : SessionLocks). x.waiting) (new j);
    counts = record {
      steps = steps;
      seats = λ j le. ap machine_seat (seats j);
      few = λ j. omega arith;
      cleaner = cleaner;
      removed = omega arith;
      running = λ e. omega arith;
      begun = omega arith;
      next = omega arith;
      stop = stop;
    };
  }
