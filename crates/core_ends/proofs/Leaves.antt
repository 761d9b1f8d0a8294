-- A transaction ends.
use Rattle.std.specs.Prelude.{◌≡◌, ◌≢◌, ℕ, ◌+◌, ◌-◌, ◌≤◌, cond, Bool, true, false, List, [], ◌∷◌, ◌++◌, length, Option, None, Some, slice_set, refl}
use Rattle.std.specs.Option.{unwrap_or}
use mathlib.Core.Path.{sym, ap, subst, ◌∙◌}
use Rattle.std.proofs.Common.{arith}
use Rattle.table_laws.specs.Kept.{redo}
use Rattle.table_laws.proofs.Stored.{by_session}
use Rattle.iv_types.specs.Maps.{Map}
use Rattle.iv_types.specs.declared.statement.Mode.TheVariants.{Serial}
use Rattle.iv_meaning.specs.Schema.{Schema}
use Rattle.iv_meaning.specs.Database.{Database}
use Rattle.iv_meaning.specs.Escrow.{IsSession}
use Rattle.lock_manager.specs.Table as table
use Rattle.lock_manager.specs.Table.{SessionLocks, IsReleased}
use Rattle.lock_desk.specs.Asking.{HasLocks}
use Rattle.txn_machine.specs.Acts.{Act}
use Rattle.txn_machine.specs.Answers.{Answer}
use Rattle.txn_machine.specs.Locks.{with_one}
use Rattle.txn_machine.specs.Keeping.{Open, idle}
use Rattle.txn_machine.specs.Records.{Record, Abort}
use Rattle.txn_machine.specs.Store.{Store, Effect, committed, schema_of, changes_by, with_txn, with_entry, entry_changes, now, locks_of, Ends, Commits, does, run}
use Rattle.txn_machine.specs.Counts.{definition_sizes}
use Rattle.txn_machine.specs.Ghosts.{the_views}
use Rattle.txn_machine.specs.Fresh.{fresh}
use Rattle.txn_machine.specs.Log.{Log, Logged, logs, log_all, appended, not_logged, with_logged}
use Rattle.txn_machine.specs.State.{State, is_fault}
use Rattle.txn_machine.specs.May.{IsOpen, IsReady}
use Rattle.txn_machine.specs.Deltas.{RowChange}
use Rattle.txn_machine.specs.Steps.{Says, CommitsAs, number_unchanged, log_after, definitions_after, texts_of}
use Rattle.txn_machine.proofs.Basics.{one_same, one_other}
use Rattle.txn_machine.proofs.LogRoom.{logs_logged}
use Rattle.txn_machine.proofs.Looking.{view_laws}
use Rattle.txn_machine.proofs.Runs.{committed_after}
use Rattle.txn_book.specs.Opens.{open_at}
use Rattle.txn_book.specs.Books.{IsBook, Seats, Committed}
use Rattle.txn_book.specs.Txns.{txn_of}
use Rattle.txn_book.specs.Holding as book
use Rattle.txn_book.proofs.Holding.{seated_holds}
use Rattle.txn_book.proofs.Entering.{committed_holds}
use Rattle.data_store.specs.Contents.{Contents, contents_of}
use Rattle.data_store.specs.Held.{IsHeld}
use Rattle.data_store.specs.Machine.{IsPast}
use Rattle.data_changes.specs.Effects.{keeping}
use Rattle.data_past.specs.Ahead.{Becomes, rows_at, deltas_at}
use Rattle.data_past.proofs.Aheads.{ahead_gone}
use Rattle.core_state.specs.Seats.{machine_seat, machine_cleaner, seat_at}
use Rattle.data_room.specs.Reserved.{IsReserved, share_at}
use Rattle.data_room.specs.declared.room.DataRoom.{DataRoom}
use Rattle.data_room.proofs.Kept.{reserved_moved, settled_moves}
use Rattle.log_room.specs.Rooms.{IsRoomOf}
use Rattle.log_room.specs.declared.room.LogRoom.{LogRoom}
use Rattle.definition_parts.specs.Parts.{HasTexts}
use Rattle.core_state.specs.Stands.{IsOpening, Began, Told, Holds, Reserves, Counts, is_blocked, its_texts}
use Rattle.definition_parts.proofs.Staying.{same_texts}
use Rattle.core_state.proofs.Data.{data_holds, log_holds}
use Rattle.core_state.proofs.Unchanged.{not_blocked}
use Rattle.core_state.specs.declared.state.CoreState.{CoreState}
use Rattle.core_ends.specs.Ends.{Left}
use Rattle.table_laws.specs.Place.{Place}
use Rattle.ghost_rows.specs.Rows.{row_at, settled_at}
use Rattle.ghost_rows.specs.State.{room_of}
use Rattle.lock_desk.specs.PayWants.{wants_at}
use Rattle.core_state.specs.Rooms.{HasRooms}
use Rattle.core_state.proofs.Rooms.{rooms_closed, seats_left}
use Rattle.core_state.proofs.Sessions.{contents_as, kept_of, HasTxn, now_is}

-- ---- the log

abbrev aborts : Log → ℕ → Option Record
aborts l i = cond (l.logged i).wrote (Some (Abort (l.logged i).transaction)) None

appended_next : (objects : Schema) (r : Record) (l : Log) (b : Bool) → (appended objects (cond b (Some r) None) l).next ≡ cond b (l.next + 1) l.next
appended_next objects r l true = refl
appended_next objects r l false = refl

next_few : (b : Bool) (n : ℕ) → cond b (n + 1) n ≤ n + 1
next_few true n = omega arith
next_few false n = omega arith

-- ---- what is left

module _ {M : Type 0} (maps : M → ℕ → Map) (spare : M → ℕ → ℕ) (limit : M → Option ℕ) (core new : CoreState M) (s : State) (i : ℕ) (h : Began maps spare limit core s i) (is : IsSession i) (good : IsBook core.book)
    (released : IsReleased core.locks new.locks i)
    (stored : (c : Contents) → IsHeld core.store.catalog (maps core.store.tables) core.store.views c → IsHeld new.store.catalog (maps new.store.tables) new.store.views (keeping c i []))
    (rows : (q : Place) → row_at new.store.views.rows q ≡ settled_at i (row_at core.store.views.rows q)) (rooms : (j : ℕ) → j ≢ i → room_of new.store.views j ≡ room_of core.store.views j)
    (tables : new.store.tables ≡ core.store.tables) (catalog : new.store.catalog ≡ core.store.catalog) (wants : new.wants ≡ core.wants)
    (row_mark : new.store.row_versions.pruned ≡ core.store.row_versions.pruned) (delta_mark : new.store.delta_versions.pruned ≡ core.store.delta_versions.pruned) (begun : new.begun ≡ core.begun) (steps : new.steps ≡ core.steps) (seats : new.seats ≡ core.seats) (cleaner : new.cleaner ≡ core.cleaner) (stop : new.stop ≡ core.stop) (same_data : new.data_room ≡ core.data_room) (same_log : new.log_room ≡ core.log_room) where
  left_locks : (u : Store) → ((j : ℕ) → u.open_of j ≡ with_one s.store.open_of i None j) → (j : ℕ) → IsSession j → HasLocks (table.locks_of new.locks j) (locks_of u j)
  left_locks u opens j js =
      subst (λ o. HasLocks (table.locks_of new.locks j) (unwrap_or o idle).locks) (sym (opens j))
      (by_session j i
      (λ e. subst (λ k. HasLocks (table.locks_of new.locks k) (unwrap_or (with_one s.store.open_of i None k) idle).locks) (sym e)
      (subst (λ oo. HasLocks (table.locks_of new.locks i) (unwrap_or oo idle).locks) (sym (one_same s.store.open_of i None i refl)) (subst (λ ls. HasLocks ls []) (sym (ap (λ (y : SessionLocks). y.locks) released.changed)) (λ w. (λ c. c, λ c. c)))))
      (λ ne. subst (λ (y : SessionLocks). HasLocks y.locks (unwrap_or (with_one s.store.open_of i None j) idle).locks) (sym (released.others j ne))
      (subst (λ oo. HasLocks (table.locks_of core.locks j) (unwrap_or oo idle).locks) (sym (one_other s.store.open_of i None j ne)) (h.holds.locks j js))))

  left_rooms : new.book.opens ≡ slice_set core.book.opens i None → HasRooms (spare new.store.tables) new.store.catalog new.store.views new.book.opens new.locks new.wants
  left_rooms opens =
      subst (λ t. HasRooms (spare t) new.store.catalog new.store.views new.book.opens new.locks new.wants) (sym tables)
      (subst (λ c. HasRooms (spare core.store.tables) c new.store.views new.book.opens new.locks new.wants) (sym catalog)
      (rooms_closed (spare core.store.tables) (spare core.store.tables) core.store.catalog core.store.views new.store.views core.book new.book.opens core.locks new.locks core.wants new.wants i good is h.holds.rooms opens
      (λ index. omega arith)
      (record {
        of_locks = released.others;
        of_wants = λ j n. ap (λ ws. wants_at ws j) wants;
        of_buffers = λ j n. let same : room_of new.store.views j ≡ room_of core.store.views j = rooms j n in omega (arith, same);
        of_seats = λ j place n has. seats_left core.store.views new.store.views i j place n (rows place) has;
      })))

  left_most : limit new.store.tables ≡ new.data_room.limit
  left_most = ap limit tables ∙ (h.holds.most ∙ sym (ap (λ (d : DataRoom). d.limit) same_data))

  left_counts : Counts maps spare limit new s
  left_counts = record {
    steps = steps ∙ h.counts.steps;
    seats = λ j le. ap (λ ss. machine_seat (seat_at ss j)) seats ∙ h.counts.seats j le;
    few = h.counts.few;
    cleaner = ap machine_cleaner cleaner ∙ h.counts.cleaner;
    removed = h.counts.removed;
    running = h.counts.running;
    begun = h.counts.begun;
    next = h.counts.next;
    stop = stop ∙ h.counts.stop;
  }

  left_stored : (u : Store) → schema_of u ≡ schema_of s.store → u.rows ≡ s.store.rows → u.view ≡ s.store.view → ((j : ℕ) → u.open_of j ≡ with_one s.store.open_of i None j)
      → IsHeld new.store.catalog (maps new.store.tables) new.store.views (contents_of u)
  left_stored u objects rows view opens =
      subst (IsHeld new.store.catalog (maps new.store.tables) new.store.views)
      (contents_as (keeping (contents_of s.store) i []) (contents_of u) (sym objects) (sym rows) (sym view) (λ j. sym (ap (λ o. (unwrap_or o idle).kept) (opens j) ∙ kept_of s.store.open_of i None j)))
      (stored (contents_of s.store) h.holds.stored)

  -- without an entry
  pub ended : (o : IsOpen s.store i) → Seats core.book new.book i None → new.next ≡ cond (s.log.logged i).wrote (core.next + 1) core.next
      → IsPast new.store.row_versions.versions new.store.delta_versions.versions new.store.pending.entries (does the_views s.store i Ends) → Becomes core.ahead new.ahead i [] []
      → core.store.row_versions.room ≤ new.store.row_versions.room + length (rows_at core.ahead i) → core.store.delta_versions.room ≤ new.store.delta_versions.room + length (deltas_at core.ahead i) → Left maps spare limit s i Ends core new
  ended o seated next past gone row_room delta_room = record {
    holds = λ a. record {
      stored = left_stored (with_txn s.store i None) refl refl refl (λ j. refl);
      book = subst (λ l. book.Holds new.book (schema_of s.store) (with_one s.store.open_of i None) l s.store.history (committed s.store).number (definition_sizes s.definitions)) (sym (logs_logged s.store i a Ends s.log))
          (seated_holds core.book (schema_of s.store) s.store.open_of s.log.logged s.store.history (committed s.store).number (definition_sizes s.definitions) h.holds.book good i is new.book (with_one s.store.open_of i None) (with_one s.log.logged i not_logged)
          (λ j n. (one_other s.store.open_of i None j n, one_other s.log.logged i not_logged j n)) None seated
          (subst (λ x. book.IsSame (schema_of s.store) None x (with_one s.log.logged i not_logged i)) (sym (one_same s.store.open_of i None i refl)) tt));
      locks = left_locks (with_txn s.store i None) (λ j. refl);
      begun = begun ∙ h.holds.begun;
      next = next ∙ (ap (λ n. cond (s.log.logged i).wrote (n + 1) n) h.holds.next ∙ sym (appended_next (schema_of s.store) (Abort (s.log.logged i).transaction) (with_logged s.log i not_logged) (s.log.logged i).wrote));
      texts = subst (λ ds. HasTexts (maps new.store.tables 0) ds (texts_of s)) (sym catalog) (same_texts (maps core.store.tables 0) (maps new.store.tables 0) core.store.catalog (texts_of s) h.holds.texts (ap (λ t. maps t 0) tables));
      row_mark = row_mark ∙ h.holds.row_mark;
      delta_mark = delta_mark ∙ h.holds.delta_mark;
      most = left_most;
      past = past;
      ahead = ahead_gone core.ahead core.store.row_versions.room core.store.delta_versions.room s.store h.holds.ahead i (with_txn s.store i None) refl refl new.ahead gone new.store.row_versions.room new.store.delta_versions.room row_room delta_room;
      rooms = left_rooms seated.opens;
    };
    own = ap (λ (y : SessionLocks). y.waiting) released.changed;
    others = λ j n. ap (λ (y : SessionLocks). y.waiting) (released.others j n);
    counts = left_counts;
    same_data = same_data;
    same_log = same_log;
    reserves = λ a room same moves. reserved_moved (schema_of s.store) s.store.open_of s.log.logged (log_all s.store i a (Ends ∷ []) s.log).logged i None not_logged (λ j. ap (λ (f : ℕ → Logged). f j) (logs_logged s.store i a Ends s.log))
        core.data_room room is same h.reserves.data_room moves;
    appends_one = λ a. subst (λ n. n ≤ s.log.next + 1) (sym (appended_next (schema_of s.store) (Abort (s.log.logged i).transaction) (with_logged s.log i not_logged) (s.log.logged i).wrote)) (next_few (s.log.logged i).wrote s.log.next);
  }

  -- with one
  pub entered : (r : IsReady s.store i Serial) (own : HasTxn (schema_of s.store) (open_at core.book.opens i) r.goes_on.transaction (s.log.logged i)) → Committed core.book new.book i (txn_of own.txn) → new.next ≡ core.next + 1
      → IsPast new.store.row_versions.versions new.store.delta_versions.versions new.store.pending.entries (does the_views s.store i Commits) → Becomes core.ahead new.ahead i [] []
      → core.store.row_versions.room ≤ new.store.row_versions.room + length (rows_at core.ahead i) → core.store.delta_versions.room ≤ new.store.delta_versions.room + length (deltas_at core.ahead i) → Left maps spare limit s i Commits core new
  entered r own did next past gone row_room delta_room =
      let o : IsOpen s.store i = record { of_session = is; transaction = r.goes_on.transaction; is_open = r.goes_on.is_open } in
      let u : Store = with_txn (with_entry s.store i (entry_changes (now s.store i).kept)) i None in
      let after : committed u ≡ record (committed s.store) { number = (committed s.store).number + 1; rows = redo (changes_by s.store i) (committed s.store).rows } = committed_after the_views fresh view_laws s.store i in
      let objects : schema_of u ≡ schema_of s.store = ap (λ (d : Database). d.schema) after in
      let greatest : (committed u).number ≡ (committed s.store).number + 1 = ap (λ (d : Database). d.number) after in
      record {
        holds = λ a. record {
          stored = left_stored u objects refl refl (λ j. refl);
          book = subst (λ l. book.Holds new.book (schema_of u) u.open_of l u.history (committed u).number (definition_sizes s.definitions)) (sym (logs_logged s.store i a Commits s.log))
              (subst (λ n. book.Holds new.book (schema_of u) u.open_of (with_one s.log.logged i not_logged) u.history n (definition_sizes s.definitions)) (sym greatest)
              (subst (λ os. book.Holds new.book os u.open_of (with_one s.log.logged i not_logged) u.history ((committed s.store).number + 1) (definition_sizes s.definitions)) (sym objects)
              (subst (λ (t : Open). book.Holds new.book (schema_of s.store) (with_one s.store.open_of i None) (with_one s.log.logged i not_logged) (s.store.history ++ record { number = (committed s.store).number + 1; session = i; kept = entry_changes t.kept } ∷ []) ((committed s.store).number + 1) (definition_sizes s.definitions)) (sym (now_is maps spare limit core s i h o))
              (committed_holds core.book (schema_of s.store) s.store.open_of s.log.logged s.store.history (committed s.store).number (definition_sizes s.definitions) h.holds.book i new.book good is (with_one s.store.open_of i None) (with_one s.log.logged i not_logged)
              (λ j n. (one_other s.store.open_of i None j n, one_other s.log.logged i not_logged j n)) (txn_of own.txn) o.transaction (s.log.logged i) own.is r.goes_on.mode_is (one_same s.store.open_of i None i refl) did))));
          locks = left_locks u (λ j. refl);
          begun = begun ∙ h.holds.begun;
          next = next ∙ ap (λ n. n + 1) h.holds.next;
          texts = subst (λ ds. HasTexts (maps new.store.tables 0) ds (texts_of s)) (sym catalog) (same_texts (maps core.store.tables 0) (maps new.store.tables 0) core.store.catalog (texts_of s) h.holds.texts (ap (λ t. maps t 0) tables));
          row_mark = row_mark ∙ h.holds.row_mark;
          delta_mark = delta_mark ∙ h.holds.delta_mark;
          most = left_most;
          past = past;
          ahead = ahead_gone core.ahead core.store.row_versions.room core.store.delta_versions.room s.store h.holds.ahead i u refl objects new.ahead gone new.store.row_versions.room new.store.delta_versions.room row_room delta_room;
          rooms = left_rooms did.opens;
        };
        own = ap (λ (y : SessionLocks). y.waiting) released.changed;
        others = λ j n. ap (λ (y : SessionLocks). y.waiting) (released.others j n);
        counts = left_counts;
        same_data = same_data;
        same_log = same_log;
        reserves = λ a room same moves.
            subst (λ os. IsReserved room os (with_one s.store.open_of i None) (log_all s.store i a (Commits ∷ []) s.log).logged) (sym objects)
            (reserved_moved (schema_of s.store) s.store.open_of s.log.logged (log_all s.store i a (Commits ∷ []) s.log).logged i None not_logged (λ j. ap (λ (f : ℕ → Logged). f j) (logs_logged s.store i a Commits s.log))
            core.data_room room is same h.reserves.data_room moves);
        appends_one = λ a. omega arith;
      }

-- ---- the answer

-- of an act whose one effect ends the transaction, for which nothing of the data is kept then, nor reserved of the log
pub left_told : {M : Type 0} (maps : M → ℕ → Map) (spare : M → ℕ → ℕ) (limit : M → Option ℕ) (core new : CoreState M) (room : DataRoom) (log : LogRoom) (s : State) (i : ℕ) (a : Act) (said : Answer) (e : Effect) → Began maps spare limit core s i → IsSession i → Left maps spare limit s i e core new
    → room.limit ≡ new.data_room.limit → share_at room.shares i ≡ 0 → ((j : ℕ) → j ≢ i → share_at room.shares j ≡ share_at new.data_room.shares j) → room.total ≡ new.data_room.total - share_at new.data_room.shares i
    → log.limit ≡ new.log_room.limit → (IsRoomOf new.log_room s.store s.log → IsRoomOf log (does the_views s.store i e) (logs s.store i a e s.log)) → Says s i a said (e ∷ [])
    → log_after s i a said (e ∷ []) ≡ log_all s.store i a (e ∷ []) s.log → definitions_after s.definitions a said ≡ s.definitions → is_blocked said ≡ false → is_fault said ≡ false → (log_all s.store i a (e ∷ []) s.log).begun ≤ s.log.begun + 1
    → Told maps spare limit s i a said (record new { data_room = room; log_room = log })
left_told {M} maps spare limit core new room log s i a said e h is left same none others total log_limit moves says logs_same definitions not fine few = record {
  reached = h.reached;
  opening = subst (λ most. IsOpening most room.limit s) (sym (log_limit ∙ ap (λ (x : LogRoom). x.limit) left.same_log)) (subst (λ most. IsOpening core.log_room.limit most s) (sym (same ∙ ap (λ (d : DataRoom). d.limit) left.same_data)) h.opening);
  runs = h.runs;
  effects = e ∷ [];
  says = says;
  holds = subst (λ ds. Holds maps spare limit last (run the_views s.store i (e ∷ [])) (log_after s i a said (e ∷ [])) (record { before = s.opening.definitions; since = ds })) (sym definitions)
      (subst (λ l. Holds maps spare limit last (run the_views s.store i (e ∷ [])) l (its_texts s)) (sym logs_same)
      (log_holds maps spare limit (record new { data_room = room }) log (run the_views s.store i (e ∷ [])) (log_all s.store i a (e ∷ []) s.log) (its_texts s)
      (data_holds maps spare limit new room (run the_views s.store i (e ∷ [])) (log_all s.store i a (e ∷ []) s.log) (its_texts s) same (left.holds a))));
  reserves = subst (λ l. Reserves maps spare limit last (run the_views s.store i (e ∷ [])) l) (sym logs_same) (record {
    data_room = left.reserves a room (same ∙ ap (λ (d : DataRoom). d.limit) left.same_data) (settled_moves core.data_room new.data_room room i left.same_data none others total);
    log_room = moves (subst (λ (x : LogRoom). IsRoomOf x s.store s.log) (sym left.same_log) h.reserves.log_room);
  });
  own = λ sessions b. absurd (not_blocked said sessions b not);
  none = λ _ _. left.own;
  waiting = λ j js n. left.others j n ∙ h.waiting j js n;
  counts = record { steps = left.counts.steps; seats = left.counts.seats; few = left.counts.few; cleaner = left.counts.cleaner; removed = left.counts.removed; running = left.counts.running; begun = left.counts.begun; next = left.counts.next; stop = left.counts.stop };
  no_fault = fine;
  begins_one = subst (λ (l : Log). l.begun ≤ s.log.begun + 1) (sym logs_same) few;
  appends_one = subst (λ (l : Log). l.next ≤ s.log.next + 1) (sym logs_same) (left.appends_one a);
}
  where
    last : CoreState M
    last = record new { data_room = room; log_room = log }

-- a transaction that keeps changes commits them, and another ends
pub commits_some : (s : Store) (i number : ℕ) (cs : List RowChange) → cs ≢ [] → number ≡ (committed s).number + 1 → CommitsAs s i cs number (Commits ∷ [])
commits_some s i number [] some is = absurd (some refl)
commits_some s i number (c ∷ cs) some is = (is, refl)

pub commits_none : (s : Store) (i number : ℕ) (cs : List RowChange) → cs ≡ [] → number ≡ number_unchanged s (now s i) → CommitsAs s i cs number (Ends ∷ [])
commits_none s i number [] none is = (is, refl)
commits_none s i number (c ∷ cs) none is = absurd (cc)
