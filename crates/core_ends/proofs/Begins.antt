-- A transaction begins.
use Rattle.std.specs.Prelude.{◌≡◌, ℕ, ◌+◌, ◌^◌, ◌≤◌, ◌<◌, [], ◌∷◌, length, Option, None, Some, refl, false}
use Rattle.std.specs.Option.{unwrap_or}
use mathlib.Core.Path.{sym, ap, subst, ◌∙◌}
use Rattle.std.proofs.Common.{arith}
use Rattle.std.proofs.lemmas.List.{length-map}
use Rattle.iv_types.specs.Maps.{Map}
use Rattle.iv_types.specs.declared.statement.Mode.{Mode}
use Rattle.iv_types.specs.declared.statement.Mode.TheVariants.{Serial, Snapshot}
use Rattle.iv_types.specs.declared.refusal.EngineRefusal.{EngineRefusal}
use Rattle.iv_types.specs.declared.refusal.EngineRefusal.TheVariants as refusal
use Rattle.iv_meaning.specs.Objects.{object_of}
use Rattle.iv_meaning.specs.Escrow.{IsSession}
use Rattle.lock_manager.specs.Table as table
use Rattle.lock_desk.specs.Asking.{HasLocks}
use Rattle.txn_machine.specs.Acts as act
use Rattle.txn_machine.specs.Answers as answer
use Rattle.txn_machine.specs.Locks.{with_one}
use Rattle.txn_machine.specs.Keeping as machine
use Rattle.txn_machine.specs.Keeping.{Open, idle}
use Rattle.txn_machine.specs.Ghosts.{the_views}
use Rattle.txn_machine.specs.Store.{committed, schema_of, with_txn, Opens, does}
use Rattle.txn_machine.specs.Counts.{definition_sizes, entry_size, most_of_history}
use Rattle.txn_machine.specs.Log.{Log, Logged, Within, Above, begins, begun_after, logs, reserved, end_bytes, room_kept}
use Rattle.txn_machine.specs.State.{State}
use Rattle.txn_machine.specs.Steps.{FitsLog, MayBegin, history_bytes}
use Rattle.std.proofs.lemmas.Option.{none-some}
use mathlib.Core.Logic.{inl, inr}
use Rattle.txn_machine.proofs.Basics.{one_same, one_other}
use Rattle.txn_machine.proofs.Seats.{session_or, nobody_open}
use Rattle.txn_book.specs.Books.{Books, IsBook, Changes, number_of, total_bytes}
use Rattle.txn_book.specs.Txns as txn
use Rattle.txn_book.specs.Txns.{begun}
use Rattle.txn_book.specs.Holding as book
use Rattle.txn_book.proofs.Holding.{begun_is, changed_holds}
use Rattle.txn_book.proofs.Totals.{bytes_law}
use Rattle.data_store.specs.Contents.{contents_of}
use Rattle.data_store.specs.Held.{IsHeld}
use Rattle.data_past.proofs.Aheads.{ahead_opens}
use Rattle.data_past.proofs.Effects.{past_opens}
use Rattle.data_room.proofs.Kept.{reserved_one}
use Rattle.log_room.specs.Rooms.{IsRoomOf}
use Rattle.log_room.specs.declared.room.LogRoom.{LogRoom}
use Rattle.core_state.specs.Stands.{Began, Told, IsOpening}
use Rattle.core_state.proofs.Logged.{log_limit_of, log_full}
use Rattle.core_state.proofs.Unchanged.{unchanged_told}
use Rattle.core_state.specs.declared.state.CoreState.{CoreState}
use Rattle.core_ends.specs.Ends.{number_in_log, FitsEnd}
use Rattle.lock_desk.specs.PayWants.{wants_at}
use Rattle.core_state.proofs.Rooms.{rooms_changed, elsewhere_same, covered_begun}
use Rattle.core_state.proofs.Sessions.{contents_as, kept_same, locks_same, snapshots_bare}

-- what the log has room for
module _ {M : Type 0} (maps : M → ℕ → Map) (spare : M → ℕ → ℕ) (limit : M → Option ℕ) (core : CoreState M) (s : State) (i : ℕ) (h : Began maps spare limit core s i) where
  -- it has room for a transaction's end
  pub fits_end : (mode : Mode) → MayBegin s mode → FitsEnd mode core.log_room.limit s.store s.log
  fits_end Serial room = subst (λ most. Within most (s.log.used + reserved s.store s.log + end_bytes)) (log_limit_of maps spare limit core s i h) room.0
  fits_end Snapshot room = tt

  -- it has none
  pub log_full_told : (why : EngineRefusal) → (why ≡ refusal.LogFull s.log.used (reserved s.store s.log) end_bytes) × Above core.log_room.limit (s.log.used + reserved s.store s.log + end_bytes)
      → Told maps spare limit s i (act.Begin Serial) (answer.Refused why) core
  log_full_told why full = subst (λ w. Told maps spare limit s i (act.Begin Serial) (answer.Refused w) core) (sym full.0)
      (unchanged_told maps spare limit core s i (act.Begin Serial) (answer.Refused (refusal.LogFull s.log.used (reserved s.store s.log) end_bytes)) h
      (refl, refl, refl, log_full maps spare limit core s i h end_bytes end_bytes (omega arith) full.1) refl refl refl refl)

module _ {M : Type 0} (maps : M → ℕ → Map) (spare : M → ℕ → ℕ) (limit : M → Option ℕ) (core : CoreState M) (s : State) (i : ℕ) (h : Began maps spare limit core s i) (is : IsSession i) (none : s.store.open_of i ≡ None) (good : IsBook core.book) where
  -- what the history counts
  pub counted : total_bytes core.book ≡ history_bytes s
  counted = bytes_law core.book (schema_of s.store) s.store.open_of s.log.logged s.store.history (committed s.store).number (definition_sizes s.definitions) good h.holds.book each
    where
      each : (j : ℕ) (t : Open) → s.store.open_of j ≡ Some t → t.mode ≡ Snapshot → t.kept ≡ []
      each j t e mode = elim (session_or j) [ inl js ↦ snapshots_bare maps spare limit core s i h j t js e mode | inr n ↦ absurd (none-some t (sym (nobody_open s h.reached j n) ∙ e)) ]

  -- there is room for it
  pub fits : (mode : Mode) → MayBegin s mode → total_bytes core.book + txn.entry_size mode < 2 ^ 64
  fits Serial room = let most : history_bytes s + entry_size ≤ most_of_history = room.1 in let same : total_bytes core.book ≡ history_bytes s = counted in omega (arith, most, same)
  fits Snapshot room = let few : total_bytes core.book < 2 ^ 64 = good.fits in omega (arith, few)

  -- a serial one fits where it was looked for
  pub may_begin : FitsLog s end_bytes → total_bytes core.book + entry_size ≤ most_of_history → MayBegin s Serial
  may_begin log room = (log, subst (λ n. n + entry_size ≤ most_of_history) counted room)

  abbrev number : ℕ
  number = (committed s.store).number

  abbrev opens_as : Mode → ℕ → Option Open
  opens_as mode = with_one s.store.open_of i (Some (machine.begun mode number))

  book_begun : (mode : Mode) (id : ℕ) (after : Books) (l : Logged) → Changes core.book after i (begun mode (number_of core.book) id) → l ≡ record { transaction = id; kept = []; wrote = false; ghosted = false }
      → book.Holds after (schema_of s.store) (opens_as mode) (with_one s.log.logged i l) s.store.history number (definition_sizes s.definitions)
  book_begun mode id after l changes logged =
      changed_holds core.book (schema_of s.store) s.store.open_of s.log.logged s.store.history number (definition_sizes s.definitions) h.holds.book good i is after (opens_as mode) (with_one s.log.logged i l)
      (λ j n. (one_other s.store.open_of i (Some (machine.begun mode number)) j n, one_other s.log.logged i l j n))
      (begun mode number id) (machine.begun mode number) (subst (λ n. Changes core.book after i (begun mode n id)) h.holds.book.number changes) (one_same s.store.open_of i (Some (machine.begun mode number)) i refl)
      (subst (book.IsTxn (schema_of s.store) (begun mode number id) (machine.begun mode number)) (sym (one_same s.log.logged i l i refl ∙ logged)) (begun_is (schema_of s.store) mode number id))

  -- it keeps nothing of the data yet
  begun_keeps : (mode : Mode) → room_kept (schema_of s.store) (Some (machine.begun mode number)) (begins mode s.log).ghosted ≡ 0
  begun_keeps Serial = refl
  begun_keeps Snapshot = refl

  pub begun_told : (mode : Mode) (id more told defs : ℕ) (after : Books) (log : LogRoom) → MayBegin s mode → Changes core.book after i (begun mode (number_of core.book) id)
      → begins mode s.log ≡ record { transaction = id; kept = []; wrote = false; ghosted = false } → more ≡ begun_after (Opens mode) s.log.begun → more ≤ s.log.begun + 1
      → told ≡ number_of core.book → defs ≡ length core.store.catalog
      → log.limit ≡ core.log_room.limit → IsRoomOf log (does the_views s.store i (Opens mode)) (logs s.store i (act.Begin mode) (Opens mode) s.log)
      → Told maps spare limit s i (act.Begin mode) (answer.Begun told defs) (record core { book = after; begun = more; log_room = log })
  begun_told mode id more told defs after log room changes logged begun_is_more few number_told defs_told same_limit log_room = record {
    reached = h.reached;
    opening = subst (λ most. IsOpening most core.data_room.limit s) (sym same_limit) h.opening;
    runs = h.runs;
    effects = Opens mode ∷ [];
    says = record {
      room = room;
      number_is = number_told ∙ h.holds.book.number;
      defs_are = defs_told ∙ (sym (length-map core.store.catalog object_of) ∙ ap length h.holds.stored.objects);
      effects = refl;
    };
    holds = record {
      stored = subst (IsHeld core.store.catalog (maps core.store.tables) core.store.views)
          (contents_as (contents_of s.store) (contents_of (with_txn s.store i (Some (machine.begun mode number)))) refl refl refl (λ j. sym (kept_same s.store.open_of i (Some (machine.begun mode number)) (ap (λ o. (unwrap_or o idle).kept) (sym none)) j)))
          h.holds.stored;
      book = book_begun mode id after (begins mode s.log) changes logged;
      locks = λ j js. subst (HasLocks (table.locks_of core.locks j)) (sym (locks_same s.store.open_of i (Some (machine.begun mode number)) (ap (λ o. (unwrap_or o idle).locks) (sym none)) j)) (h.holds.locks j js);
      begun = begun_is_more;
      next = h.holds.next;
      texts = h.holds.texts;
      row_mark = h.holds.row_mark;
      delta_mark = h.holds.delta_mark;
      most = h.holds.most;
      past = past_opens core.store.row_versions.versions core.store.delta_versions.versions core.store.pending.entries s.store h.holds.past i mode is none;
      ahead = ahead_opens core.ahead core.store.row_versions.room core.store.delta_versions.room s.store h.holds.ahead i mode none;
      rooms = rooms_changed (spare core.store.tables) (spare core.store.tables) core.store.catalog core.store.views core.store.views core.book after core.locks core.locks core.wants core.wants i
          (begun mode (number_of core.book) id) good is h.holds.rooms changes (λ index. omega arith) (elsewhere_same i core.store.views core.locks core.wants) (covered_begun core.store.catalog core.store.views core.locks (wants_at core.wants i) i mode (number_of core.book) id);
    };
    reserves = record {
      data_room = reserved_one (schema_of s.store) s.store.open_of s.log.logged (with_one s.log.logged i (begins mode s.log)) i (Some (machine.begun mode number)) (begins mode s.log) (λ j. refl) core.data_room
          (begun_keeps mode ∙ sym (ap (λ o. room_kept (schema_of s.store) o (s.log.logged i).ghosted) none)) h.reserves.data_room;
      log_room = log_room;
    };
    own = λ sessions e. absurd (cc);
    none = λ _ js. h.own js;
    waiting = h.waiting;
    counts = record { steps = h.counts.steps; seats = h.counts.seats; few = h.counts.few; cleaner = h.counts.cleaner; removed = h.counts.removed; running = h.counts.running; begun = h.counts.begun; next = h.counts.next; stop = h.counts.stop };
    no_fault = refl;
    begins_one = subst (λ n. n ≤ s.log.begun + 1) begun_is_more few;
    appends_one = omega arith;
  }

  -- the history is full
  pub full_told : (kept need : ℕ) → FitsLog s end_bytes → kept ≡ total_bytes core.book → need ≡ entry_size → (kept + need ≤ most_of_history → ⊥) → Told maps spare limit s i (act.Begin Serial) (answer.Refused (refusal.HistoryFull kept need)) core
  full_told kept need log kept_is need_is full =
      unchanged_told maps spare limit core s i (act.Begin Serial) (answer.Refused (refusal.HistoryFull kept need)) h
      (refl, need_is, record { kept_is = kept_is ∙ counted; full = omega (arith, full) }, refl, log) refl refl refl refl

-- what the log knows of it
pub begins_as : (mode : Mode) (l : Log) (id : ℕ) → id ≡ number_in_log mode (begun_after (Opens mode) l.begun) → begins mode l ≡ record { transaction = id; kept = []; wrote = false; ghosted = false }
begins_as Serial l id e = ap (λ n. record { transaction = n; kept = []; wrote = false; ghosted = false }) (sym e)
begins_as Snapshot l id e = ap (λ n. record { transaction = n; kept = []; wrote = false; ghosted = false }) (sym e)

pub begun_few : (mode : Mode) (n : ℕ) → begun_after (Opens mode) n ≤ n + 1
begun_few Serial n = omega arith
begun_few Snapshot n = omega arith
