-- What is told of a Fetch.
use Rattle.std.specs.Prelude.{◌≡◌, ◌≢◌, ℕ, ◌+◌, ◌≤◌, List, [], ◌∷◌, ◌++◌, length, Option, None, Some, IsSome, refl}
use Rattle.std.specs.Option.{unwrap_or}
use mathlib.Core.Path.{sym, ap, subst, ◌∙◌}
use Rattle.std.proofs.Common.{arith}
use Rattle.iv_types.specs.Maps.{Map}
use Rattle.iv_types.specs.declared.lock.LockMode.{LockMode}
use Rattle.iv_types.specs.declared.lock.LockMode.TheVariants.{Share, Exclusive, Increment}
use Rattle.iv_types.specs.declared.lock.Want.{Want}
use Rattle.iv_types.specs.declared.value.Interval.{Interval}
use Rattle.iv_types.specs.declared.statement.Mode.TheVariants.{Serial}
use Rattle.iv_types.specs.declared.refusal.EngineRefusal.TheVariants as refusal
use Rattle.iv_meaning.specs.Schema.{Schema, Object, table, index, view, numbered}
use Rattle.iv_meaning.specs.Database.{Row}
use Rattle.iv_meaning.specs.Sound.{IsTable}
use Rattle.iv_meaning.specs.Escrow.{IsSession}
use Rattle.lock_manager.specs.Table as lock
use Rattle.txn_machine.specs.Acts as act
use Rattle.txn_machine.specs.Acts.{Act}
use Rattle.txn_machine.specs.Answers as answer
use Rattle.txn_machine.specs.Counts.{fetch_size, transaction_size, most_of_transaction, told_need, note_size}
use Rattle.txn_machine.specs.Ghosts.{the_views}
use Rattle.txn_machine.specs.Keeping.{Note, idle}
use Rattle.txn_machine.specs.Log.{Log, Logged, logs}
use Rattle.txn_machine.specs.May.{IsOpen, IsReady, MayLock}
use Rattle.txn_machine.specs.State.{State}
use Rattle.txn_machine.specs.Steps.{IsFree, Finds, note_of}
use Rattle.txn_machine.specs.Store.{Store, Takes, Notes, does, now, schema_of}
use Rattle.txn_machine.proofs.Basics.{one_same}
use Rattle.txn_machine.proofs.LogRoom.{logs_logged}
use Rattle.txn_machine.proofs.Reached.{sound_law}
use Rattle.txn_machine.proofs.Shapes.{stored_row_law}
use Rattle.txn_book.specs.Opens.{open_at}
use Rattle.txn_book.specs.Books.{IsOpenAnd}
use Rattle.txn_book.specs.declared.open_table.Open.{Open as BookOpen}
use Rattle.data_store.specs.Contents.{contents_of}
use Rattle.data_store.specs.Reading.{CanBeRead, CanFind, HasRows}
use Rattle.data_room.specs.Reserved.{IsReserved}
use Rattle.data_room.proofs.Kept.{reserved_one}
use Rattle.data_room.proofs.Transactions.{now_room}
use Rattle.log_room.specs.Rooms.{IsRoomOf, SameRoomLaw}
use Rattle.log_room.specs.declared.room.LogRoom.{LogRoom}
use Rattle.core_state.specs.Stands.{Began, Told, Holds, Reserves, its_texts}
use Rattle.core_state.specs.declared.state.CoreState.{CoreState}
use Rattle.core_state.proofs.Sessions.{own_txn, now_is, of_ready}
use Rattle.core_state.proofs.Unchanged.{unchanged_told}
use Rattle.core_effects.proofs.Done.{AreUncounted, done_told}
use Rattle.core_reads.specs.Fetching.{MayFetch, CanRead}

-- of what may be locked there are rows
has_rows : (objects : Schema) (mode : LockMode) (o : Option Object) (n : ℕ) → o ≡ numbered objects n → ((i : _) → numbered objects n ≡ Some (index i) → IsTable objects i.table) → MayLock mode o → HasRows objects o
has_rows objects mode (Some (table t)) n e index_is h = tt
has_rows objects mode (Some (index i)) n e index_is h = index_is i (sym e)
has_rows objects mode (Some (view v)) n e index_is h = tt
has_rows objects Share None n e index_is h = let bad : IsSome {T = Object} None = h in absurd cc
has_rows objects Exclusive None n e index_is h = absurd h
has_rows objects Increment None n e index_is h = absurd h

module _ {M : Type 0} (maps : M → ℕ → Map) (spare : M → ℕ → ℕ) (limit : M → Option ℕ) (core : CoreState M) (s : State) (i : ℕ) (h : Began maps spare limit core s i) where
  pub readable : CanBeRead core.store.catalog (maps core.store.tables) core.store.views (contents_of s.store)
  readable = record { held = h.holds.stored; stored = stored_row_law s h.reached }

  pub can_find : (mode : LockMode) (n : ℕ) → MayLock mode (numbered (schema_of s.store) n) → CanFind core.store.catalog (maps core.store.tables) core.store.views n
  can_find mode n may = record {
    contents = contents_of s.store;
    readable = readable;
    has_rows = has_rows (schema_of s.store) mode (numbered (schema_of s.store) n) n refl index_is may;
  }
    where
      index_is : (x : _) → numbered (schema_of s.store) n ≡ Some (index x) → IsTable (schema_of s.store) x.table
      index_is x e = let of = ((sound_law s h.reached [] (absurd_all)).objects n (index x) e).1 in (of.of, of.table_is)
        where
          absurd_all : Rattle.std.specs.List.All IsSession []
          absurd_all = λ k d lt. absurd (omega (arith, lt))

  -- nobody is in the way in the table either
  pub free_there : (wants : List Want) → IsFree s.store i wants → lock.IsFree (lock.locks_of core.locks) i wants
  free_there wants free other h2 = free other (record {
    of_session = h2.of_session;
    not_itself = h2.not_itself;
    meet = record { lock = h2.meet.lock; held = (h.holds.locks other h2.of_session h2.meet.lock).0 h2.meet.held; want = h2.meet.want; wanted = h2.meet.wanted; conflict = h2.meet.conflict };
  })

  -- what the transaction counts
  pub counts_bytes : (o : IsOpen s.store i) (t : BookOpen) → open_at core.book.opens i ≡ Some t → t.txn_bytes ≡ transaction_size (schema_of s.store) (now s.store i)
  counts_bytes o t there =
      let own = own_txn maps spare limit core s i h o in
      let one : Some t ≡ Some own.txn = sym there ∙ own.there in
      let same : t ≡ own.txn = cc in
      ap (λ (x : BookOpen). x.txn_bytes) same ∙ (own.is.txn_bytes ∙ ap (transaction_size (schema_of s.store)) (sym (now_is maps spare limit core s i h o)))

  pub fits : (o : IsOpen s.store i) (need : ℕ) → transaction_size (schema_of s.store) (now s.store i) + need ≤ most_of_transaction → IsOpenAnd core.book i (λ t. t.txn_bytes + need ≤ most_of_transaction)
  fits o need room = let own = own_txn maps spare limit core s i h o in (own.txn, own.there, (let bytes : own.txn.txn_bytes ≡ transaction_size (schema_of s.store) (now s.store i) = counts_bytes o own.txn own.there in omega (arith, bytes, room)))

-- the answer where it is too much
pub full_told : {M : Type 0} (maps : M → ℕ → Map) (spare : M → ℕ → ℕ) (limit : M → Option ℕ) (core : CoreState M) (s : State) (i n : ℕ) (interval : Interval) (mode : LockMode) (wants : List Want) → MayFetch maps spare limit s core i n interval mode wants
    → (kept need : ℕ) → kept ≡ transaction_size (schema_of s.store) (now s.store i) → (rows : List Row) → Finds s.store n interval rows → need ≡ told_need (fetch_size (schema_of s.store) n interval rows) → (kept + need ≤ most_of_transaction → ⊥)
    → Told maps spare limit s i (act.Fetch n interval mode) (answer.Refused (refusal.TxnFull kept need)) core
full_told maps spare limit core s i n interval mode wants f kept need kept_is rows found need_is full =
    unchanged_told maps spare limit core s i (act.Fetch n interval mode) (answer.Refused (refusal.TxnFull kept need)) f.began (
      record {
        free = subst (IsFree s.store i) f.wants_are f.free;
        rows = rows;
        found = found;
        need_is = need_is;
        full = record { kept_is = kept_is; full = omega (arith, full, need_is) };
      },
      refl,
    ) refl refl refl refl

-- and where it is read
module _ {M : Type 0} (maps : M → ℕ → Map) (spare : M → ℕ → ℕ) (limit : M → Option ℕ) (core middle taken new : CoreState M) (s : State) (i n : ℕ) (interval : Interval) (mode : LockMode) (wants : List Want) (need : ℕ) (can : CanRead maps spare limit s core i n interval mode wants need)
    (h : Began maps spare limit middle s i) where
  abbrev r : IsReady s.store i Serial
  r = can.fetches.may.0

  abbrev open_here : IsOpen s.store i
  open_here = of_ready maps spare limit core s i can.fetches.began r

  abbrev pub between : Store
  between = does the_views s.store i (Takes wants)

  abbrev open_between : IsOpen between i
  open_between = record { of_session = r.goes_on.of_session; transaction = record (now s.store i) { locks = wants ++ (now s.store i).locks }; is_open = one_same s.store.open_of i _ i refl }

  -- neither effect moves what is kept of the data or reserved of the log
  kept_on : (rows : List Row) → SameRoomLaw → new.data_room ≡ core.data_room → new.log_room ≡ core.log_room
      → Reserves maps spare limit new (does the_views between i (Notes (note_of s.store i n interval rows))) (logs between i (act.Fetch n interval mode) (Notes (note_of s.store i n interval rows)) (logs s.store i (act.Fetch n interval mode) (Takes wants) s.log))
  kept_on rows law same_data same_log = record {
    data_room = subst (λ d. IsReserved d (schema_of s.store) (does the_views between i (Notes note)).open_of (logs between i a (Notes note) first).logged) (sym same_data)
        (reserved_one (schema_of s.store) between.open_of first.logged (logs between i a (Notes note) first).logged i (Some (record (now between i) { notes = note ∷ (now between i).notes })) (first.logged i) (λ j. ap (λ (f : ℕ → Logged). f j) (logs_logged between i a (Notes note) first))
        core.data_room (now_room (schema_of s.store) (between.open_of i) (first.logged i).ghosted)
        (reserved_one (schema_of s.store) s.store.open_of s.log.logged first.logged i (Some (record (now s.store i) { locks = wants ++ (now s.store i).locks })) (s.log.logged i) (λ j. ap (λ (f : ℕ → Logged). f j) (logs_logged s.store i a (Takes wants) s.log))
        core.data_room (now_room (schema_of s.store) (s.store.open_of i) (s.log.logged i).ghosted) can.fetches.began.reserves.data_room));
    log_room = subst (λ (x : LogRoom). IsRoomOf x (does the_views between i (Notes note)) (logs between i a (Notes note) first)) (sym same_log)
        (law.notes core.log_room between first i a note r.goes_on.of_session (is_now between open_between)
        (law.locks core.log_room s.store s.log i a wants r.goes_on.of_session (is_now s.store open_here) can.fetches.began.reserves.log_room));
  }
    where
      is_now : (u : Store) → (o : IsOpen u i) → u.open_of i ≡ Some (now u i)
      is_now u o = o.is_open ∙ ap Some (sym (ap (λ x. unwrap_or x idle) o.is_open))

      a : Act
      a = act.Fetch n interval mode

      note : Note
      note = note_of s.store i n interval rows

      first : Log
      first = logs s.store i a (Takes wants) s.log

  pub read_told : (rows : List Row) → Finds s.store n interval rows
      → (Holds maps spare limit middle s.store s.log (its_texts s) → IsOpen s.store i → Holds maps spare limit taken between (logs s.store i (act.Fetch n interval mode) (Takes wants) s.log) (its_texts s))
      → (Holds maps spare limit taken between (logs s.store i (act.Fetch n interval mode) (Takes wants) s.log) (its_texts s) → IsOpen between i → note_size (schema_of between) (note_of s.store i n interval rows) ≡ need
      → (note_of s.store i n interval rows).kept ≡ length (now between i).kept
      → Holds maps spare limit new (does the_views between i (Notes (note_of s.store i n interval rows))) (logs between i (act.Fetch n interval mode) (Notes (note_of s.store i n interval rows)) (logs s.store i (act.Fetch n interval mode) (Takes wants) s.log)) (its_texts s))
      → SameRoomLaw → new.data_room ≡ core.data_room → new.log_room ≡ core.log_room → AreUncounted core new → lock.waiting_of new.locks i ≡ [] → ((j : ℕ) → j ≢ i → lock.waiting_of new.locks j ≡ lock.waiting_of middle.locks j)
      → Told maps spare limit s i (act.Fetch n interval mode) (answer.Rows rows) new
  read_told rows found takes notes law same_data same_log same own others =
      let exact : fetch_size (schema_of s.store) n interval rows ≡ need = let is : need ≡ told_need (fetch_size (schema_of s.store) n interval rows) = can.need_is rows found in let room = can.room in omega (arith, is, room) in
      let asked : record { index = n; interval = interval; mode = mode } ∷ [] ≡ wants = sym can.fetches.wants_are in
      done_told maps spare limit core new s i can.fetches.began (act.Fetch n interval mode) (answer.Rows rows) (Takes wants ∷ Notes (note_of s.store i n interval rows) ∷ [])
      (record {
        free = subst (IsFree s.store i) can.fetches.wants_are can.fetches.free;
        found = found;
        room = let room = can.room in omega (arith, exact, room);
        effects = ap (λ ws. Takes ws ∷ Notes (note_of s.store i n interval rows) ∷ []) can.fetches.wants_are;
      })
      (notes (takes h.holds open_here) open_between exact (sym (ap (λ x. length (unwrap_or x idle).kept) (one_same s.store.open_of i _ i refl))))
      (kept_on rows law same_data same_log) same (λ _. own) (λ j js differ. others j differ ∙ h.waiting j js differ) refl refl (omega arith) (omega arith)

-- an interval that fits
pub can_read : {M : Type 0} (maps : M → ℕ → Map) (spare : M → ℕ → ℕ) (limit : M → Option ℕ) (core : CoreState M) (s : State) (i n : ℕ) (interval : Interval) (mode : LockMode) (wants : List Want) (need : ℕ) → MayFetch maps spare limit s core i n interval mode wants
    → (t : BookOpen) → open_at core.book.opens i ≡ Some t → ((rows : List Row) → Finds s.store n interval rows → need ≡ told_need (fetch_size (schema_of s.store) n interval rows)) → t.txn_bytes + need ≤ most_of_transaction
    → CanRead maps spare limit s core i n interval mode wants need
can_read maps spare limit core s i n interval mode wants need f t there need_is room = record {
  fetches = f;
  need_is = need_is;
  room = let bytes : t.txn_bytes ≡ transaction_size (schema_of s.store) (now s.store i) = counts_bytes maps spare limit core s i f.began (of_ready maps spare limit core s i f.began f.may.0) t there in omega (arith, bytes, room);
}
