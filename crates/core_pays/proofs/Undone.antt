-- A transaction's latest kept step, and what is told where it is taken back.
use Rattle.std.specs.Prelude.{◌≡◌, ◌≢◌, ℕ, suc, ◌+◌, ◌-◌, ◌*◌, ◌<◌, ◌≤◌, ◌^◌, min, List, [], ◌∷◌, map, length, Option, Some, IsSome, refl}
use Rattle.std.specs.Option.{unwrap_or}
use Rattle.std.specs.List.{Contains, sum}
use Rattle.std.specs.FinMap.{get}
use mathlib.Core.Path.{sym, ap, subst, ◌∙◌}
use mathlib.Core.Logic.{inl, inr}
use Rattle.std.proofs.Common.{arith}
use Rattle.std.proofs.lemmas.List.{length-reverse}
use Rattle.iv_types.specs.Maps.{Map}
use Rattle.table_laws.specs.Kept.{AreTrue, redo}
use Rattle.iv_meaning.specs.Schema.{table}
use Rattle.lock_manager.specs.Table as table
use Rattle.txn_machine.specs.Acts as act
use Rattle.txn_machine.specs.Answers as answer
use Rattle.txn_machine.specs.Counts.{most_of_transaction, kept_size, note_size}
use Rattle.txn_machine.specs.Ghosts.{the_views}
use Rattle.txn_machine.specs.Keeping.{KeptStep, Put, Pay, Open, changes_of, idle}
use Rattle.txn_machine.specs.Locks.{with_one}
use Rattle.txn_machine.specs.Log.{Log, Logged, logs, undoes, growth_back, delta_entry, unghosted, still_owed, room_kept}
use Rattle.txn_machine.specs.Laws.{IsReached}
use Rattle.txn_machine.specs.May.{IsOpen, MayAct}
use Rattle.txn_machine.specs.State.{State}
use Rattle.txn_machine.specs.Store.{Store, Undoes, does, undone, now, schema_of, committed, changes_by, notes_before}
use Rattle.txn_machine.proofs.Agreeing.{written_at}
use Rattle.txn_machine.proofs.Basics.{one_same}
use Rattle.txn_machine.proofs.LogRoom.{logs_logged}
use Rattle.txn_machine.proofs.Entered.{AreProper, sound_redo}
use Rattle.txn_machine.proofs.Reached.{reached}
use Rattle.txn_machine.proofs.Shapes.{delta_law}
use Rattle.txn_book.specs.Opens.{open_at}
use Rattle.txn_book.specs.Txns.{txn_of}
use Rattle.txn_book.specs.declared.open_table.Open.{Open as BookOpen}
use Rattle.data_room.specs.Reserved.{share_at, kept_for, IsReserved}
use Rattle.data_room.specs.declared.room.DataRoom.{DataRoom}
use Rattle.data_room.proofs.Kept.{reserved_back}
use Rattle.data_room.proofs.Transactions.{now_room, unput_room, unpaid_room}
use Rattle.log_room.specs.Rooms.{IsRoomOf}
use Rattle.log_room.specs.declared.room.LogRoom.{LogRoom}
use Rattle.core_state.specs.Stands.{Began, Told, Holds, its_texts}
use Rattle.core_state.specs.declared.state.CoreState.{CoreState}
use Rattle.core_effects.specs.Undoing.{KeepsOne}
use Rattle.core_state.proofs.Few.{kept_few}
use Rattle.core_effects.proofs.Counted.{many_same}
use Rattle.core_effects.proofs.Done.{told_by, begun_underway, still_underway}
use Rattle.core_effects.proofs.Opened.{Has, own}
use Rattle.core_pays.specs.Keeping.{latest_bytes}
use Rattle.core_pays.proofs.Answered.{next_few}
use Rattle.core_pays.proofs.Reserving.{rooms_hold, rooms_underway, fits_there}

-- ---- what is kept last

module _ (s : State) (r : IsReached s) (i : ℕ) (o : IsOpen s.store i) where
  keeps : (ks : List KeptStep) → (now s.store i).kept ≡ ks → ks ≢ [] → KeepsOne s.store i
  keeps [] e some = absurd (some refl)
  keeps (Pay d ∷ ks) e some = inl (record { is_open = o; latest = d; earlier = ks; kept_is = e; delta = (delta_law s r i o.of_session).1 d (subst (λ xs. Contains xs (Pay d)) (sym e) (0, omega arith, refl)) })
  keeps (Put c ds ∷ ks) e some =
      let good = reached s r in
      let mine = good.each i o.of_session in
      let cs : changes_by s.store i ≡ c ∷ changes_of ks = ap changes_of e in
      let told : AreTrue (committed s.store).rows (c ∷ changes_of ks) = subst (AreTrue (committed s.store).rows) cs (good.stored.told i o.of_session) in
      let proper : AreProper (schema_of s.store) (c ∷ changes_of ks) = subst (AreProper (schema_of s.store)) cs mine.proper in
      inr (record {
        is_open = o;
        change = c;
        owed = ds;
        earlier = ks;
        kept_is = e;
        there = good.stored.own i c.key o.of_session (subst (λ xs. Rattle.table_laws.specs.Kept.Touches c.key xs) (sym cs) (inl refl))
            ∙ (ap (λ xs. get (redo xs (committed s.store).rows) c.key) cs ∙ written_at (redo (changes_of ks) (committed s.store).rows) c.key c.after c.key refl);
        before = fits_there (schema_of s.store) (redo (changes_of ks) (committed s.store).rows) c.key c.before (sound_redo (schema_of s.store) (committed s.store).rows (changes_of ks) good.sound proper.1) told.0;
      })

  pub keeps_one : o.transaction.kept ≢ [] → KeepsOne s.store i
  keeps_one some = keeps (now s.store i).kept refl (λ none. some (sym (ap (λ x. (unwrap_or x idle).kept) o.is_open) ∙ none))

-- ---- what is told

-- the transaction without its latest step
undone_kept : (s : Store) (i : ℕ) (t : Open) (k : KeptStep) (ks : List KeptStep) → (u : Open) × ((undone s i t (k ∷ ks)).open_of i ≡ Some u) × (u.kept ≡ ks)
undone_kept s i t (Put c ds) ks = (record t { kept = ks; owed = []; back = 0; notes = notes_before (length ks) t.notes }, one_same s.open_of i (Some (record t { kept = ks; owed = []; back = 0; notes = notes_before (length ks) t.notes })) i refl, refl)
undone_kept s i t (Pay d) ks = (record t { kept = ks; owed = d ∷ t.owed; back = t.back + 1 }, one_same s.open_of i (Some (record t { kept = ks; owed = d ∷ t.owed; back = t.back + 1 })) i refl, refl)

pub latest_of : (s : Store) (i : ℕ) → KeepsOne s i → (k : KeptStep) × (ks : List KeptStep) × ((now s i).kept ≡ k ∷ ks)
latest_of s i (inl o) = (Pay o.latest, o.earlier, o.kept_is)
latest_of s i (inr o) = (Put o.change o.owed, o.earlier, o.kept_is)

module _ {M : Type 0} (maps : M → ℕ → Map) (spare : M → ℕ → ℕ) (limit : M → Option ℕ) (core new : CoreState M) (s : State) (i : ℕ) (h : Began maps spare limit core s i) (may : MayAct s.store i act.UndoOne) where
  abbrev the_open : IsOpen s.store i
  the_open = may.0

  pub keeps_here : KeepsOne s.store i
  keeps_here = keeps_one s h.reached i the_open may.1

  abbrev latest : KeptStep
  latest = (latest_of s.store i keeps_here).0

  abbrev pub earlier : List KeptStep
  earlier = (latest_of s.store i keeps_here).1

  kept_is : (now s.store i).kept ≡ latest ∷ earlier
  kept_is = (latest_of s.store i keeps_here).2

  abbrev after : Store
  after = does the_views s.store i Undoes

  open_after : (u : Open) × (after.open_of i ≡ Some u) × (u.kept ≡ earlier)
  open_after =
      let u = undone_kept s.store i (now s.store i) latest earlier in
      (u.0, ap (λ ks. (undone s.store i (now s.store i) ks).open_of i) kept_is ∙ u.1, u.2)

  module _ (l : Log) (holds : Holds maps spare limit new after l (its_texts s)) where
    mine : Has (schema_of after) (open_at new.book.opens i) (now after i) (l.logged i)
    mine = own maps spare limit new after l (its_texts s) i holds (record { of_session = the_open.of_session; transaction = open_after.0; is_open = open_after.1 })

    pub is_there : IsSome (open_at new.book.opens i)
    is_there = subst IsSome (sym mine.there) refl

    many : (t : BookOpen) → open_at new.book.opens i ≡ Some t → length t.kept.items ≡ length (now after i).kept
    many t there =
        let one : Some t ≡ Some mine.txn = sym there ∙ mine.there in
        let same : t ≡ mine.txn = cc in
        ap (λ (x : BookOpen). length x.kept.items) same ∙ (sym (length-reverse mine.txn.kept.items) ∙ many_same (txn_of mine.txn).kept (now after i).kept (l.logged i).kept mine.is.kept)

    pub left_is : (t : BookOpen) → open_at new.book.opens i ≡ Some t → length t.kept.items ≡ length earlier
    left_is t there = many t there ∙ (ap (λ x. length (unwrap_or x idle).kept) open_after.1 ∙ ap length open_after.2)

    pub few_left : length earlier < 2 ^ 32
    few_left =
        let before : Has (schema_of s.store) (open_at core.book.opens i) (now s.store i) (s.log.logged i) = own maps spare limit core s.store s.log (its_texts s) i h.holds the_open in
        let small : before.txn.txn_bytes ≤ most_of_transaction = (h.holds.rooms.each i the_open.of_session before.txn before.there).small in
        let bytes : before.txn.txn_bytes ≡ sum (map (note_size (schema_of s.store)) (now s.store i).notes) + sum (map (kept_size (schema_of s.store)) (now s.store i).kept) = before.is.txn_bytes in
        let few : 128 * (length (now s.store i).kept + length (now s.store i).owed) ≤ sum (map (kept_size (schema_of s.store)) (now s.store i).kept) = kept_few (schema_of s.store) (now s.store i).kept (now s.store i).owed ((reached s h.reached).each i the_open.of_session).settled in
        let one : length (now s.store i).kept ≡ suc (length earlier) = ap length kept_is in
        omega (arith, small, bytes, few, one)

  abbrev its_room : ℕ
  its_room = latest_bytes (schema_of s.store) (now s.store i) (s.log.logged i).ghosted (now s.store i).kept

  abbrev logged_after : ℕ → Logged
  logged_after = (logs s.store i act.UndoOne Undoes s.log).logged

  module _ (room was : DataRoom) (bytes : ℕ) (same : was ≡ core.data_room) (same_limit : room.limit ≡ was.limit) (bytes_are : bytes ≡ min its_room (2 ^ 64 - 1)) (small : share_at was.shares i < 2 ^ 64)
      (own_share : share_at room.shares i ≡ share_at was.shares i - bytes) (others : (j : ℕ) → j ≢ i → share_at room.shares j ≡ share_at was.shares j) (total : room.total ≡ was.total - (share_at was.shares i - share_at room.shares i)) where
    without : (o : KeepsOne s.store i) → IsReserved room (schema_of after) after.open_of logged_after
    without (inl o) =
        subst (λ (u : Store). IsReserved room (schema_of u) u.open_of logged_after) (sym (ap (undone s.store i (now s.store i)) o.kept_is))
        (reserved_back (schema_of s.store) s.store.open_of s.log.logged logged_after i (Some (record (now s.store i) { kept = o.earlier; owed = o.latest ∷ (now s.store i).owed; back = (now s.store i).back + 1 })) (undoes (s.log.logged i) (Pay o.latest ∷ o.earlier))
        (λ j. ap (λ (f : ℕ → Logged). f j) (logs_logged s.store i act.UndoOne Undoes s.log) ∙ ap (λ ks. with_one s.log.logged i (undoes (s.log.logged i) ks) j) o.kept_is)
        core.data_room was room the_open.of_session h.reserves.data_room same same_limit bytes 0 (bytes_are ∙ ap (λ ks. min (latest_bytes (schema_of s.store) (now s.store i) (s.log.logged i).ghosted ks) (2 ^ 64 - 1)) o.kept_is)
        (let same_room = unpaid_room (schema_of s.store) (now s.store i) (s.log.logged i).ghosted o.latest o.earlier o.kept_is in
        let held = now_room (schema_of s.store) (s.store.open_of i) (s.log.logged i).ghosted in
        let all : room_kept (schema_of s.store) (Some (record (now s.store i) { kept = o.earlier; owed = o.latest ∷ (now s.store i).owed; back = (now s.store i).back + 1 })) (s.log.logged i).ghosted + 0 ≡ kept_for (schema_of s.store) s.store.open_of s.log.logged i = omega (arith, same_room, held) in
        all)
        small own_share others total)
    without (inr o) =
        subst (λ (u : Store). IsReserved room (schema_of u) u.open_of logged_after) (sym (ap (undone s.store i (now s.store i)) o.kept_is))
        (reserved_back (schema_of s.store) s.store.open_of s.log.logged logged_after i (Some (record (now s.store i) { kept = o.earlier; owed = []; back = 0; notes = notes_before (length o.earlier) (now s.store i).notes })) (undoes (s.log.logged i) (Put o.change o.owed ∷ o.earlier))
        (λ j. ap (λ (f : ℕ → Logged). f j) (logs_logged s.store i act.UndoOne Undoes s.log) ∙ ap (λ ks. with_one s.log.logged i (undoes (s.log.logged i) ks) j) o.kept_is)
        core.data_room was room the_open.of_session h.reserves.data_room same same_limit bytes (growth_back (schema_of s.store) o.change + sum (map delta_entry (unghosted (s.log.logged i).ghosted (still_owed (now s.store i)))))
        (bytes_are ∙ ap (λ ks. min (latest_bytes (schema_of s.store) (now s.store i) (s.log.logged i).ghosted ks) (2 ^ 64 - 1)) o.kept_is)
        (unput_room (schema_of s.store) (now s.store i) (s.log.logged i).ghosted o.change o.owed o.earlier (notes_before (length o.earlier) (now s.store i).notes) o.kept_is ∙ now_room (schema_of s.store) (s.store.open_of i) (s.log.logged i).ghosted)
        small own_share others total)

    -- with what was kept for it given back
    pub undone_reserved : IsReserved room (schema_of after) after.open_of logged_after
    undone_reserved = without keeps_here

  pub undone_told : new ≡ record core { store = new.store; book = new.book; ahead = new.ahead; next = new.next } → (room : DataRoom) (log : LogRoom) → room.limit ≡ new.data_room.limit → log.limit ≡ new.log_room.limit → (left : ℕ) → left ≡ length earlier → Holds maps spare limit new after (logs s.store i act.UndoOne Undoes s.log) (its_texts s)
      → IsReserved room (schema_of after) after.open_of logged_after → IsRoomOf log after (logs s.store i act.UndoOne Undoes s.log) → Told maps spare limit s i act.UndoOne (answer.Undone left) (record new { data_room = room; log_room = log })
  undone_told rest room log same_limit same_log left left_is holds reserves logged =
      told_by maps spare limit (record new { data_room = room; log_room = log }) s i
      (rooms_underway maps spare limit new room log same_limit s i same_log (still_underway maps spare limit core new s i (begun_underway maps spare limit core s i h)
      (record { steps = ap (λ (x : CoreState M). x.steps) rest; seats = ap (λ (x : CoreState M). x.seats) rest; cleaner = ap (λ (x : CoreState M). x.cleaner) rest; stop = ap (λ (x : CoreState M). x.stop) rest; limit = ap (λ (x : CoreState M). x.data_room.limit) rest; log_limit = ap (λ (x : CoreState M). x.log_room.limit) rest })
      (λ js. ap (λ (x : CoreState M). table.waiting_of x.locks i) rest ∙ h.own js) (λ j n. ap (λ (x : CoreState M). table.waiting_of x.locks j) rest)))
      act.UndoOne (answer.Undone left) (Undoes ∷ []) (record { latest = latest; earlier = earlier; kept_is = kept_is; left_is = left_is; effects = refl }) (rooms_hold maps spare limit new room log same_limit after (logs s.store i act.UndoOne Undoes s.log) (its_texts s) holds) (record { data_room = reserves; log_room = logged }) refl refl (omega arith) (next_few (schema_of s.store) _ _)
