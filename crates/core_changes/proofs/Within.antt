-- A Put that is within the limits, in a core that has room for it.
use Rattle.std.specs.Prelude.{◌≡◌, ◌≢◌, ℕ, ◌+◌, ◌*◌, ◌-◌, ◌^◌, ◌<◌, ◌≤◌, false, List, [], ◌∷◌, ◌++◌, map, length, reverse, Option, Some, refl}
use Rattle.std.specs.Option.{unwrap_or}
use Rattle.std.specs.List.{Contains, sum}
use Rattle.std.specs.FinMap.{get}
use mathlib.Core.Path.{sym, ap, subst, ◌∙◌}
use Rattle.std.proofs.Common.{arith}
use Rattle.std.proofs.lemmas.List.{length-reverse}
use Rattle.iv_types.specs.Maps.{Map, IsWithin, used}
use Rattle.iv_types.specs.Definitions.{Definitions, AreNumbered}
use Rattle.iv_types.specs.declared.catalog.TableDef.{TableDef}
use Rattle.iv_types.specs.declared.lock.Change.{Change}
use Rattle.iv_types.specs.declared.lock.GroupDelta.{GroupDelta}
use Rattle.iv_types.specs.declared.lock.Kept.{Kept}
use Rattle.iv_types.specs.declared.lock.Want.{Want}
use Rattle.lock_manager.specs.Table as lock
use Rattle.table_store.specs.Stored.{table_of, IsTableAnd, OfTable}
use Rattle.table_store.specs.Changes.{IsKept, IsChange, made_by, gone_by, how_many, sizes}
use Rattle.table_store.specs.Readying.{HasPlaces}
use Rattle.table_store.proofs.TableIndexes.{table_number}
use Rattle.txn_machine.specs.Acts as act
use Rattle.iv_meaning.specs.Objects as defined
use Rattle.iv_meaning.specs.Schema.{table, numbered}
use Rattle.txn_machine.specs.Counts.{put_size, kept_change_size, transaction_size, told_need}
use Rattle.txn_machine.specs.Deltas.{RowChange}
use Rattle.txn_machine.specs.Ghosts.{the_views}
use Rattle.txn_machine.specs.Keeping.{Open, idle}
use Rattle.txn_machine.specs.May.{IsOpen}
use Rattle.txn_machine.specs.RowChanges.{row_change}
use Rattle.txn_machine.specs.State.{State}
use Rattle.txn_machine.specs.Steps.{IsFree, put_owed}
use Rattle.txn_machine.specs.Store.{Store, Takes, does, now, schema_of, committed, change_at, notes_before}
use Rattle.txn_machine.proofs.Basics.{one_same}
use Rattle.txn_machine.proofs.Standing.{notes_stand}
use Rattle.txn_book.specs.Books.{IsBook, IsOpenAnd, open_changes, total_bytes}
use Rattle.txn_book.specs.Opens.{open_at}
use Rattle.txn_book.specs.Txns.{txn_of}
use Rattle.core_state.specs.Rooms.{all_gone}
use Rattle.core_state.specs.Stands.{Began, Holds, its_texts}
use Rattle.core_state.specs.declared.state.CoreState.{CoreState}
use Rattle.data_room.proofs.Entries.{each_held}
use Rattle.core_effects.proofs.Gone.{its_number}
use Rattle.core_changes.specs.Putting.{CanPut}
use Rattle.core_changes.specs.Room.{HasRoom}
use Rattle.core_changes.proofs.Data.{change_within, put_reserved}
use Rattle.core_changes.proofs.Logged.{put_logged}
use Rattle.core_changes.proofs.Making.{mine}
use Rattle.lock_manager.specs.Table.{Table, AddAtMost}
use Rattle.lock_manager.proofs.Counts.{all_new}
use Rattle.std.proofs.lemmas.List.{nil_from_length}
use Rattle.txn_machine.specs.Answers as answer
use Rattle.txn_machine.specs.Log.{Log, Within, logs, growth_back, delta_entry, reserved, owed_bytes}
use Rattle.txn_machine.specs.Records.{write_bytes}
use Rattle.txn_machine.specs.Steps.{FitsLog, FitsData, history_bytes, put_need, log_need, data_need, group_want}
use Rattle.txn_machine.specs.Store.{Writes}
use Rattle.core_state.specs.Stands.{Told}
use Rattle.data_room.specs.Reserved.{share_at}
use Rattle.data_room.specs.declared.room.DataRoom.{DataRoom}
use Rattle.log_room.specs.Rooms.{IsRoomOf, OwesNothing, SameRoomLaw}
use Rattle.log_room.specs.declared.room.LogRoom.{LogRoom}
use Rattle.core_state.proofs.Data.{data_holds, log_holds}
use Rattle.core_state.proofs.Counted.{counted}
use Rattle.core_effects.specs.Writing.{CanWrite, IsNoting}
use Rattle.data_store.specs.Machine.{bytes_of}
use Rattle.data_past.specs.Ahead.{CanAddAt, all_rows, all_deltas}
use Rattle.data_past.specs.Moves.{version_of}
use Rattle.data_store.specs.Past.{committed_value}
use Rattle.data_store.proofs.RowsThen.{committed_is}
use Rattle.core_effects.specs.declared.writing.Writing.{Writing}
use Rattle.core_effects.proofs.Done.{AreUncounted, done_told}
use Rattle.core_effects.proofs.Opened.{Has}
use Rattle.ghost_rows.specs.State.{room_of}
use Rattle.core_state.specs.Rooms.{paid}
use Rattle.core_changes.proofs.Puts.{of, open_here, table_here, undo_room, stands_after}

module _ {M : Type 0} (maps : M → ℕ → Map) (spare : M → ℕ → ℕ) (limit : M → Option ℕ) (core : CoreState M) (s : State) (i : ℕ) (change : Change) (wants : List Want) (deltas : List GroupDelta) (bytes entry_bytes : ℕ)
    (can : CanPut maps spare limit s core i change wants deltas bytes entry_bytes) where
  abbrev h : Began maps spare limit core s i
  h = can.puts.began

  abbrev pub c : RowChange
  c = row_change change

  abbrev its_open : IsOpen s.store i
  its_open = open_here maps spare limit core s i change wants can.puts

  abbrev its_table : TableDef
  its_table = of maps spare limit core s i change wants can.puts

  abbrev own_txn : Has (schema_of s.store) (open_at core.book.opens i) (now s.store i) (s.log.logged i)
  own_txn = mine maps spare limit core s i h its_open

  -- nobody is in the way in the table of locks either
  pub free_there : lock.IsFree (lock.locks_of core.locks) i wants
  free_there other way = can.puts.free other (record {
    of_session = way.of_session;
    not_itself = way.not_itself;
    meet = record { lock = way.meet.lock; held = (h.holds.locks other way.of_session way.meet.lock).0 way.meet.held; want = way.meet.want; wanted = way.meet.wanted; conflict = way.meet.conflict };
  })

  abbrev pub between : Store
  between = does the_views s.store i (Takes wants)

  abbrev with_locks : Open
  with_locks = record (now s.store i) { locks = wants ++ (now s.store i).locks }

  same_now : now between i ≡ with_locks
  same_now = ap (λ x. unwrap_or x idle) (one_same s.store.open_of i (Some with_locks) i refl)

  owes_none : (now s.store i).owed ≡ []
  owes_none = ap (λ x. (unwrap_or x idle).owed) can.puts.may.0.goes_on.is_open ∙ can.puts.may.0.owes_nothing

  module _ (good : IsBook core.book) (are : AreNumbered core.store.catalog) (room : HasRoom spare core i change.table (length wants) deltas) where
    pub can_add : AddAtMost (lock.room_of core.locks i) (lock.locks_of core.locks i) wants
    can_add = all_new (lock.room_of core.locks i) (lock.locks_of core.locks i) wants (let r = room.locks in omega (arith, r))

    none_owed : own_txn.txn.owed.items ≡ []
    none_owed =
        let none : length (txn_of own_txn.txn).owed ≡ 0 = ap length (own_txn.is.owed ∙ owes_none) in
        let turned : length (reverse own_txn.txn.owed.items) ≡ length own_txn.txn.owed.items = length-reverse own_txn.txn.owed.items in
        nil_from_length own_txn.txn.owed.items (omega (arith, none, turned))

    none_back : (now s.store i).back ≡ 0
    none_back =
        let at_most : own_txn.txn.back ≤ length own_txn.txn.owed.items = (good.roomy i own_txn.txn own_txn.there).back in
        let none : length own_txn.txn.owed.items ≡ 0 = ap length none_owed in
        let same : own_txn.txn.back ≡ (now s.store i).back = own_txn.is.back in
        omega (arith, at_most, none, same)

    module _ (after : Table) (w : Writing) (left : lock.room_of core.locks i ≤ lock.room_of after i + length wants)
        (owed_are_it : w.owed.items ≡ deltas) (wants_are_it : w.wants.items ≡ map (λ d. group_want d ∷ []) deltas) (bytes_it : w.txn_bytes ≡ bytes) (entry_it : w.history_bytes ≡ entry_bytes)
        (kept_it : OfTable core.store.catalog change.table (IsKept core.store.catalog change w.ready.kept)) (coming_it : w.ready.coming ≡ w.ready.kept.made)
        (noting_index : w.noting.index ≡ change.table) (noting_key : w.noting.key ≡ change.key) (noting_bytes : w.noting.committed ≡ committed_value core.store.pending.entries (maps core.store.tables) (change.table, change.key))
        (version_it : w.version ≡ version_of core.store.catalog change) (copies_it : w.copies.items ≡ deltas) (ahead_room : CanAddAt core.ahead i (length deltas))
        (row_room : all_rows core.ahead + 1 ≤ core.store.row_versions.room) (delta_room : all_deltas core.ahead + length deltas ≤ core.store.delta_versions.room) where
      abbrev k : Kept
      k = w.ready.kept

      is_kept : IsKept core.store.catalog change k its_table
      is_kept = kept_it its_table (table_here maps spare limit core s i change wants can.puts)

      pub same : k.change ≡ change
      same = is_kept.change_is

      number_is : its_table.number ≡ change.table
      number_is = table_number core.store.catalog change.table its_table are (table_here maps spare limit core s i change wants can.puts)

      its_own : table_of core.store.catalog its_table.number ≡ Some its_table
      its_own = its_number core.store.catalog are change.table its_table (table_here maps spare limit core s i change wants can.puts)

      is_change : IsChange core.store.catalog change (maps core.store.tables) (limit core.store.tables) its_table
      is_change = record {
        there = record {
          rows = s.store.rows;
          held = h.holds.stored.tables its_table its_own;
          is = ap (λ n. get s.store.rows (n, change.key)) number_is ∙ sym (ap (λ (x : RowChange). x.before) can.puts.is);
        };
        row_after = stands_after maps spare limit core s i change wants can.puts;
        differ = λ e. can.puts.may.1.changes (sym (ap (λ (x : RowChange). x.before) can.puts.is) ∙ e);
        can_hold = each_held core.store.catalog are h.holds.rooms.limited its_table its_own change.key change.after change.before (stands_after maps spare limit core s i change wants can.puts);
        within = subst (λ m. IsWithin m (used (maps core.store.tables) + sizes (made_by core.store.catalog change its_table) - sizes (gone_by core.store.catalog change its_table))) (sym h.holds.most)
            (change_within maps spare limit core s i h change its_table number_is (subst (λ os. numbered os change.table ≡ Some (table its_table)) (sym h.holds.stored.objects) can.puts.may.1.table_is) can.data_room);
      }

      places : HasPlaces core.store.catalog (open_changes core.book.opens + 1) (spare core.store.tables) its_table
      places = room.places its_table (table_here maps spare limit core s i change wants can.puts)

      -- the bytes that were read are those that are committed
      is_noting : IsNoting between w.noting (k.change.table, k.change.key)
      is_noting = subst (λ (ch : Change). IsNoting between w.noting (ch.table, ch.key)) (sym same) (record {
        is_of = λ x. (noting_index x, noting_key x);
        committed = noting_bytes ∙ subst (λ n. committed_value core.store.pending.entries (maps core.store.tables) (n, change.key) ≡ bytes_of (schema_of s.store) (n, change.key) (get (committed s.store).rows (n, change.key))) number_is
            (committed_is core.store.catalog (maps core.store.tables) core.store.views s h.reached h.holds.stored core.store.row_versions.versions core.store.delta_versions.versions core.store.pending.entries h.holds.past its_table its_own change.key);
      })

      pub can_write : CanWrite maps spare limit between (record core { locks = after }) i w
      can_write = record {
        is_open = record { of_session = its_open.of_session; transaction = with_locks; is_open = one_same s.store.open_of i (Some with_locks) i refl };
        owes_none = ap (λ (x : Open). x.owed) same_now ∙ owes_none;
        notes = ap (λ (x : Open). notes_before (length x.kept) x.notes) same_now ∙ (notes_stand s h.reached i none_back ∙ sym (ap (λ (x : Open). x.notes) same_now));
        change = subst (λ (ch : Change). row_change ch ≡ change_at s.store (ch.table, ch.key) ch.after) (sym same) can.puts.is;
        owed = owed_are_it ∙ (can.owed_is ∙ ap (λ (ch : Change). put_owed s.store (row_change ch)) (sym same));
        bytes = bytes_it ∙ (can.bytes_are ∙ (ap (put_size (schema_of s.store) c) (sym (owed_are_it ∙ can.owed_is)) ∙ ap (λ (ch : Change). put_size (schema_of s.store) (row_change ch) w.owed.items) (sym same)));
        history_bytes = entry_it ∙ (can.entry_bytes_are ∙ ap (λ (ch : Change). kept_change_size (schema_of s.store) (row_change ch)) (sym same));
        small = (own_txn.txn, own_txn.there, (let has : own_txn.txn.txn_bytes ≡ transaction_size (schema_of s.store) (now s.store i) = own_txn.is.txn_bytes in let r = can.room in omega (arith, has, r, bytes_it)));
        keeps = (
          own_txn.txn,
          own_txn.there,
          record {
            room = subst (λ ds. Rattle.txn_book.specs.Txns.HasRoomFor (length ds) own_txn.txn) (sym owed_are_it) (room.step own_txn.txn own_txn.there);
            paid = none_owed;
            fits = let has : own_txn.txn.txn_bytes ≡ transaction_size (schema_of s.store) (now s.store i) = own_txn.is.txn_bytes in let r = can.room in omega (arith, has, r, bytes_it);
            fits_history = let all : total_bytes core.book ≡ history_bytes s = counted maps spare limit core s i h good in let r = can.history_room in omega (arith, all, r, entry_it);
          },
        );
        ready = (
          its_table,
          ap (λ (ch : Change). table_of core.store.catalog ch.table) same ∙ table_here maps spare limit core s i change wants can.puts,
          record {
            change = subst (λ ch. IsChange core.store.catalog ch (maps core.store.tables) (limit core.store.tables) its_table) (sym same) is_change;
            kept = subst (λ ch. IsKept core.store.catalog ch k its_table) (sym same) is_kept;
            coming = coming_it;
            places = record { primary = let had = places.primary in omega (arith, had); secondary = λ x of_t. let had = places.secondary x of_t in omega (arith, had) };
          },
        );
        undo = λ index. subst (λ es. all_gone index core.book.opens + how_many index es ≤ spare core.store.tables index) (sym is_kept.made)
            (undo_room maps spare limit core s.store s.log (its_texts s) h.holds good are its_table its_own places change index);
        owes = record {
          locks = let had = room.locks in let many : length w.owed.items ≡ length deltas = ap length owed_are_it in omega (arith, had, many, left);
          buffers = subst (λ ds. IsOpenAnd core.book i (λ o. 2 * length ds + length (paid (reverse o.kept.items)) ≤ room_of core.store.views i)) (sym owed_are_it) room.owes.buffers;
          seats = λ d has. room.owes.seats d (subst (λ ds. Contains ds d) owed_are_it has);
        };
        ahead = record {
          version = version_it ∙ ap (version_of core.store.catalog) (sym same);
          copies = copies_it ∙ sym owed_are_it;
          room = subst (λ ds. CanAddAt core.ahead i (length ds)) (sym copies_it) ahead_room;
          row_room = row_room;
          delta_room = subst (λ ds. all_deltas core.ahead + length ds ≤ core.store.delta_versions.room) (sym copies_it) delta_room;
        };
        noted = is_noting;
        wants = wants_are_it ∙ ap (map (λ d. group_want d ∷ [])) (sym owed_are_it);
      }

  -- ---- what its record takes

  pub written_are : (k : Kept) (written : ℕ) → OfTable core.store.catalog change.table (IsKept core.store.catalog change k)
      → ((definitions : Definitions) → IsTableAnd definitions k.change.table (IsKept definitions k.change k) → written ≡ told_need (write_bytes (defined.schema_of definitions) (row_change k.change))) → written ≡ told_need (write_bytes (schema_of s.store) c)
  written_are k written kept told =
      let there : table_of core.store.catalog change.table ≡ Some its_table = table_here maps spare limit core s i change wants can.puts in
      let is_kept : IsKept core.store.catalog change k its_table = kept its_table there in
      let same : k.change ≡ change = is_kept.change_is in
      told core.store.catalog (its_table, ap (λ (ch : Change). table_of core.store.catalog ch.table) same ∙ there, subst (λ ch. IsKept core.store.catalog ch k its_table) (sym same) is_kept)
      ∙ (ap (λ (ch : Change). told_need (write_bytes (defined.schema_of core.store.catalog) (row_change ch))) same ∙ ap (λ o. told_need (write_bytes o c)) h.holds.stored.objects)

  -- ---- what is told

  abbrev its_act : act.Act
  its_act = act.Put change.table change.key change.after

  abbrev pub taken : Log
  taken = logs s.store i its_act (Takes wants) s.log

  abbrev made : RowChange
  made = change_at s.store (change.table, change.key) change.after

  -- the store and the log as the change leaves them
  abbrev pub left_store : Store
  left_store = does the_views between i (Writes (change.table, change.key) change.after)

  abbrev pub left_log : Log
  left_log = logs between i its_act (Writes (change.table, change.key) change.after) taken

  fits_log : FitsLog s (log_need s.store made)
  fits_log = subst (λ x. FitsLog s (log_need s.store x)) can.puts.is can.log_room

  -- the log's room as it leaves it, where its record takes so many bytes and its deltas reserve so many
  pub log_left : (law : SameRoomLaw) (old new : LogRoom) (written owes : ℕ) → old ≡ core.log_room → written ≡ told_need (write_bytes (schema_of s.store) c) → owes ≡ told_need (owed_bytes false deltas)
      → (OwesNothing between i → IsRoomOf old between taken → written ≡ told_need (write_bytes (schema_of between) (change_at between (change.table, change.key) change.after))
      → owes ≡ told_need (owed_bytes false (put_owed between (change_at between (change.table, change.key) change.after)))
      → Within old.limit (taken.used + reserved between taken + log_need between (change_at between (change.table, change.key) change.after)) → IsRoomOf new left_store left_log)
      → IsRoomOf new left_store left_log
  log_left law old new written owes same written_is owes_are moves =
      put_logged maps spare limit core s i h can.puts.may.0 law wants its_act (change.table, change.key) change.after old new written owes same
      (written_is ∙ ap (λ x. told_need (write_bytes (schema_of s.store) x)) can.puts.is) (owes_are ∙ ap (λ ds. told_need (owed_bytes false ds)) (can.owed_is ∙ ap (put_owed s.store) can.puts.is)) fits_log moves

  module _ (new : CoreState M) (room : DataRoom) (logged : LogRoom) (bytes_kept : ℕ) (kept_are : bytes_kept ≡ told_need (growth_back (schema_of s.store) c + sum (map delta_entry deltas))) where
    -- with what is kept for its transaction
    pub put_told : Holds maps spare limit new left_store left_log (its_texts s)
        → new.data_room ≡ core.data_room → room.limit ≡ new.data_room.limit
        → (share_at new.data_room.shares i ≤ new.data_room.total → new.data_room.total + bytes_kept < 2 ^ 64 → share_at room.shares i ≡ share_at new.data_room.shares i + bytes_kept) → ((j : ℕ) → j ≢ i → share_at room.shares j ≡ share_at new.data_room.shares j) → (new.data_room.total + bytes_kept < 2 ^ 64 → room.total ≡ new.data_room.total + bytes_kept)
        → IsRoomOf logged left_store left_log
        → AreUncounted core (record new { data_room = room; log_room = logged }) → lock.waiting_of new.locks i ≡ [] → ((j : ℕ) → j ≢ i → lock.waiting_of new.locks j ≡ lock.waiting_of core.locks j)
        → Told maps spare limit s i its_act (answer.Changed change.before deltas) (record new { data_room = room; log_room = logged })
    put_told holds same_data same_limit mine rest total log_then same_counts own others =
        done_told maps spare limit core (record new { data_room = room; log_room = logged }) s i h its_act (answer.Changed change.before deltas) (Takes wants ∷ Writes (change.table, change.key) change.after ∷ [])
        (record {
          free = subst (IsFree s.store i) can.puts.wants_are can.puts.free;
          room = let r = can.room in let need : bytes ≡ put_need s.store made = can.bytes_are ∙ ap (put_need s.store) can.puts.is in omega (arith, r, need);
          log_room = fits_log;
          data_room = subst (λ x. FitsData s (data_need s.store x)) can.puts.is can.data_room;
          history_room = let r = can.history_room in let need : entry_bytes ≡ kept_change_size (schema_of s.store) made = can.entry_bytes_are ∙ ap (kept_change_size (schema_of s.store)) can.puts.is in omega (arith, r, need);
          before_is = ap (λ (x : RowChange). x.before) can.puts.is;
          owed_is = can.owed_is ∙ ap (put_owed s.store) can.puts.is;
          effects = ap (λ ws. Takes ws ∷ Writes (change.table, change.key) change.after ∷ []) can.puts.wants_are;
        })
        (log_holds maps spare limit (record new { data_room = room }) logged left_store left_log (its_texts s) (data_holds maps spare limit new room left_store left_log (its_texts s) same_limit holds))
        (record {
          data_room = put_reserved maps spare limit core s i h c deltas (sym (ap (λ (x : RowChange). x.before) can.puts.is)) can.owed_is can.data_small its_open.of_session wants its_act owes_none (change.table, change.key) change.after can.puts.is
              room new.data_room bytes_kept kept_are same_data same_limit mine rest total;
          log_room = log_then;
        })
        same_counts (λ _. own) (λ j js n. others j n ∙ h.waiting j js n) refl refl (omega arith) (omega arith)

-- the same Put in a core that has begun its step in the same state
pub can_still : {M : Type 0} (maps : M → ℕ → Map) (spare : M → ℕ → ℕ) (limit : M → Option ℕ) (core new : CoreState M) (s : State) (i : ℕ) (change : Change) (wants : List Want) (deltas : List GroupDelta) (bytes entry_bytes : ℕ)
    → CanPut maps spare limit s core i change wants deltas bytes entry_bytes → Began maps spare limit new s i → CanPut maps spare limit s new i change wants deltas bytes entry_bytes
can_still maps spare limit core new s i change wants deltas bytes entry_bytes can h = record {
  puts = record { began = h; may = can.puts.may; is = can.puts.is; wants_are = can.puts.wants_are; free = can.puts.free };
  owed_is = can.owed_is;
  bytes_are = can.bytes_are;
  entry_bytes_are = can.entry_bytes_are;
  room = can.room;
  log_room = can.log_room;
  data_room = can.data_room;
  data_small = can.data_small;
  history_room = can.history_room;
}
