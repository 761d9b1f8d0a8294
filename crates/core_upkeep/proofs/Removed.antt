-- A ghost is removed.
use Rattle.std.specs.Prelude.{◌≡◌, ℕ, suc, ◌+◌, ◌≤◌, ℤ, pos, List, [], ◌∷◌, map, length, get_or, Option, Some, refl}
use Rattle.std.specs.FinMap.{get}
use mathlib.Core.Path.{sym, ap, subst, ◌∙◌}
use mathlib.Core.Logic.{inl, inr}
use Rattle.std.proofs.Common.{arith}
use Rattle.std.proofs.lemmas.Int.{ints}
use Rattle.iv_types.specs.Maps.{Map}
use Rattle.iv_types.specs.declared.refusal.EngineRefusal.{EngineRefusal}
use Rattle.iv_types.specs.declared.refusal.EngineRefusal.TheVariants.{LogFull}
use Rattle.table_laws.specs.Place.{Place}
use Rattle.table_laws.proofs.Stored.{by_session}
use Rattle.iv_meaning.specs.Escrow.{over_sessions, paid, value}
use Rattle.iv_meaning.specs.Schema.{view}
use Rattle.query_laws.specs.Limited.{IsLimited}
use Rattle.query_laws.proofs.Widths.{width_law}
use Rattle.lock_manager.specs.Table as table
use Rattle.ghost_rows.specs.State.{State as ViewState, HasSeat, room_of}
use Rattle.txn_machine.specs.Acts as act
use Rattle.txn_machine.specs.Answers as answer
use Rattle.txn_machine.specs.Counts.{definition_sizes, told_need}
use Rattle.txn_machine.specs.Deltas.{worth}
use Rattle.txn_machine.specs.Fresh.{fresh}
use Rattle.txn_machine.specs.Ghosts.{the_views, account_of, IsCleanable, IsFirstCleanable}
use Rattle.txn_machine.specs.Keeping.{increments, idle}
use Rattle.txn_machine.specs.Locks.{with_one}
use Rattle.txn_machine.specs.Log.{Within, Above, logs, reserved}
use Rattle.txn_machine.specs.Records.{Clean, group_bytes}
use Rattle.txn_machine.specs.State.{State}
use Rattle.txn_machine.specs.Stored.{IsStoredRow, stored_number, zeros}
use Rattle.txn_machine.specs.Store.{now, schema_of, committed, does, Cleans}
use Rattle.txn_machine.specs.Steps.{texts_of}
use Rattle.txn_machine.proofs.Basics.{one_same, one_other}
use Rattle.txn_machine.proofs.Bounds.{over_zero}
use Rattle.txn_machine.proofs.Columns.{number_in_row}
use Rattle.txn_machine.proofs.LogRoom.{logs_logged}
use Rattle.txn_machine.proofs.Looking.{view_laws}
use Rattle.txn_machine.proofs.Reached.{stored_law}
use Rattle.txn_machine.proofs.Seats.{session_or, nobody_open}
use Rattle.txn_machine.proofs.Shapes.{stored_row_law}
use Rattle.txn_book.specs.Holding as book
use Rattle.data_store.specs.Contents.{pays_on}
use Rattle.data_store.specs.Held.{IsHeld}
use Rattle.data_changes.specs.Effects.{without_ghost}
use Rattle.data_changes.specs.Ghosts.{HasGhost}
use Rattle.data_changes.proofs.Accounts.{increments_as}
use Rattle.data_past.proofs.Aheads.{ahead_cleans}
use Rattle.data_past.proofs.Effects.{past_cleans}
use Rattle.data_room.specs.Reserved.{IsReserved}
use Rattle.data_room.specs.declared.room.DataRoom.{DataRoom}
use Rattle.log_records.specs.Spelling.{IsShort}
use Rattle.log_disk.specs.Spelled.{in_bytes}
use Rattle.record_lending.specs.Known.{ShortLaw}
use Rattle.log_room.specs.Rooms.{IsRoomOf}
use Rattle.log_room.specs.declared.room.LogRoom.{LogRoom}
use Rattle.core_state.specs.Rooms.{HasRooms}
use Rattle.core_state.specs.Stands.{Began, Told, Holds, told, its_texts}
use Rattle.definition_parts.proofs.Staying.{texts_now}
use Rattle.core_state.proofs.Texts.{told_stored}
use Rattle.data_store.proofs.Told.{untold_held}
use Rattle.core_state.specs.declared.state.CoreState.{CoreState}
use Rattle.core_state.proofs.Logged.{log_fits, log_full}
use Rattle.core_state.proofs.Data.{log_holds}
use Rattle.core_state.proofs.Unchanged.{unchanged_told}
use Rattle.core_effects.proofs.Done.{AreUncounted, done_told}
use Rattle.core_upkeep.proofs.Cleanable.{some_of, map_nil}

-- numbers that are all 0 are a row of zeros
all_zeros : (ns : List ℤ) → ((at : ℕ) → get_or ns at (pos 0) ≡ pos 0) → ns ≡ zeros (length ns)
all_zeros [] h = refl
all_zeros (n ∷ ns) h = λ i. h 0 i ∷ all_zeros ns (λ at. h (suc at)) i

module _ {M : Type 0} (maps : M → ℕ → Map) (spare : M → ℕ → ℕ) (limit : M → Option ℕ) (core : CoreState M) (s : State) (h : Began maps spare limit core s 0) (place : Place) (c : IsCleanable s.store place) where
  abbrev numbers : List ℤ
  numbers = (some_of (get s.store.view place) c.ghost.stored).0

  there : get s.store.view place ≡ Some numbers
  there = (some_of (get s.store.view place) c.ghost.stored).1

  pub row_is : IsStoredRow (schema_of s.store) place numbers
  row_is = stored_row_law s h.reached place numbers there

  -- no session keeps a pay on it
  unpaid : (j : ℕ) → pays_on place (now s.store j).kept ≡ []
  unpaid j = elim (session_or j) [
    | inl js ↦ map_nil (worth 0) (pays_on place (now s.store j).kept) (increments_as place 0 (now s.store j).kept ∙ c.no_pays j js)
    | inr n ↦ ap (λ o. pays_on place (Rattle.std.specs.Option.unwrap_or o idle).kept) (nobody_open s h.reached j n)
  ]

  -- its numbers are all 0
  number_is : (column : ℕ) → get_or numbers column (pos 0) ≡ pos 0
  number_is column =
      let stored : stored_number s.store.view place column ≡ value (account_of s.store place column) = stored_law s h.reached place column in
      let fresh_is : fresh (schema_of s.store) (committed s.store).rows place column ≡ pos 0 = view_laws.none (schema_of s.store) (committed s.store).rows place c.ghost.count column in
      let kept : over_sessions (λ j. paid (increments place column (now s.store j).kept)) ≡ pos 0 =
      over_zero (λ j. paid (increments place column (now s.store j).kept)) (λ j js. ap paid (sym (increments_as place column (now s.store j).kept) ∙ ap (map (worth column)) (unpaid j))) in
      let here : stored_number s.store.view place column ≡ get_or numbers column (pos 0) = ap (number_in_row column) there in
      omega (arith, ints, stored, fresh_is, kept, here)

  pub has_ghost : HasGhost core.store.catalog (maps core.store.tables) core.store.views place (told s.store (its_texts s))
  has_ghost = record {
    held = told_stored maps spare limit core s.store s.log (its_texts s) h.holds;
    of = row_is.of;
    is = row_is.view_is;
    zero = there ∙ ap Some (all_zeros numbers number_is ∙ ap zeros row_is.width);
    unpaid = unpaid;
  }

  limited : IsLimited (schema_of s.store)
  limited = subst IsLimited h.holds.stored.objects h.holds.rooms.limited

  -- its key is short
  pub key_fits : length place.1 ≤ 1024
  key_fits =
      let most = (limited.narrow place.0 (view row_is.of) row_is.view_is).0 in
      let bytes = (width_law _ row_is.group row_is.fits).1 in
      let same : length place.1 ≡ length (Rattle.iv_types.specs.Encoding.key_bytes _ row_is.group) = ap length row_is.key in
      omega (arith, most, bytes, same)

  -- it is of a group of a view, so its record can be written
  pub clean_short : ShortLaw → IsShort (in_bytes (schema_of s.store) (Clean place))
  clean_short law = law (schema_of s.store) limited (Clean place) (record { of = row_is.of; view_is = row_is.view_is; group = row_is.group; fits = row_is.fits; key = row_is.key })

  -- the bytes of its record are told as they are
  pub need_is : (need : ℕ) → need ≡ told_need (group_bytes place) → need ≡ group_bytes place
  need_is need is = let short = key_fits in omega (arith, is, short)

  as_logged : (j : ℕ) → with_one s.log.logged 0 (s.log.logged 0) j ≡ s.log.logged j
  as_logged j = by_session j 0 (λ e. one_same s.log.logged 0 (s.log.logged 0) j e ∙ ap s.log.logged (sym e)) (λ n. one_other s.log.logged 0 (s.log.logged 0) j n)

  -- it is nothing that a transaction keeps
  pub removed_reserves : (room : DataRoom) → room ≡ core.data_room → IsReserved room (schema_of s.store) s.store.open_of (logs s.store 0 act.Clean (Cleans place) s.log).logged
  removed_reserves room same =
      subst (λ f. IsReserved room (schema_of s.store) s.store.open_of f) (sym (logs_logged s.store 0 act.Clean (Cleans place) s.log ∙ (λ x j. as_logged j x)))
      (subst (λ d. IsReserved d (schema_of s.store) s.store.open_of s.log.logged) (sym same) h.reserves.data_room)

  module _ (tables : M) (views : ViewState) (same_limit : limit tables ≡ limit core.store.tables) (rows : views.rows ≡ core.store.views.rows) (rooms : views.rooms ≡ core.store.views.rooms) (spares : (n : ℕ) → spare core.store.tables n ≤ spare tables n) where
    rooms_left : HasRooms (spare tables) core.store.catalog views core.book.opens core.locks core.wants
    rooms_left = record {
      limited = h.holds.rooms.limited;
      undo = λ n. let had = h.holds.rooms.undo n in let more = spares n in omega (arith, had, more);
      each = λ j js t at. let r = h.holds.rooms.each j js t at in record {
        wanted = r.wanted;
        buffers = let same : room_of views j ≡ room_of core.store.views j = ap (λ rs. get_or rs j 0) rooms in omega (arith, r.buffers, same);
        seats = λ d has. subst (λ rs. HasSeat (record views { rows = rs }) (Rattle.txn_machine.specs.Deltas.place_of d) j) (sym rows) (r.seats d has);
        kept = r.kept;
        small = r.small;
      };
    }

    pub removed_holds : IsHeld core.store.catalog (maps tables) views (without_ghost (told s.store (its_texts s)) place)
        → Holds maps spare limit (record core { store = record core.store { tables = tables; views = views }; next = core.next + 1 }) (does the_views s.store 0 (Cleans place)) (logs s.store 0 act.Clean (Cleans place) s.log) (its_texts s)
    removed_holds stored = record {
      stored = untold_held core.store.catalog (maps tables) views (without_ghost (told s.store (its_texts s)) place) stored;
      book = subst (λ f. book.Holds core.book (schema_of s.store) s.store.open_of f s.store.history (committed s.store).number (definition_sizes s.definitions)) (sym (logs_logged s.store 0 act.Clean (Cleans place) s.log ∙ (λ x j. as_logged j x))) h.holds.book;
      locks = h.holds.locks;
      begun = h.holds.begun;
      next = ap (λ n. n + 1) h.holds.next;
      texts = texts_now (maps core.store.tables 0) (maps tables 0) core.store.catalog (texts_of s) h.holds.texts stored.texts;
      row_mark = h.holds.row_mark;
      delta_mark = h.holds.delta_mark;
      most = same_limit ∙ h.holds.most;
      past = past_cleans core.store.row_versions.versions core.store.delta_versions.versions core.store.pending.entries s.store h.holds.past 0 place c.no_versions;
      ahead = ahead_cleans core.ahead core.store.row_versions.room core.store.delta_versions.room s.store h.holds.ahead 0 place;
      rooms = rooms_left;
    }

-- ---- what is used of the log alone becomes another

-- ---- what is told

module _ {M : Type 0} (maps : M → ℕ → Map) (spare : M → ℕ → ℕ) (limit : M → Option ℕ) (core : CoreState M) (s : State) (h : Began maps spare limit core s 0) where
  pub none_told : ((place : Place) → IsCleanable s.store place → ⊥) → Told maps spare limit s 0 act.Clean (answer.Cleaned 0) core
  none_told none = unchanged_told maps spare limit core s 0 act.Clean (answer.Cleaned 0) h (none, refl) refl refl refl refl

  module _ (place : Place) (first : IsFirstCleanable s.store place) (need : ℕ) (is : need ≡ told_need (group_bytes place)) where
    -- the log has no room for its record
    pub full_told : (why : EngineRefusal) → why ≡ LogFull s.log.used (reserved s.store s.log) need → Above core.log_room.limit (s.log.used + reserved s.store s.log + need) → Told maps spare limit s 0 act.Clean (answer.Refused why) core
    full_told why why_is above =
        let exact = need_is maps spare limit core s h place first.is need is in
        let told : need ≡ told_need need = is ∙ ap told_need (sym exact) in
        subst (λ w. Told maps spare limit s 0 act.Clean (answer.Refused w) core) (sym why_is)
        (unchanged_told maps spare limit core s 0 act.Clean (answer.Refused (LogFull s.log.used (reserved s.store s.log) need)) h
        (refl, place, first, exact, log_full maps spare limit core s 0 h need need told above) refl refl refl refl)

    pub removed_told : (new : CoreState M) (room : LogRoom) → Within core.log_room.limit (s.log.used + reserved s.store s.log + need) → Holds maps spare limit new (does the_views s.store 0 (Cleans place)) (logs s.store 0 act.Clean (Cleans place) s.log) (its_texts s)
        → new.data_room ≡ core.data_room → IsRoomOf room (does the_views s.store 0 (Cleans place)) (logs s.store 0 act.Clean (Cleans place) s.log) → AreUncounted core (record new { log_room = room }) → ((j : ℕ) → table.waiting_of new.locks j ≡ table.waiting_of core.locks j)
        → (told : Told maps spare limit s 0 act.Clean (answer.Cleaned 1) (record new { log_room = room })) × (told.effects ≡ Cleans place ∷ [])
    unfolding done_told
    removed_told new room fits holds same_data logged same others = (
      done_told maps spare limit core (record new { log_room = room }) s 0 h act.Clean (answer.Cleaned 1) (Cleans place ∷ [])
          (place, first, refl, log_fits maps spare limit core s 0 h need (group_bytes place) is fits)
          (log_holds maps spare limit new room (does the_views s.store 0 (Cleans place)) (logs s.store 0 act.Clean (Cleans place) s.log) (its_texts s) holds)
          (record { data_room = removed_reserves maps spare limit core s h place first.is new.data_room same_data; log_room = logged }) same (λ js. others 0 ∙ h.own js) (λ j js n. others j ∙ h.waiting j js n) refl refl (omega arith) (omega arith),
      refl,
    )

    -- there is room for it in any room that has the core's limit
    pub fits_exact : (room : LogRoom) → room ≡ core.log_room → Within core.log_room.limit (s.log.used + reserved s.store s.log + need) → Within room.limit (s.log.used + reserved s.store s.log + group_bytes place)
    fits_exact room same fits =
        subst (λ (x : LogRoom). Within x.limit (s.log.used + reserved s.store s.log + group_bytes place)) (sym same)
        (subst (λ n. Within core.log_room.limit (s.log.used + reserved s.store s.log + n)) (need_is maps spare limit core s h place first.is need is) fits)
