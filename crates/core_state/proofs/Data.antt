-- What the data use in a core, and that it is within their limit.
use Rattle.std.specs.Prelude.{◌≡◌, ℕ, ◌+◌, ◌-◌, ◌<◌, ◌≤◌, ◌^◌, min, List, [], ◌∷◌, ◌++◌, map, Option, None, Some, IfSome, IfNone, refl}
use Rattle.std.specs.List.{sum}
use mathlib.Core.Path.{sym, ap, subst, ◌∙◌}
use Rattle.std.proofs.Common.{arith}
use Rattle.iv_types.specs.Maps.{Map, IsWithin, used, map_size}
use Rattle.iv_meaning.specs.Database.{Rows}
use Rattle.iv_meaning.specs.Schema.{Schema}
use Rattle.query_laws.specs.Limited.{IsLimited}
use Rattle.txn_machine.specs.Acts.{Act}
use Rattle.txn_machine.specs.Answers.{Answer}
use Rattle.txn_machine.specs.Counts.{sum_over, told_need}
use Rattle.txn_machine.specs.Fresh.{fresh}
use Rattle.txn_machine.specs.Ghosts.{the_views}
use Rattle.txn_machine.specs.Log.{Log, Opening, Within, Above, view_entries, definition_entries}
use Rattle.txn_machine.specs.State.{State}
use Rattle.txn_machine.specs.Steps.{Did, Step, Run, FitsData, IsDataFull, texts_of, used_data}
use Rattle.txn_machine.specs.Store.{Store, committed, schema_of}
use Rattle.txn_machine.specs.Stored.{AreStored}
use Rattle.txn_machine.specs.ViewLaws.{AreSound}
use Rattle.txn_machine.proofs.Good.{stored_sound}
use Rattle.txn_machine.proofs.Looking.{view_laws}
use Rattle.txn_machine.proofs.Reached.{reached}
use Rattle.txn_machine.proofs.Shapes.{stored_row_law}
use Rattle.txn_log.specs.Room.{rows_bytes, OpensWithin}
use Rattle.txn_log.proofs.Staying.{data_limit}
use Rattle.data_store.specs.Contents.{Contents, contents_of}
use Rattle.data_store.specs.Held.{IsHeld}
use Rattle.data_room.specs.Reserved.{Where, kept_for, AreReserved}
use Rattle.data_room.specs.declared.room.DataRoom.{DataRoom}
use Rattle.data_room.proofs.Used.{used_is}
use Rattle.definition_parts.proofs.Sizes.{sizes_are}
use Rattle.data_room.proofs.Wheres.{where_always, where_map, where_two, where_above, within_is, is_within, within_fewer, above_more}
use Rattle.log_room.specs.declared.room.LogRoom.{LogRoom}
use Rattle.definition_parts.specs.Parts.{HasTexts}
use Rattle.core_state.specs.Stands.{IsOpening, Began, Reserves, Holds, Counts, Texts}
use Rattle.core_state.specs.declared.state.CoreState.{CoreState}

-- ---- what is kept of the data alone becomes another

module _ {M : Type 0} (maps : M → ℕ → Map) (spare : M → ℕ → ℕ) (limit : M → Option ℕ) (core : CoreState M) (room : DataRoom) where
  pub data_holds : (store : Store) (l : Log) (texts : Texts) → room.limit ≡ core.data_room.limit → Holds maps spare limit core store l texts → Holds maps spare limit (record core { data_room = room }) store l texts
  data_holds store l texts same h = record {
    stored = h.stored;
    book = h.book;
    locks = h.locks;
    begun = h.begun;
    next = h.next;
    texts = h.texts;
    row_mark = h.row_mark;
    delta_mark = h.delta_mark;
    past = h.past;
    ahead = h.ahead;
    rooms = h.rooms;
    most = h.most ∙ sym same;
  }

  pub data_counts : (s : State) → Counts maps spare limit core s → Counts maps spare limit (record core { data_room = room }) s
  data_counts s h = record { steps = h.steps; seats = h.seats; few = h.few; cleaner = h.cleaner; removed = h.removed; running = h.running; begun = h.begun; next = h.next; stop = h.stop }

-- what is used and reserved of the log alone becomes another
pub log_holds : {M : Type 0} (maps : M → ℕ → Map) (spare : M → ℕ → ℕ) (limit : M → Option ℕ) (core : CoreState M) (room : LogRoom) (store : Store) (l : Log) (texts : Texts) → Holds maps spare limit core store l texts → Holds maps spare limit (record core { log_room = room }) store l texts
log_holds maps spare limit core room store l texts h = record {
  stored = h.stored;
  book = h.book;
  locks = h.locks;
  begun = h.begun;
  next = h.next;
  texts = h.texts;
  row_mark = h.row_mark;
  delta_mark = h.delta_mark;
  past = h.past;
  ahead = h.ahead;
  rooms = h.rooms;
  most = h.most;
}

-- ---- steps lead on within the limit

run_more : (s : State) (ds : List Did) (middle : State) (d : Did) (after : State) → Run s ds middle → Step middle d.session d.act d.said after → Run s (ds ++ d ∷ []) after
run_more s [] middle d after r step = (after, subst (λ x. Step x d.session d.act d.said after) r step, refl)
run_more s (x ∷ ds) middle d after r step = (r.0, r.1, run_more r.0 ds middle d after r.2 step)

pub steps_on : (log most : Option ℕ) (s : State) (i : ℕ) (a : Act) (said : Answer) (after : State) → IsOpening log most s → Step s i a said after → after.opening ≡ s.opening → IsOpening log most after
steps_on log most s i a said after h step same = record {
  log_is = ap (λ (o : Opening). o.log_limit) same ∙ h.log_is;
  data_is = ap (λ (o : Opening). o.data_limit) same ∙ h.data_is;
  reached = record {
    db = h.reached.db;
    view = h.reached.view;
    opening = h.reached.opening;
    was_opened = h.reached.was_opened;
    steps = h.reached.steps ++ record { session = i; act = a; said = said } ∷ [];
    run = run_more _ h.reached.steps s (record { session = i; act = a; said = said }) after h.reached.run step;
  };
  was = h.was ∙ sym same;
  least = h.least;
  bounded = h.bounded;
  within = subst (λ (o : Opening). OpensWithin o (record { db = h.reached.db; view = h.reached.view })) (sym same) h.within;
  early = subst (λ (o : Opening). o.next ≤ 2 ^ 62 + 1) (sym same) h.early;
}

-- ---- what the data use

module _ {M : Type 0} (maps : M → ℕ → Map) (spare : M → ℕ → ℕ) (limit : M → Option ℕ) (core : CoreState M) (s : State) (opening : IsOpening core.log_room.limit core.data_room.limit s) (reserves : Reserves maps spare limit core s.store s.log)
    (c : Contents) (held : IsHeld core.store.catalog (maps core.store.tables) core.store.views c) (texts : HasTexts (maps core.store.tables 0) core.store.catalog (texts_of s)) (objects : c.objects ≡ schema_of s.store) (rows : c.rows ≡ s.store.rows) (view : c.view ≡ s.store.view) (limited : IsLimited (schema_of s.store)) where
  sound : AreSound (schema_of s.store) s.store.rows
  sound = stored_sound the_views fresh view_laws (committed s.store) s.store (reached s opening.reached)

  pub entries_are : used (maps core.store.tables) ≡ rows_bytes (schema_of s.store) s.store.rows + view_entries s.store.view + sum (map definition_entries (texts_of s))
  entries_are =
      used_is core.store.catalog (maps core.store.tables) core.store.views c held
      (subst (λ (o : Schema). AreSound o c.rows) (sym objects) (subst (λ (r : Rows). AreSound (schema_of s.store) r) (sym rows) sound))
      (subst (λ (o : Schema). AreStored o c.view) (sym objects) (subst (AreStored (schema_of s.store)) (sym view) (stored_row_law s opening.reached)))
      (subst IsLimited (sym objects) limited)
      ∙ ((λ x. rows_bytes (objects x) (rows x) + view_entries (view x) + map_size (texts.are x))
      ∙ ap (λ n. rows_bytes (schema_of s.store) s.store.rows + view_entries s.store.view + n) (sizes_are (texts_of s) texts.short texts.few))

  pub all_used : Where core.data_room.limit (used (maps core.store.tables) + core.data_room.total ≡ used_data s)
  all_used = where_map core.data_room.limit (λ (r : AreReserved core.data_room (schema_of s.store) s.store.open_of s.log.logged).
      let stored = entries_are in
      let total : core.data_room.total ≡ sum_over 64 (kept_for (schema_of s.store) s.store.open_of s.log.logged) = r.total in
      let same : used (maps core.store.tables) + core.data_room.total ≡ used_data s = omega (arith, stored, total) in
      same) reserves.data_room

  pub data_fits : Within core.data_room.limit (used_data s)
  data_fits = subst (λ m. Within m (used_data s)) opening.data_is
      (subst (λ (o : Opening). Within o.data_limit (used_data s)) opening.was
      (data_limit s opening.reached (subst (λ (o : Opening). OpensWithin o (record { db = opening.reached.db; view = opening.reached.view })) (sym opening.was) opening.within)))

  pub data_within : IsWithin core.data_room.limit (used (maps core.store.tables) + core.data_room.total)
  data_within = within_fewer core.data_room.limit (used_data s) (used (maps core.store.tables) + core.data_room.total)
      (where_map core.data_room.limit (λ (e : used (maps core.store.tables) + core.data_room.total ≡ used_data s). let le : used (maps core.store.tables) + core.data_room.total ≤ used_data s = omega (arith, e) in le) all_used)
      (within_is core.data_room.limit (used_data s) data_fits)

-- in a core whose step has begun
module _ {M : Type 0} (maps : M → ℕ → Map) (spare : M → ℕ → ℕ) (limit : M → Option ℕ) (core : CoreState M) (s : State) (i : ℕ) (h : Began maps spare limit core s i) where
  limited_here : IsLimited (schema_of s.store)
  limited_here = subst IsLimited h.holds.stored.objects h.holds.rooms.limited

  pub began_entries : used (maps core.store.tables) ≡ rows_bytes (schema_of s.store) s.store.rows + view_entries s.store.view + sum (map definition_entries (texts_of s))
  began_entries = entries_are maps spare limit core s h.opening h.reserves (contents_of s.store) h.holds.stored h.holds.texts refl refl refl limited_here

  pub began_used : Where core.data_room.limit (used (maps core.store.tables) + core.data_room.total ≡ used_data s)
  began_used = all_used maps spare limit core s h.opening h.reserves (contents_of s.store) h.holds.stored h.holds.texts refl refl refl limited_here

  pub began_within : IsWithin core.data_room.limit (used (maps core.store.tables) + core.data_room.total)
  began_within = data_within maps spare limit core s h.opening h.reserves (contents_of s.store) h.holds.stored h.holds.texts refl refl refl limited_here

  pub began_fits : Within core.data_room.limit (used_data s)
  began_fits = data_fits maps spare limit core s h.opening h.reserves (contents_of s.store) h.holds.stored h.holds.texts refl refl refl limited_here

  pub limit_of : s.opening.data_limit ≡ core.data_room.limit
  limit_of = h.opening.data_is

  abbrev in_all : ℕ
  in_all = used (maps core.store.tables) + core.data_room.total

  -- what was tested, of a need that stands still at the end of a `u64`
  pub tested_room : (need exact : ℕ) → need ≡ told_need exact → IsWithin core.data_room.limit (in_all + need) → Where core.data_room.limit (in_all + need < 2 ^ 32) → FitsData s exact
  tested_room need exact is fits small =
      subst (λ m. Within m (used_data s + exact)) (sym limit_of) (is_within core.data_room.limit (used_data s + exact)
      (within_fewer core.data_room.limit (in_all + need) (used_data s + exact)
      (where_two core.data_room.limit (λ (e : in_all ≡ used_data s) (lt : in_all + need < 2 ^ 32). let le : used_data s + exact ≤ in_all + need = omega (arith, e, lt, is) in le) began_used small) fits))

  pub tested_few : (need exact : ℕ) → need ≡ told_need exact → IsWithin core.data_room.limit (in_all + need) → Where core.data_room.limit (in_all + need < 2 ^ 32) → Where s.opening.data_limit (used_data s + exact < 2 ^ 32)
  tested_few need exact is fits small =
      subst (λ m. Where m (used_data s + exact < 2 ^ 32)) (sym limit_of)
      (where_two core.data_room.limit (λ (e : in_all ≡ used_data s) (lt : in_all + need < 2 ^ 32). let few : used_data s + exact < 2 ^ 32 = omega (arith, e, lt, is) in few) began_used small)

  pub full_of_data : (all need exact : ℕ) → need ≡ told_need exact → Where core.data_room.limit (all ≡ in_all) → Above core.data_room.limit (all + need) → IsDataFull s exact all
  full_of_data all need exact is counted passes = record {
    used_is = where_above core.data_room.limit (all + need) counted passes ∙ where_above core.data_room.limit (all + need) began_used passes;
    full = subst (λ m. Above m (all + exact)) (sym limit_of)
        (above_more core.data_room.limit (all + need) (all + exact) (where_always core.data_room.limit (let le : all + need ≤ all + exact = omega (arith, is) in le)) passes);
  }

-- ---- what a test of the limit tells, where the count of entries stands still at the end of a `u64`

module _ (limit : Option ℕ) (all entries total : ℕ) (is : entries ≡ min all (2 ^ 64 - 1)) (few : Where limit (entries + total < 2 ^ 32)) where
  exact : Where limit (entries ≡ all)
  exact = where_map limit (λ (less : entries + total < 2 ^ 32). let same : entries ≡ all = omega (arith, less, is) in same) few

  pub tested_fits : (need : ℕ) (r : Option ℕ) → IfNone r (IsWithin limit (entries + total + need)) → IfNone r (IsWithin limit (all + total + need))
  tested_fits need (Some x) h = tt
  tested_fits need None h = within_fewer limit (entries + total + need) (all + total + need) (where_map limit (λ (e : entries ≡ all). let le : all + total + need ≤ entries + total + need = omega (arith, e) in le) exact) h

  pub tested_small : (need : ℕ) (r : Option ℕ) → IfNone r (Where limit (entries + total + need < 2 ^ 32)) → IfNone r (Where limit (all + total + need < 2 ^ 32))
  tested_small need (Some x) h = tt
  tested_small need None h = where_two limit (λ (e : entries ≡ all) (less : entries + total + need < 2 ^ 32). let lt : all + total + need < 2 ^ 32 = omega (arith, e, less) in lt) exact h

  pub tested_used : (r : Option ℕ) → IfSome r (λ used. used ≡ entries + total) → IfSome r (λ used. Where limit (used ≡ all + total))
  tested_used None h = tt
  tested_used (Some x) h = where_map limit (λ (e : entries ≡ all). let same : x ≡ all + total = omega (arith, e, h) in same) exact

-- fewer are counted
pub tested_within : (limit : Option ℕ) (all entries total : ℕ) → entries ≡ min all (2 ^ 64 - 1) → IsWithin limit (all + total) → IsWithin limit (entries + total)
tested_within None all entries total is h = tt
tested_within (Some most) all entries total is h = omega (arith, is, h)
