-- What a session keeps of the data for what it pays and takes back, and that there is room for it.
use Rattle.std.specs.Prelude.{◌≡◌, ℕ, ◌+◌, ◌-◌, ◌≤◌, ◌^◌, min, ℤ, Bool, true, false, List, [], ◌∷◌, drop, map, reverse, Option, None, Some, IsSome, IfSome, refl}
use Rattle.std.specs.List.{sum}
use Rattle.std.specs.Option.{option_map}
use Rattle.std.specs.FinMap.{get}
use mathlib.Core.Path.{sym, ap, subst, ◌∙◌}
use mathlib.Core.Logic.{inl, inr}
use Rattle.std.proofs.Common.{arith}
use Rattle.iv_types.specs.Encoding.{FitAll}
use Rattle.iv_types.specs.Maps.{Map, IsWithin, used}
use Rattle.iv_types.specs.declared.catalog.TableDef.{TableDef}
use Rattle.iv_types.specs.declared.lock.Change.{Change}
use Rattle.iv_types.specs.declared.lock.GroupDelta.{GroupDelta}
use Rattle.iv_types.specs.declared.lock.Kept.{Kept}
use Rattle.iv_types.specs.declared.lock.KeptStep.{KeptStep as Step}
use Rattle.iv_types.specs.declared.lock.KeptStep.TheVariants as step
use Rattle.iv_meaning.specs.Database.{Row, Rows}
use Rattle.iv_meaning.specs.Escrow.{IsSession}
use Rattle.iv_meaning.specs.Objects as defined
use Rattle.iv_meaning.specs.Schema.{Schema, Object, table, view, numbered, kinds_of_table}
use Rattle.iv_meaning.specs.Sound.{IsRow}
use Rattle.table_laws.specs.Place.{Place}
use Rattle.table_store.proofs.Fresh.{in_schema}
use Rattle.query_laws.specs.Limited.{IsLimited}
use Rattle.ghost_rows.specs.Kept.{width}
use Rattle.ghost_rows.specs.Numbers.{numbers_bytes}
use Rattle.ghost_rows.specs.State.{CanStore}
use Rattle.view_delta.specs.Owing.{RowsFit}
use Rattle.txn_machine.specs.Deltas.{RowChange, place_of}
use Rattle.txn_machine.specs.Keeping.{Open, Put, Pay}
use Rattle.txn_machine.specs.KeptLaws.{IsDelta}
use Rattle.txn_machine.specs.Log.{Opening, Log, Within, block_bytes, delta_entry, growth_back, perhaps_entries, room_kept, still_owed, unghosted}
use Rattle.txn_machine.specs.May.{FitsUnder}
use Rattle.txn_machine.specs.RowChanges.{row_change}
use Rattle.txn_machine.specs.State.{State}
use Rattle.txn_machine.specs.Store.{Store, committed, now, schema_of}
use Rattle.txn_machine.specs.Fresh.{fresh}
use Rattle.txn_machine.specs.Ghosts.{the_views}
use Rattle.txn_machine.specs.ViewLaws.{AreSound}
use Rattle.txn_machine.proofs.Good.{stored_sound}
use Rattle.txn_machine.proofs.Looking.{view_laws}
use Rattle.txn_machine.proofs.Reached.{reached}
use Rattle.txn_machine.proofs.LogRoom.{IsThere}
use Rattle.txn_machine.proofs.LogSteps.{roomy_reached}
use Rattle.txn_machine.proofs.Shapes.{stored_row_law}
use Rattle.txn_book.specs.Opens.{open_at}
use Rattle.txn_book.specs.declared.open_table.Open.{Open as BookOpen}
use Rattle.data_store.specs.Contents.{contents_of}
use Rattle.data_room.specs.Reserved.{Where, share_at, kept_for, first_bytes, AreReserved, IsReserved}
use Rattle.data_room.specs.declared.room.DataRoom.{DataRoom}
use Rattle.data_room.proofs.Kept.{share_least}
use Rattle.data_room.proofs.Transactions.{now_room, first_least, unput_room}
use Rattle.data_room.proofs.Wheres.{where_map, within_fewer}
use Rattle.log_room.specs.Rooms.{IsRoomOf}
use Rattle.log_room.specs.declared.room.LogRoom.{LogRoom}
use Rattle.core_state.specs.Stands.{Began, Holds, Reserves, Texts, its_texts}
use Rattle.core_state.specs.declared.state.CoreState.{CoreState}
use Rattle.core_state.proofs.Data.{data_holds, log_holds, data_within}
use Rattle.core_effects.specs.Owing.{OwesFirst}
use Rattle.core_effects.specs.Underway.{IsUnderway}
use Rattle.core_effects.specs.Undoing.{KeepsPay, KeepsPut, KeepsOne, CanGoBack}
use Rattle.core_effects.proofs.Deltas.{can_store, mine, owed_there}
use Rattle.core_effects.proofs.Done.{still_underway}
use Rattle.core_effects.proofs.Opened.{Has}
use Rattle.core_effects.proofs.Unpaid as pay
use Rattle.core_effects.proofs.Unput as put
use Rattle.core_pays.specs.Keeping.{change_in, latest_bytes}

-- what is kept of the data and reserved in the log alone becomes another
module _ {M : Type 0} (maps : M → ℕ → Map) (spare : M → ℕ → ℕ) (limit : M → Option ℕ) (core : CoreState M) (room : DataRoom) (log : LogRoom) (same : room.limit ≡ core.data_room.limit) where
  pub rooms_hold : (b : Store) (l : Log) (texts : Texts) → Holds maps spare limit core b l texts → Holds maps spare limit (record core { data_room = room; log_room = log }) b l texts
  rooms_hold b l texts h = log_holds maps spare limit (record core { data_room = room }) log b l texts (data_holds maps spare limit core room b l texts same h)

  pub rooms_underway : (s : State) (i : ℕ) → log.limit ≡ core.log_room.limit → IsUnderway maps spare limit s i core → IsUnderway maps spare limit s i (record core { data_room = room; log_room = log })
  rooms_underway s i same_log u =
      still_underway maps spare limit core (record core { data_room = room; log_room = log }) s i u (record { steps = refl; seats = refl; cleaner = refl; stop = refl; limit = same; log_limit = same_log }) u.own (λ j n. refl)

-- where neither does, as much is kept and reserved
pub reserves_as : {M : Type 0} (maps : M → ℕ → Map) (spare : M → ℕ → ℕ) (limit : M → Option ℕ) (core new : CoreState M) (b : Store) (l : Log) (texts : Texts) → new.data_room ≡ core.data_room → new.log_room ≡ core.log_room
    → Reserves maps spare limit core b l → Reserves maps spare limit new b l
reserves_as maps spare limit core new b l texts same same_log r = record {
  data_room = subst (λ (d : DataRoom). IsReserved d (schema_of b) b.open_of l.logged) (sym same) r.data_room;
  log_room = subst (λ (x : LogRoom). IsRoomOf x b l) (sym same_log) r.log_room;
}

-- ---- the first delta

module _ {M : Type 0} (maps : M → ℕ → Map) (spare : M → ℕ → ℕ) (limit : M → Option ℕ) (core : CoreState M) (s : Store) (l : Log) (texts : Texts) (i : ℕ) (h : Holds maps spare limit core s l texts) (o : OwesFirst s i) where
  pub is_open : IsSome (open_at core.book.opens i)
  is_open = subst IsSome (sym (mine maps spare limit core s l texts i h o).there) refl

  pub first_told : (t : BookOpen) → open_at core.book.opens i ≡ Some t → (size : Bool → GroupDelta → ℕ) (bytes : ℕ) → ((d : GroupDelta) (ds : List GroupDelta) → reverse t.owed.items ≡ d ∷ ds → bytes ≡ min (size t.is_ghosted d) (2 ^ 64 - 1))
      → bytes ≡ min (size (l.logged i).ghosted o.first) (2 ^ 64 - 1)
  first_told t there size bytes f =
      let own : Has (schema_of s) (open_at core.book.opens i) (now s i) (l.logged i) = mine maps spare limit core s l texts i h o in
      let one : Some t ≡ Some own.txn = sym there ∙ own.there in
      let same : t ≡ own.txn = cc in
      let ghosted : t.is_ghosted ≡ (l.logged i).ghosted = ap (λ (y : BookOpen). y.is_ghosted) same ∙ own.is.ghosted in
      f o.first o.others (ap (λ (y : BookOpen). reverse y.owed.items) same ∙ owed_there maps spare limit core s l texts i h o) ∙ ap (λ b. min (size b o.first) (2 ^ 64 - 1)) ghosted

-- ---- room

module _ {M : Type 0} (maps : M → ℕ → Map) (spare : M → ℕ → ℕ) (limit : M → Option ℕ) (core : CoreState M) (s : State) (i : ℕ) (u : IsUnderway maps spare limit s i core) (reserves : Reserves maps spare limit core s.store s.log) where
  module _ (b : Store) (l : Log) (h : Holds maps spare limit core b l (its_texts s)) (objects : schema_of b ≡ schema_of s.store) (rows : b.rows ≡ s.store.rows) (view_is : b.view ≡ s.store.view) where
    limited_now : IsLimited (schema_of s.store)
    limited_now = subst IsLimited objects (subst IsLimited h.stored.objects h.rooms.limited)

    pub within_now : IsWithin (limit core.store.tables) (used (maps core.store.tables) + core.data_room.total)
    within_now = subst (λ m. IsWithin m (used (maps core.store.tables) + core.data_room.total)) (sym h.most) (data_within maps spare limit core s u.opening reserves (contents_of b) h.stored h.texts objects rows view_is limited_now)

    -- a row for which there is room where it is absent
    pub can_store_it : (d : GroupDelta) → IsDelta (schema_of s.store) d → (get s.store.view (place_of d) ≡ None → Where core.data_room.limit (delta_entry d ≤ core.data_room.total)) → CanStore (maps core.store.tables) (limit core.store.tables) (place_of d) (width d)
    can_store_it d is room =
        can_store (schema_of s.store) limited_now d is (maps core.store.tables) (limit core.store.tables) s.store.view core.data_room.total (stored_row_law s u.reached)
        (h.stored.views d.view is.of (ap (λ os. numbered os d.view) objects ∙ is.view_is) d.group ∙ ap (λ v. option_map numbers_bytes (get v (place_of d))) view_is)
        within_now (λ e. subst (λ m. Where m (delta_entry d ≤ core.data_room.total)) (sym h.most) (room e))

  -- what a session keeps is part of all that is kept
  module _ (session : IsSession i) where
    of_session : AreReserved core.data_room (schema_of s.store) s.store.open_of s.log.logged → room_kept (schema_of s.store) (s.store.open_of i) (s.log.logged i).ghosted ≤ core.data_room.total
    of_session r =
        let own : share_at core.data_room.shares i ≡ kept_for (schema_of s.store) s.store.open_of s.log.logged i = r.each i session in
        let least : share_at core.data_room.shares i ≤ core.data_room.total = share_least core.data_room (schema_of s.store) s.store.open_of s.log.logged i session r in
        omega (arith, own, least)

    -- a delta whose row is absent had no Ghost
    pub never_ghosted : (t : Open) → s.store.open_of i ≡ Some t → (d : GroupDelta) (ds : List GroupDelta) → t.owed ≡ d ∷ ds → t.back ≡ 0 → get s.store.view (place_of d) ≡ None → (s.log.logged i).ghosted ≡ false
    never_ghosted t has d ds owed back none = no_ghost (s.log.logged i).ghosted refl
      where
        there : IsThere s.store.view (Some t) (s.log.logged i)
        there = subst (λ (o : Option Open). IsThere s.store.view o (s.log.logged i)) has
            ((roomy_reached s u.reached (subst (λ m. Within m (block_bytes + 1)) (sym u.opening.log_is) u.opening.least) u.runs).there i session)

        no_ghost : (ghosted : Bool) → (s.log.logged i).ghosted ≡ ghosted → (s.log.logged i).ghosted ≡ false
        no_ghost false e = e
        no_ghost true e =
            let some : IsSome (get s.store.view (place_of d)) = (there e d ds (λ x. drop (back x) (owed x))).1 in
            absurd (let bad : IsSome {T = List ℤ} None = subst IsSome none some in cc)

    -- the first delta that is owed has room for its row where it is absent
    pub first_fits : (t : Open) → s.store.open_of i ≡ Some t → (d : GroupDelta) (ds : List GroupDelta) → t.owed ≡ d ∷ ds → t.back ≡ 0 → get s.store.view (place_of d) ≡ None → Where core.data_room.limit (delta_entry d ≤ core.data_room.total)
    first_fits t has d ds owed back none = where_map core.data_room.limit (λ (r : AreReserved core.data_room (schema_of s.store) s.store.open_of s.log.logged).
        let all = of_session r in
        let same : room_kept (schema_of s.store) (s.store.open_of i) (s.log.logged i).ghosted ≡ room_kept (schema_of s.store) (Some t) (s.log.logged i).ghosted = ap (λ (o : Option Open). room_kept (schema_of s.store) o (s.log.logged i).ghosted) has in
        let least : first_bytes (s.log.logged i).ghosted d ≤ room_kept (schema_of s.store) (Some t) (s.log.logged i).ghosted = first_least (schema_of s.store) t (s.log.logged i).ghosted d ds owed back in
        let entry : first_bytes (s.log.logged i).ghosted d ≡ delta_entry d = ap (λ b. first_bytes b d) (never_ghosted t has d ds owed back none) in
        let le : delta_entry d ≤ core.data_room.total = omega (arith, all, same, least, entry) in
        le) reserves.data_room

-- ---- the latest step

module _ {M : Type 0} (maps : M → ℕ → Map) (spare : M → ℕ → ℕ) (limit : M → Option ℕ) (core : CoreState M) (s : State) (i : ℕ) (u : IsUnderway maps spare limit s i core) (reserves : Reserves maps spare limit core s.store s.log) (h : Holds maps spare limit core s.store s.log (its_texts s)) where
  pub can_go_back : (o : KeepsOne s.store i) → CanGoBack (maps core.store.tables) (limit core.store.tables) s.store i o
  can_go_back (inl o) =
      can_store_it maps spare limit core s i u reserves s.store s.log h refl refl refl o.latest o.delta (λ none.
      let closed = (h.stored.pays o.latest.view o.delta.of o.delta.view_is o.latest.group).absent
      (h.stored.views o.latest.view o.delta.of o.delta.view_is o.latest.group ∙ ap (option_map numbers_bytes) none) i in
      absurd (let bad : o.latest ∷ _ ≡ [] = sym (pay.paid_last maps spare limit core s.store s.log (its_texts s) i h o).latest ∙ closed in cc))
  can_go_back (inr o) =
      within_fewer (limit core.store.tables) (used (maps core.store.tables) + core.data_room.total) (used (maps core.store.tables) + perhaps_entries (schema_of s.store) o.change.key o.change.before - perhaps_entries (schema_of s.store) o.change.key o.change.after)
      (subst (λ m. Where m (used (maps core.store.tables) + perhaps_entries (schema_of s.store) o.change.key o.change.before - perhaps_entries (schema_of s.store) o.change.key o.change.after ≤ used (maps core.store.tables) + core.data_room.total)) (sym h.most)
      (where_map core.data_room.limit (λ (r : AreReserved core.data_room (schema_of s.store) s.store.open_of s.log.logged).
      let all = of_session maps spare limit core s i u reserves o.is_open.of_session r in
      let held : room_kept (schema_of s.store) (Some (now s.store i)) (s.log.logged i).ghosted ≡ room_kept (schema_of s.store) (s.store.open_of i) (s.log.logged i).ghosted = now_room (schema_of s.store) (s.store.open_of i) (s.log.logged i).ghosted in
      let kept = unput_room (schema_of s.store) (now s.store i) (s.log.logged i).ghosted o.change o.owed o.earlier [] o.kept_is in
      let back : growth_back (schema_of s.store) o.change ≡ perhaps_entries (schema_of s.store) o.change.key o.change.before - perhaps_entries (schema_of s.store) o.change.key o.change.after = refl in
      let le : used (maps core.store.tables) + perhaps_entries (schema_of s.store) o.change.key o.change.before - perhaps_entries (schema_of s.store) o.change.key o.change.after ≤ used (maps core.store.tables) + core.data_room.total = omega (arith, all, held, kept, back) in
      le) reserves.data_room))
      (within_now maps spare limit core s i u reserves s.store s.log h refl refl refl)

-- a row that is there fits the table of its place
pub fits_there : (objects : Schema) (rows : Rows) (key : _) (row : Option Row) → AreSound objects rows → row ≡ get rows key → (t : TableDef) → numbered objects key.0 ≡ Some (table t) → FitsUnder t key.1 row
fits_there objects rows key None sound e t is = tt
fits_there objects rows key (Some row) sound e t is =
    let r : IsRow objects key row = sound.rows key row (sym e) in
    let one : Some (table r.of) ≡ Some (table t) = sym r.table_is ∙ is in
    let same : r.of ≡ t = cc in
    subst (λ (x : TableDef). FitsUnder x key.1 (Some row)) same (r.key, r.fits)

row_fits : (objects : Schema) (n : ℕ) (t : TableDef) (key : List ℕ) (row : Option Row) → numbered objects n ≡ Some (table t) → FitsUnder t key row → IfSome row (FitAll (kinds_of_table (numbered objects n)))
row_fits objects n t key None is fits = tt
row_fits objects n t key (Some row) is fits = subst (λ (o : Option Object). FitAll (kinds_of_table o) row) (sym is) fits.1

module _ {M : Type 0} (maps : M → ℕ → Map) (spare : M → ℕ → ℕ) (limit : M → Option ℕ) (core : CoreState M) (s : State) (i : ℕ) (h : Began maps spare limit core s i) where
  -- the rows of the change that is kept last fit their table
  pub rows_fit_back : (o : KeepsPut s.store i) (change : Change) → row_change change ≡ o.change → RowsFit (defined.schema_of core.store.catalog) change
  rows_fit_back o change same =
      let it = put.last maps spare limit core s.store s.log (its_texts s) i h.holds o in
      let found = put.back_of maps spare limit core s.store s.log (its_texts s) i h.holds o in
      let t : TableDef = found.0.0 in
      let key_is : (it.kept.change.table, it.kept.change.key) ≡ o.change.key = ap (λ (c : RowChange). c.key) it.change in
      let there : numbered (defined.schema_of core.store.catalog) it.kept.change.table ≡ Some (table t) = in_schema core.store.catalog it.kept.change.table t found.0.1 in
      let is_table : numbered (defined.schema_of core.store.catalog) o.change.key.0 ≡ Some (table t) = ap (λ (p : Place). numbered (defined.schema_of core.store.catalog) p.0) (sym key_is) ∙ there in
      let in_store : numbered (schema_of s.store) o.change.key.0 ≡ Some (table t) = ap (λ os. numbered os o.change.key.0) (sym h.holds.stored.objects) ∙ is_table in
      let sound : AreSound (schema_of s.store) s.store.rows = stored_sound the_views fresh view_laws (committed s.store) s.store (reached s h.reached) in
      subst (λ (c : RowChange). (n : ℕ) → n ≡ c.key.0 → IfSome c.before (FitAll (kinds_of_table (numbered (defined.schema_of core.store.catalog) n))) × IfSome c.after (FitAll (kinds_of_table (numbered (defined.schema_of core.store.catalog) n))) → RowsFit (defined.schema_of core.store.catalog) change) same
      (λ n e fits. subst (λ m. IfSome change.before (FitAll (kinds_of_table (numbered (defined.schema_of core.store.catalog) m))) × IfSome change.after (FitAll (kinds_of_table (numbered (defined.schema_of core.store.catalog) m))) → RowsFit (defined.schema_of core.store.catalog) change) (sym e)
      (λ both. record { before = both.0; after = both.1 }) fits)
      o.change.key.0 refl (
        row_fits (defined.schema_of core.store.catalog) o.change.key.0 t o.change.key.1 o.change.before is_table (o.before t in_store),
        row_fits (defined.schema_of core.store.catalog) o.change.key.0 t o.change.key.1 o.change.after is_table (fits_there (schema_of s.store) s.store.rows o.change.key o.change.after sound (sym o.there) t in_store),
      )

  module _ (t : BookOpen) (there : open_at core.book.opens i ≡ Some t) where
    -- what the book has last
    module _ (found : Option Kept) (f : (k : Step) (ks : List Step) → reverse t.kept.items ≡ k ∷ ks → found ≡ change_in k) where
      pub latest_change : (k : Kept) → found ≡ Some k → KeepsOne s.store i → (o : KeepsPut s.store i) × (row_change k.change ≡ o.change)
      latest_change k is (inl o) =
          let it = pay.last maps spare limit core s.store s.log (its_texts s) i h.holds o in
          let none : found ≡ None = f (step.Pay o.latest it.before it.number) it.steps (pay.there_latest maps spare limit core s.store s.log (its_texts s) i h.holds o t there) in
          absurd (let bad : Some k ≡ None = sym is ∙ none in cc)
      latest_change k is (inr o) =
          let it = put.last maps spare limit core s.store s.log (its_texts s) i h.holds o in
          let some : found ≡ Some it.kept = f (step.Put it.kept it.txn_bytes it.history_bytes it.number) it.steps (put.there_latest maps spare limit core s.store s.log (its_texts s) i h.holds o t there) in
          let one : Some k ≡ Some it.kept = sym is ∙ some in
          let same : k ≡ it.kept = cc in
          (o, ap (λ (x : Kept). row_change x.change) same ∙ it.change)

      pub latest_pay : found ≡ None → KeepsOne s.store i → KeepsPay s.store i
      latest_pay is (inl o) = o
      latest_pay is (inr o) =
          let it = put.last maps spare limit core s.store s.log (its_texts s) i h.holds o in
          let some : found ≡ Some it.kept = f (step.Put it.kept it.txn_bytes it.history_bytes it.number) it.steps (put.there_latest maps spare limit core s.store s.log (its_texts s) i h.holds o t there) in
          absurd (let bad : Some it.kept ≡ None = sym some ∙ is in cc)

      pub no_change : found ≡ None → KeepsOne s.store i → latest_bytes (schema_of s.store) (now s.store i) (s.log.logged i).ghosted (now s.store i).kept ≡ 0
      no_change is keeps = ap (latest_bytes (schema_of s.store) (now s.store i) (s.log.logged i).ghosted) (latest_pay is keeps).kept_is

    -- what the book has still to be paid
    pub still_as : KeepsPut s.store i → (size : Bool → List GroupDelta → ℕ) → size t.is_ghosted (drop t.back (reverse t.owed.items)) ≡ size (s.log.logged i).ghosted (still_owed (now s.store i))
    still_as o size =
        let own : Has (schema_of s.store) (open_at core.book.opens i) (now s.store i) (s.log.logged i) = put.mine maps spare limit core s.store s.log (its_texts s) i h.holds o in
        let txn : Some t ≡ Some own.txn = sym there ∙ own.there in
        let here : t ≡ own.txn = cc in
        let ghosted : t.is_ghosted ≡ (s.log.logged i).ghosted = ap (λ (y : BookOpen). y.is_ghosted) here ∙ own.is.ghosted in
        let back : t.back ≡ (now s.store i).back = ap (λ (y : BookOpen). y.back) here ∙ own.is.back in
        let owed : reverse t.owed.items ≡ (now s.store i).owed = ap (λ (y : BookOpen). reverse y.owed.items) here ∙ own.is.owed in
        λ x. size (ghosted x) (drop (back x) (owed x))

    pub latest_told : (o : KeepsPut s.store i) (k : Kept) → row_change k.change ≡ o.change → (one two : ℕ) → one ≡ min (growth_back (defined.schema_of core.store.catalog) (row_change k.change)) (2 ^ 64 - 1)
        → two ≡ min (sum (map delta_entry (unghosted t.is_ghosted (drop t.back (reverse t.owed.items))))) (2 ^ 64 - 1)
        → min (one + two) (2 ^ 64 - 1) ≡ min (latest_bytes (schema_of s.store) (now s.store i) (s.log.logged i).ghosted (now s.store i).kept) (2 ^ 64 - 1)
    latest_told o k same one two one_is two_is =
        let sums : sum (map delta_entry (unghosted t.is_ghosted (drop t.back (reverse t.owed.items)))) ≡ sum (map delta_entry (unghosted (s.log.logged i).ghosted (still_owed (now s.store i)))) = still_as o (λ ghosted owed. sum (map delta_entry (unghosted ghosted owed))) in
        let grows : growth_back (defined.schema_of core.store.catalog) (row_change k.change) ≡ growth_back (schema_of s.store) o.change = λ x. growth_back (h.holds.stored.objects x) (same x) in
        let all : latest_bytes (schema_of s.store) (now s.store i) (s.log.logged i).ghosted (now s.store i).kept ≡ growth_back (schema_of s.store) o.change + sum (map delta_entry (unghosted (s.log.logged i).ghosted (still_owed (now s.store i)))) =
        ap (latest_bytes (schema_of s.store) (now s.store i) (s.log.logged i).ghosted) o.kept_is in
        omega (arith, one_is, two_is, sums, grows, all)
