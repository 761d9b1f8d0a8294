-- A definition is entered.
use Rattle.std.specs.Prelude.{◌≡◌, ℕ, suc, ◌+◌, ◌≤◌, List, [], ◌∷◌, ◌++◌, map, length, slice_get, Option, None, Some}
use Rattle.std.specs.List.{sum}
use Rattle.std.specs.Option.{option_and_then}
use mathlib.Core.Path.{refl, sym, ap, subst, ◌∙◌}
use mathlib.Core.Logic.{inl, inr}
use Rattle.std.proofs.Common.{arith, append_assoc}
use Rattle.iv_types.specs.Maps.{Map}
use Rattle.iv_types.specs.Syntax.{StatementTree}
use Rattle.iv_types.specs.Printing.{statement_text}
use Rattle.iv_types.specs.declared.catalog.Definition.{Definition}
use Rattle.iv_types.specs.declared.lock.Change.{Change}
use Rattle.iv_types.specs.declared.lock.IndexEntry.{IndexEntry}
use Rattle.iv_meaning.specs.Schema.{Schema, Object}
use Rattle.iv_meaning.specs.Objects.{object_of}
use Rattle.iv_meaning.specs.Database.{Database}
use Rattle.iv_meaning.specs.Escrow.{IsSession}
use Rattle.iv_meaning.specs.Statement.{defines}
use Rattle.query_laws.specs.Limited.{IsLimited}
use Rattle.txn_machine.specs.Acts as act
use Rattle.txn_machine.specs.Answers as answer
use Rattle.txn_machine.specs.Counts.{entry_size, definition_size, definition_sizes, most_of_history, size_of_entry}
use Rattle.txn_machine.specs.Fresh.{fresh, made_of}
use Rattle.txn_machine.specs.Ghosts.{the_views}
use Rattle.txn_machine.specs.Keeping.{Open}
use Rattle.txn_machine.specs.Log.{Logged, logs}
use Rattle.txn_machine.specs.State.{State}
use Rattle.txn_machine.specs.Steps.{DefinesIt, history_bytes, texts_of}
use Rattle.txn_machine.specs.Store.{Store, committed, schema_of, locks_of, Defines, does}
use Rattle.txn_machine.specs.Stored.{add_all}
use Rattle.txn_machine.proofs.Looking.{view_laws}
use Rattle.txn_machine.proofs.LogSums.{sizes_more}
use Rattle.txn_machine.proofs.Runs.{defined}
use Rattle.txn_machine.proofs.Sizes.{sizes_law}
use Rattle.txn_machine.proofs.Seats.{session_or, nobody_open}
use Rattle.txn_machine.specs.Acts.{Act}
use Rattle.iv_meaning.specs.History.{Entry}
use Rattle.std.proofs.lemmas.Bool.{cases_lt}
use Rattle.txn_book.specs.Books.{IsBook, Defined, number_of}
use Rattle.txn_book.specs.Holding as book
use Rattle.txn_book.specs.Opens.{open_at}
use Rattle.txn_book.specs.declared.open_table.Open.{Open as BookOpen}
use Rattle.txn_book.proofs.Entering.{defined_holds}
use Rattle.txn_book.proofs.Totals.{sum_with}
use Rattle.data_store.specs.Contents.{contents_of}
use Rattle.data_store.specs.Held.{IsHeld}
use Rattle.data_defining.specs.Defining.{with_object, AreFirst, CanDefine}
use Rattle.lock_manager.specs.Table as table
use Rattle.lock_desk.specs.Asking.{HasLocks}
use Rattle.data_room.specs.Reserved.{IsReserved}
use Rattle.data_room.specs.declared.room.DataRoom.{DataRoom}
use Rattle.definition_parts.specs.Parts.{HasTexts}
use Rattle.core_state.specs.Stands.{Began, Told, Counts, IsOpening}
use Rattle.core_state.proofs.Rooms.{no_rooms}
use Rattle.core_state.proofs.Sessions.{contents_as}
use Rattle.data_past.specs.Ahead.{IsAhead}
use Rattle.data_past.proofs.Aheads.{ahead_defines}
use Rattle.data_past.proofs.Laws.{leaves_law}
use Rattle.data_store.specs.Machine.{IsPast}
use Rattle.data_store.specs.declared.store.DataStore.{DataStore}
use Rattle.core_state.specs.declared.state.CoreState.{CoreState}
use Rattle.log_room.specs.Rooms.{IsRoomOf}
use Rattle.core_schema.specs.Making.{MayEnter, IsTextOf}
use Rattle.iv_types.specs.Definitions.{CanAdd}
use Rattle.data_defining.proofs.Adding.{can_add}
use Rattle.data_defining.proofs.Defined.{number_is}
use Rattle.data_defining.proofs.Names.{name_is_free}
use Rattle.core_schema.proofs.Made.{accepted, can_define}
use Rattle.core_schema.proofs.Needs.{defined_reserved}

none_there : (objects : Schema) (a : Option BookOpen) (o : Option Open) (l : Logged) → book.IsSame objects a o l → o ≡ None → a ≡ None
none_there objects None o l h e = refl
none_there objects (Some t) None l h e = absurd h
none_there objects (Some t) (Some o) l h e = absurd (cc)

-- a list has nothing behind its end
past_end : {X : Type 0} (xs : List X) (i : ℕ) → length xs ≤ i → slice_get xs i ≡ None
past_end [] i le = refl
past_end (x ∷ xs) ℕ.zero le = absurd (omega (arith, le))
past_end (x ∷ xs) (suc i) le = past_end xs i (omega (arith, le))

module _ {M : Type 0} (maps : M → ℕ → Map) (spare : M → ℕ → ℕ) (limit : M → Option ℕ) (s : State) (i : ℕ) (statement : StatementTree) (d : Definition) (first : List IndexEntry) (text : List ℕ) (need : ℕ) where
  -- only room was made
  pub still_may : (core new : CoreState M) → MayEnter maps spare limit s core i statement d first text need → Began maps spare limit new s i → new.store.catalog ≡ core.store.catalog → ((k : ℕ) → maps new.store.tables k ≡ maps core.store.tables k)
      → MayEnter maps spare limit s new i statement d first text need
  still_may core new m began catalog same = record {
    may = record { began = began; may = m.may.may; none = m.may.none; makes = m.may.makes };
    first_are = subst (λ ds. AreFirst ds (maps new.store.tables) (contents_of s.store) d first) (sym catalog)
        (let P : (ℕ → Map) → Type 0 = λ ms. AreFirst core.store.catalog ms (contents_of s.store) d first in subst P (λ x k. sym (same k) x) m.first_are);
    text_is = m.text_is;
    log_room = m.log_room;
    data_room = m.data_room;
    data_small = m.data_small;
    need_is = m.need_is;
    room = m.room;
  }

  -- it is defined under the number of the next commit
  pub defines_it : (core : CoreState M) → MayEnter maps spare limit s core i statement d first text need → (number : ℕ) → number ≡ (committed s.store).number + 1 → DefinesIt s statement number (Defines (object_of d) ∷ [])
  defines_it core m number number_is = record {
    object = object_of d;
    makes = m.may.makes;
    none_open = m.may.none;
    accepted = (0, defines (object_of d) ∷ [], accepted maps spare limit core s i statement d m.may first m.first_are);
    log_room = m.log_room;
    data_room = m.data_room;
    room = subst (λ n. history_bytes s + n ≤ most_of_history) m.need_is m.room;
    number_is = number_is;
    effects = refl;
  }

  module _ (core : CoreState M) (m : MayEnter maps spare limit s core i statement d first text need) (good : IsBook core.book) where
    abbrev o : Object
    o = object_of d

    abbrev h : Began maps spare limit core s i
    h = m.may.began

    abbrev u : Store
    u = does the_views s.store i (Defines o)

    abbrev a : Act
    a = act.Schema statement

    pub can : CanDefine core.store.catalog (maps core.store.tables) core.store.views d first (contents_of s.store)
    can = can_define maps spare limit core s i statement d m.may first m.first_are

    -- it can be added to the catalog
    pub adds : CanAdd core.store.catalog d
    adds = can_add core.store.catalog (schema_of s.store) d h.holds.stored.objects (number_is core.store.catalog (maps core.store.tables) core.store.views d first (contents_of s.store) can)
        (name_is_free (schema_of s.store) statement o m.may.may.2 m.may.makes.bound) can.evaluated.limited

    now_committed : committed u ≡ record (committed s.store) { number = (committed s.store).number + 1; schema = schema_of s.store ++ o ∷ [] }
    now_committed = defined the_views fresh view_laws s.store i o

    objects_are : schema_of u ≡ schema_of s.store ++ o ∷ []
    objects_are = ap (λ (db : Database). db.schema) now_committed

    greatest_is : (committed u).number ≡ (committed s.store).number + 1
    greatest_is = ap (λ (db : Database). db.number) now_committed

    nobody : (j : ℕ) → open_at core.book.opens j ≡ None
    nobody j = elim (session_or j) [
      | inl js ↦ none_there (schema_of s.store) (open_at core.book.opens j) (s.store.open_of j) (s.log.logged j) (h.holds.book.txns j js) (m.may.none j js)
      | inr other ↦ elsewhere j other
    ]
      where
        elsewhere : (j : ℕ) → (IsSession j → ⊥) → open_at core.book.opens j ≡ None
        elsewhere ℕ.zero n = h.holds.book.nobody
        elsewhere (suc j) n = ap (option_and_then (λ x. x)) (past_end core.book.opens (suc j) (elim (cases_lt (suc j) 65) [
          | inl few ↦ absurd (n (omega arith, omega (arith, few)))
          | inr many ↦ let places = good.places in omega (arith, many, places)
        ]))

    -- the contents then
    contents_are : with_object (contents_of s.store) o ≡ contents_of u
    contents_are = contents_as (with_object (contents_of s.store) o) (contents_of u) (sym objects_are) refl (ap (λ os. add_all s.store.view (made_of os s.store.rows o)) (sym objects_are)) (λ j. refl)

    -- the entries count the same
    sizes_are : sum (map (size_of_entry (schema_of u)) u.history) ≡ sum (map (size_of_entry (schema_of s.store)) u.history)
    sizes_are =
        let e : Entry = record { number = (committed s.store).number + 1; session = i; kept = defines o ∷ [] } in
        let one = sum_with (size_of_entry (schema_of u)) s.store.history e in
        let other = sum_with (size_of_entry (schema_of s.store)) s.store.history e in
        let same : sum (map (size_of_entry (schema_of u)) s.store.history) ≡ sum (map (size_of_entry (schema_of s.store)) s.store.history) =
        ap (λ os. sum (map (size_of_entry os) s.store.history)) objects_are ∙ ap sum (sizes_law s h.reached o).0 in
        let alone : size_of_entry (schema_of u) e ≡ size_of_entry (schema_of s.store) e = refl in
        omega (arith, one, other, same, alone)

    module _ (new : CoreState M) (change : Change) (is_text : IsTextOf text change) (did : Defined core.book new.book i (change ∷ []) need)
        (stored : IsHeld new.store.catalog (maps new.store.tables) new.store.views (with_object (contents_of s.store) o)) (texts : HasTexts (maps new.store.tables 0) new.store.catalog ((texts_of s) ++ statement_text statement ∷ []))
        (limits : limit new.store.tables ≡ limit core.store.tables)
        (rest : new ≡ record core { store = record core.store { catalog = new.store.catalog; tables = new.store.tables; views = new.store.views }; book = new.book; log_room = new.log_room; next = core.next + 1 })
        (log_limit : new.log_room.limit ≡ core.log_room.limit) (log_then : IsRoomOf new.log_room u (logs s.store i a (Defines o) s.log)) where
      book_then : book.Holds new.book (schema_of u) u.open_of (logs s.store i a (Defines o) s.log).logged u.history (committed u).number (definition_sizes (s.definitions ++ statement_text statement ∷ []))
      book_then =
          let size : need ≡ entry_size + definition_size statement = m.need_is in
          let b = defined_holds core.book (schema_of s.store) s.store.open_of s.log.logged s.store.history (committed s.store).number (definition_sizes s.definitions) h.holds.book i new.book change o (definition_size statement) is_text.table
          (subst (Defined core.book new.book i (change ∷ [])) size did) in
          let more = sizes_more s.definitions (statement_text statement) in
          let same = sizes_are in
          let bytes = b.bytes in
          record {
            number = b.number ∙ sym greatest_is;
            nobody = b.nobody;
            txns = λ j js. subst (λ x. book.IsSame (schema_of u) x (s.store.open_of j) ((logs s.store i a (Defines o) s.log).logged j)) (sym (ap (λ os. open_at os j) did.opens ∙ nobody j))
                (subst (λ x. book.IsSame (schema_of u) None x ((logs s.store i a (Defines o) s.log).logged j)) (sym (m.may.none j js)) tt);
            entries = b.entries;
            bytes = omega (arith, bytes, more, same);
          }

      room_is : new.data_room ≡ core.data_room
      room_is = ap (λ (x : CoreState M). x.data_room) rest

      counts_then : Counts maps spare limit new s
      counts_then = subst (λ (x : CoreState M). Counts maps spare limit x s) (sym rest)
          (record { steps = h.counts.steps; seats = h.counts.seats; few = h.counts.few; cleaner = h.counts.cleaner; removed = h.counts.removed; running = h.counts.running; begun = h.counts.begun; next = h.counts.next; stop = h.counts.stop })

      pub entered_told : (number : ℕ) → number ≡ number_of core.book + 1 → Told maps spare limit s i a (answer.Committed number) new
      entered_told number number_is = record {
        reached = h.reached;
        opening = subst (λ x. IsOpening new.log_room.limit x s) (sym (ap (λ (x : DataRoom). x.limit) room_is)) (subst (λ x. IsOpening x core.data_room.limit s) (sym log_limit) h.opening);
        runs = h.runs;
        effects = Defines o ∷ [];
        says = defines_it core m number (number_is ∙ ap (λ n. n + 1) h.holds.book.number);
        holds = record {
          stored = subst (IsHeld new.store.catalog (maps new.store.tables) new.store.views) contents_are stored;
          book = book_then;
          locks = λ j js. subst (λ ls. HasLocks (table.locks_of ls j) (locks_of s.store j)) (sym (ap (λ (x : CoreState M). x.locks) rest)) (h.holds.locks j js);
          begun = ap (λ (x : CoreState M). x.begun) rest ∙ h.holds.begun;
          next = ap (λ (x : CoreState M). x.next) rest ∙ ap (λ n. n + 1) h.holds.next;
          texts = subst (HasTexts (maps new.store.tables 0) new.store.catalog) (append_assoc s.opening.definitions s.definitions (statement_text statement ∷ [])) texts;
          row_mark = ap (λ (x : CoreState M). x.store.row_versions.pruned) rest ∙ h.holds.row_mark;
          delta_mark = ap (λ (x : CoreState M). x.store.delta_versions.pruned) rest ∙ h.holds.delta_mark;
          most = limits ∙ (h.holds.most ∙ sym (ap (λ (x : DataRoom). x.limit) room_is));
          past = subst (λ (st : DataStore M). IsPast st.row_versions.versions st.delta_versions.versions st.pending.entries u) (sym (ap (λ (x : CoreState M). x.store) rest))
              (leaves_law s h.reached core.store.row_versions.versions core.store.delta_versions.versions core.store.pending.entries h.holds.past i (Defines o) m.may.none);
          ahead = subst (λ (x : CoreState M). IsAhead x.ahead x.store.row_versions.room x.store.delta_versions.room u) (sym rest)
              (ahead_defines core.ahead core.store.row_versions.room core.store.delta_versions.room s.store h.holds.ahead i o
              (λ j. elim (session_or j) [ inl js ↦ m.may.none j js | inr n ↦ nobody_open s h.reached j n ]));
          rooms = no_rooms (spare new.store.tables) new.store.catalog new.store.views new.book.opens new.locks new.wants (subst IsLimited (sym stored.objects) can.evaluated.limited) (λ j. ap (λ os. open_at os j) did.opens ∙ nobody j);
        };
        reserves = record {
          data_room = subst (λ x. IsReserved x (schema_of u) u.open_of (logs s.store i a (Defines o) s.log).logged) (sym room_is) (defined_reserved maps spare limit core s i statement d m.may first m.first_are (schema_of u) (logs s.store i a (Defines o) s.log).logged);
          log_room = log_then;
        };
        own = λ sessions e. absurd (cc);
        none = λ _ js. subst (λ ls. table.waiting_of ls i ≡ []) (sym (ap (λ (x : CoreState M). x.locks) rest)) (h.own js);
        waiting = λ j js n. subst (λ ls. table.waiting_of ls j ≡ s.waiting j) (sym (ap (λ (x : CoreState M). x.locks) rest)) (h.waiting j js n);
        counts = counts_then;
        no_fault = refl;
        begins_one = omega arith;
        appends_one = omega arith;
      }
