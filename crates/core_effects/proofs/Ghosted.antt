-- The row of a delta is made, and the delta has had its Ghost.
use Rattle.std.specs.Prelude.{get_or, ◌≡◌, ◌≢◌, ℕ, zero, suc, ◌+◌, ◌≤◌, ℤ, true, List, length, is_some, Option, None, Some, refl}
use Rattle.std.specs.Option.{unwrap_or, option_map}
use Rattle.std.specs.FinMap.{get}
use mathlib.Core.Path.{sym, ap, subst, ◌∙◌}
use Rattle.std.proofs.Common.{arith}
use Rattle.iv_types.specs.Maps.{Map}
use Rattle.iv_meaning.specs.Objects as defined
use Rattle.iv_meaning.specs.Schema.{view, numbered}
use Rattle.table_laws.proofs.Stored.{by_session}
use Rattle.ghost_rows.specs.Numbers.{numbers_bytes}
use Rattle.ghost_rows.specs.State.{State as ViewState, HasSeat, room_of}
use Rattle.lock_desk.specs.PayWants.{wants_at}
use Rattle.txn_machine.specs.Acts.{Act}
use Rattle.txn_machine.specs.Counts.{definition_sizes}
use Rattle.txn_machine.specs.Deltas.{place_of, columns_of}
use Rattle.txn_machine.specs.Ghosts.{the_views}
use Rattle.txn_machine.specs.Locks.{with_one}
use Rattle.txn_machine.specs.Log.{Log, logs}
use Rattle.txn_machine.specs.May.{IsOpen}
use Rattle.txn_machine.specs.Steps.{with_ghost}
use Rattle.txn_machine.specs.Store.{Store, now, schema_of, committed, does, Ghosts}
use Rattle.txn_machine.proofs.Basics.{one_same, one_other}
use Rattle.txn_machine.proofs.LogRoom.{logs_logged}
use Rattle.txn_book.specs.Books.{Books, IsBook, Changes}
use Rattle.txn_book.specs.Opens.{open_at}
use Rattle.txn_book.specs.Txns.{txn_of, with_ghost as ghosting}
use Rattle.txn_book.specs.Holding as book
use Rattle.txn_book.specs.declared.open_table.Open.{Open as BookOpen}
use Rattle.txn_book.proofs.Holding.{changed_holds, ghosted_is}
use Rattle.data_store.specs.Contents.{contents_of}
use Rattle.data_store.proofs.Told.{untold_held}
use Rattle.data_store.specs.Held.{IsHeld}
use Rattle.data_changes.specs.Ghosts.{HasAbsent}
use Rattle.data_past.proofs.Aheads.{ahead_ghosts}
use Rattle.data_past.proofs.Effects.{past_ghosts}
use Rattle.core_state.specs.Rooms.{HasRooms, CanBeTakenBack, gone_if, all_gone}
use Rattle.txn_book.proofs.Booking.{has_place}
use Rattle.data_changes.specs.Effects.{with_ghost as with_ghost_row}
use Rattle.iv_types.specs.Definitions.{AreNumbered}
use Rattle.core_effects.proofs.Gone.{view_all_gone}
use Rattle.core_state.specs.Stands.{Holds, told, Texts, all_texts}
use Rattle.definition_parts.proofs.Staying.{texts_now}
use Rattle.core_state.proofs.Texts.{told_stored}
use Rattle.core_state.specs.declared.state.CoreState.{CoreState}
use Rattle.core_state.proofs.Rooms.{rooms_changed, elsewhere_same, covered_alike}
use Rattle.core_effects.specs.Owing.{OwesFirst}
use Rattle.core_effects.proofs.Opened.{Has, own}

module _ {M : Type 0} (maps : M → ℕ → Map) (spare : M → ℕ → ℕ) (limit : M → Option ℕ) (core : CoreState M) (s : Store) (l : Log) (texts : Texts) (i : ℕ) (h : Holds maps spare limit core s l texts) where
  -- the stored row, or none
  pub row_there : (o : OwesFirst s i) → is_some (get (maps core.store.tables o.first.view) o.first.group) ≡ is_some (get s.view (place_of o.first))
  row_there o = ap is_some (h.stored.views o.first.view o.delta.of o.delta.view_is o.first.group) ∙ same_some (get s.view (place_of o.first))
    where
      same_some : (x : Option (List ℤ)) → is_some (option_map numbers_bytes x) ≡ is_some x
      same_some None = refl
      same_some (Some ns) = refl

  pub has_absent : (o : OwesFirst s i) (sums : ℕ) → sums ≡ length o.first.sums → get s.view (place_of o.first) ≡ None → HasAbsent core.store.catalog (maps core.store.tables) core.store.views (place_of o.first) sums (told s texts)
  has_absent o sums same none = record { held = told_stored maps spare limit core s l texts h; of = o.delta.of; is = o.delta.view_is; many = sym o.delta.sums ∙ sym same; absent = none }

  -- the delta has had its Ghost
  pub marked_holds : (o : IsOpen s i) (after : Books) → IsBook core.book → ((t : BookOpen) → open_at core.book.opens i ≡ Some t → Changes core.book after i (ghosting (txn_of t))) → Holds maps spare limit (record core { book = after }) s (with_ghost l i) texts
  marked_holds o after good changed =
      let mine : Has (schema_of s) (open_at core.book.opens i) (now s i) (l.logged i) = own maps spare limit core s l texts i h o in
      let changes : Changes core.book after i (ghosting (txn_of mine.txn)) = changed mine.txn mine.there in
      record {
        stored = h.stored;
        book = changed_holds core.book (schema_of s) s.open_of l.logged s.history (committed s).number (definition_sizes texts.since) h.book good i o.of_session after s.open_of (with_one l.logged i (record (l.logged i) { ghosted = true }))
            (λ j n. (refl, one_other l.logged i (record (l.logged i) { ghosted = true }) j n)) (ghosting (txn_of mine.txn)) o.transaction changes o.is_open
            (subst (book.IsTxn (schema_of s) (ghosting (txn_of mine.txn)) o.transaction) (sym (one_same l.logged i (record (l.logged i) { ghosted = true }) i refl))
            (subst (λ t. book.IsTxn (schema_of s) (ghosting (txn_of mine.txn)) t (record (l.logged i) { ghosted = true })) (ap (λ x. unwrap_or x Rattle.txn_machine.specs.Keeping.idle) o.is_open)
            (ghosted_is (schema_of s) (txn_of mine.txn) (now s i) (l.logged i) mine.is)));
        locks = h.locks;
        begun = h.begun;
        next = h.next;
        texts = h.texts;
        row_mark = h.row_mark;
        delta_mark = h.delta_mark;
        most = h.most;
        past = h.past;
        ahead = h.ahead;
        rooms = rooms_changed (spare core.store.tables) (spare core.store.tables) core.store.catalog core.store.views core.store.views core.book after core.locks core.locks core.wants core.wants i
            (ghosting (txn_of mine.txn)) good o.of_session h.rooms changes (λ n. let same : gone_if n (open_at core.book.opens i) ≡ gone_if n (Some mine.txn) = ap (gone_if n) mine.there in omega (arith, same)) (elsewhere_same i core.store.views core.locks core.wants)
            (covered_alike core.store.catalog core.store.views core.locks (wants_at core.wants i) i (txn_of mine.txn) (ghosting (txn_of mine.txn)) refl refl refl (h.rooms.each i o.of_session mine.txn mine.there).small (h.rooms.each i o.of_session mine.txn mine.there));
      }

-- ---- the row is made, or there was no memory for it

module _ {M : Type 0} (maps : M → ℕ → Map) (spare : M → ℕ → ℕ) (limit : M → Option ℕ) (core : CoreState M) (s : Store) (l : Log) (texts : Texts) (i : ℕ) (h : Holds maps spare limit core s l texts) (o : OwesFirst s i)
    (tables : M) (views : ViewState) (same_limit : limit tables ≡ limit core.store.tables) (rows : views.rows ≡ core.store.views.rows) (rooms : views.rooms ≡ core.store.views.rooms)
    (spares : spare core.store.tables o.first.view ≤ spare tables o.first.view + 1) (other_spares : (n : ℕ) → n ≢ o.first.view → spare core.store.tables n ≤ spare tables n) (are : AreNumbered core.store.catalog) (good : IsBook core.book) where
  rooms_made : HasRooms (spare tables) core.store.catalog views core.book.opens core.locks core.wants
  rooms_made = record {
    limited = h.rooms.limited;
    undo = λ n. by_session n o.first.view
        (λ e. let none : all_gone n core.book.opens ≡ 0 = view_all_gone core.store.catalog are o.delta.of n (subst (λ k. numbered (defined.schema_of core.store.catalog) k ≡ Some (view o.delta.of)) (sym e) (subst (λ os. numbered os o.first.view ≡ Some (view o.delta.of)) (sym h.stored.objects) o.delta.view_is)) core.book.opens each_back in omega (arith, none))
        (λ differ. let had = h.rooms.undo n in let more = other_spares n differ in omega (arith, had, more));
    each = λ j js t there. let c = h.rooms.each j js t there in record {
      wanted = c.wanted;
      buffers = let same : room_of views j ≡ room_of core.store.views j = ap (λ rs. get_or rs j 0) rooms in omega (arith, c.buffers, same);
      seats = λ d has. subst (λ rs. HasSeat (record views { rows = rs }) (place_of d) j) (sym rows) (c.seats d has);
      kept = c.kept;
      small = c.small;
    };
  }
    where
      each_back : (j : ℕ) (t : BookOpen) → open_at core.book.opens j ≡ Some t → CanBeTakenBack core.store.catalog (txn_of t).kept
      each_back zero t there = let bad : None ≡ Some t = sym h.book.nobody ∙ there in absurd cc
      each_back (suc k) t there = let lt = has_place core.book.opens (suc k) t there in (h.rooms.each (suc k) (omega arith, omega (arith, lt, good.places)) t there).kept

  pub unmade_holds : IsHeld core.store.catalog (maps tables) views (told s texts) → Holds maps spare limit (record core { store = record core.store { tables = tables; views = views } }) s l texts
  unmade_holds stored = record { stored = untold_held core.store.catalog (maps tables) views (told s texts) stored; texts = texts_now (maps core.store.tables 0) (maps tables 0) core.store.catalog (all_texts texts) h.texts stored.texts; book = h.book; locks = h.locks; begun = h.begun; next = h.next; row_mark = h.row_mark; delta_mark = h.delta_mark; past = h.past; ahead = h.ahead; rooms = rooms_made; most = same_limit ∙ h.most }

  as_logged : (j : ℕ) → with_one l.logged i (l.logged i) j ≡ l.logged j
  as_logged j = by_session j i (λ e. one_same l.logged i (l.logged i) j e ∙ ap l.logged (sym e)) (λ n. one_other l.logged i (l.logged i) j n)

  pub made_holds : (a : Act) → IsHeld core.store.catalog (maps tables) views (with_ghost_row (told s texts) (place_of o.first) (suc (length o.first.sums)))
      → Holds maps spare limit (record core { store = record core.store { tables = tables; views = views }; next = core.next + 1 }) (does the_views s i (Ghosts (place_of o.first) (length (columns_of o.first)))) (logs s i a (Ghosts (place_of o.first) (length (columns_of o.first))) l) texts
  made_holds a stored = record {
    stored = untold_held core.store.catalog (maps tables) views (with_ghost_row (told s texts) (place_of o.first) (suc (length o.first.sums))) stored;
    book = subst (λ f. book.Holds core.book (schema_of s) s.open_of f s.history (committed s).number (definition_sizes texts.since)) (sym (logs_logged s i a (Ghosts (place_of o.first) (length (columns_of o.first))) l ∙ (λ x j. as_logged j x))) h.book;
    locks = h.locks;
    begun = h.begun;
    next = ap (λ n. n + 1) h.next;
    texts = texts_now (maps core.store.tables 0) (maps tables 0) core.store.catalog (all_texts texts) h.texts stored.texts;
    row_mark = h.row_mark;
    delta_mark = h.delta_mark;
    most = same_limit ∙ h.most;
    past = past_ghosts core.store.row_versions.versions core.store.delta_versions.versions core.store.pending.entries s h.past i (place_of o.first) (length (columns_of o.first));
    ahead = ahead_ghosts core.ahead core.store.row_versions.room core.store.delta_versions.room s h.ahead i (place_of o.first) (length (columns_of o.first));
    rooms = rooms_made;
  }
