-- A session has paid the first delta that it owes.
use Rattle.std.specs.Prelude.{◌≡◌, ◌≢◌, ◌⊎◌, ◌↔◌, ℕ, suc, ◌+◌, ◌*◌, ◌≤◌, ◌<◌, ℤ, cond, true, false, List, [], ◌∷◌, ◌++◌, map, drop, length, Option, None, Some, Result, Ok, Err, IfErr, OnOk, OnErr, refl}
use Rattle.std.specs.Option.{unwrap_or}
use Rattle.std.specs.List.{Contains}
use Rattle.std.specs.FinMap.{get}
use mathlib.Core.Path.{sym, ap, subst, ◌∙◌}
use mathlib.Core.Logic.{inl, inr}
use Rattle.std.proofs.Common.{arith}
use Rattle.std.proofs.lemmas.List.Elements.{Contains-append_left, Contains-append_right, Contains-append_cases}
use Rattle.iv_types.specs.Maps.{Map}
use Rattle.iv_types.specs.declared.lock.GroupDelta.{GroupDelta}
use Rattle.iv_types.specs.declared.lock.Prefix.{Prefix}
use Rattle.iv_types.specs.declared.lock.Want.{Want}
use Rattle.iv_meaning.specs.Escrow.{IsSession}
use Rattle.table_laws.specs.Place.{Place}
use Rattle.ghost_rows.specs.Kept.{width, ArePrefixes}
use Rattle.ghost_rows.specs.State.{State as ViewState, HasSeat, MovesRoom, room_of}
use Rattle.lock_desk.specs.Asking.{HasLocks}
use Rattle.lock_desk.specs.PayWants.{wants_at}
use Rattle.lock_manager.specs.Table as table
use Rattle.txn_machine.specs.Acts.{Act}
use Rattle.txn_machine.specs.Counts.{definition_sizes}
use Rattle.txn_machine.specs.Deltas.{place_of}
use Rattle.txn_machine.specs.Ghosts.{the_views}
use Rattle.txn_machine.specs.Keeping.{Pay, Open}
use Rattle.txn_machine.specs.Locks.{with_one}
use Rattle.txn_machine.specs.Log.{Log, logs, keeps, appended, pay_record, with_logged}
use Rattle.txn_machine.specs.Records.{Delta}
use Rattle.txn_machine.specs.Steps.{group_want}
use Rattle.txn_machine.specs.Store.{Store, now, schema_of, committed, does, Pays, paid_first}
use Rattle.txn_machine.specs.Stored.{add_to}
use Rattle.txn_machine.proofs.Basics.{one_same, one_other}
use Rattle.txn_book.specs.Books.{Books, IsBook, Changes}
use Rattle.txn_book.specs.Opens.{open_at}
use Rattle.txn_book.specs.Txns.{Txn, txn_of, with_pay as paying}
use Rattle.txn_book.specs.Holding as book
use Rattle.txn_book.proofs.Holding.{changed_holds, paid_is}
use Rattle.data_store.specs.Contents.{contents_of, pays_on}
use Rattle.data_store.proofs.Told.{untold_held}
use Rattle.data_store.specs.Held.{IsHeld}
use Rattle.data_store.specs.Machine.{IsPast}
use Rattle.data_changes.specs.Effects.{with_pay}
use Rattle.data_past.specs.Ahead.{IsAhead}
use Rattle.data_past.proofs.Aheads.{ahead_pays}
use Rattle.data_past.proofs.Effects.{past_pays}
use Rattle.core_state.specs.Rooms.{IsWanted, AreWanted, IsCovered, HasRooms, gone_if, still_owed, paid, paid_on}
use Rattle.core_state.specs.Stands.{Holds, told, Texts, all_texts}
use Rattle.definition_parts.proofs.Staying.{texts_now, same_texts}
use Rattle.core_state.specs.declared.state.CoreState.{CoreState}
use Rattle.core_state.proofs.Rooms.{rooms_changed}
use Rattle.core_state.proofs.Sessions.{contents_as, kept_of, locks_same}
use Rattle.core_effects.specs.Owing.{OwesFirst}
use Rattle.core_effects.proofs.Deltas.{mine, covered, still_there, paid_as}

-- the wants of the others are there
wanted_next : (room : ℕ) (locks waiting : List Want) (wants back : List (List Want)) (d : GroupDelta) (ds : List GroupDelta) → AreWanted room locks waiting wants (d ∷ ds)
    → ((w : List Want) (ws : List (List Want)) → wants ≡ w ∷ ws → back ≡ ws) → AreWanted room locks waiting back ds
wanted_next room locks waiting [] back d ds h next = absurd h
wanted_next room locks waiting (w ∷ ws) back d [] h next = tt
wanted_next room locks waiting (w ∷ ws) back d (e ∷ es) h next =
    let same : back ≡ (group_want e ∷ []) ∷ map (λ x. group_want x ∷ []) es = next w ws refl ∙ h.1 in
    subst (λ b. AreWanted room locks waiting b (e ∷ es)) (sym same) (inl (refl, more h.0), refl)
  where
    more : IsWanted room locks waiting w d (length (e ∷ es)) → length es + 1 ≤ room
    more (inl full) = omega (arith, full.1)
    more (inr (inl held)) = omega (arith, held.3)
    more (inr (inr waits)) = omega (arith, waits.2)

moved_in : (d x : GroupDelta) (ds ps : List GroupDelta) → Contains (ds ++ d ∷ ps) x → Contains ((d ∷ ds) ++ ps) x
moved_in d x ds ps c = elim (Contains-append_cases ds (d ∷ ps) x c) [
  | inl a ↦ Contains-append_left (d ∷ ds) ps x (Contains-append_right (d ∷ []) ds x a)
  | inr b ↦ elim (Contains-append_cases (d ∷ []) ps x b) [
    | inl a ↦ Contains-append_left (d ∷ ds) ps x (Contains-append_left (d ∷ []) ds x a)
    | inr a ↦ Contains-append_right (d ∷ ds) ps x a
  ]
]

module _ {M : Type 0} (maps : M → ℕ → Map) (spare : M → ℕ → ℕ) (limit : M → Option ℕ) (core : CoreState M) (s : Store) (l : Log) (texts : Texts) (i : ℕ) (h : Holds maps spare limit core s l texts)
    (tables : M) (views : ViewState) (same_limit : limit tables ≡ limit core.store.tables) (seats : (j : ℕ) (place : Place) → HasSeat core.store.views place j → HasSeat views place j) where
  -- a refused pay leaves all as it was
  pub unpaid_holds : tables ≡ core.store.tables → views.rooms ≡ core.store.views.rooms → IsHeld core.store.catalog (maps tables) views (told s texts) → IsSession i
      → Holds maps spare limit (record core { store = record core.store { tables = tables; views = views } }) s l texts
  unpaid_holds same rooms stored is = record {
    stored = untold_held core.store.catalog (maps tables) views (told s texts) stored;
    book = h.book;
    locks = h.locks;
    begun = h.begun;
    next = h.next;
    texts = same_texts (maps core.store.tables 0) (maps tables 0) core.store.catalog (all_texts texts) h.texts (ap (λ t. maps t 0) same);
    row_mark = h.row_mark;
    delta_mark = h.delta_mark;
    most = same_limit ∙ h.most;
    past = h.past;
    ahead = h.ahead;
    rooms = record {
      limited = h.rooms.limited;
      undo = λ index. subst (λ t. Rattle.core_state.specs.Rooms.all_gone index core.book.opens ≤ spare t index) (sym same) (h.rooms.undo index);
      each = λ j js t there. let c = h.rooms.each j js t there in record {
        wanted = c.wanted;
        buffers = let same_room : room_of views j ≡ room_of core.store.views j = ap (λ rs. Rattle.std.specs.Prelude.get_or rs j 0) rooms in omega (arith, c.buffers, same_room);
        seats = λ d has. seats j (place_of d) (c.seats d has);
        kept = c.kept;
        small = c.small;
      };
    };
  }

  module _ (o : OwesFirst s i) (a : Act) (after : Books) (wants : List (List (List Want))) (before : List Prefix) (good : IsBook core.book) where
    abbrev t : Txn
    t = txn_of (mine maps spare limit core s l texts i h o).txn

    abbrev d : GroupDelta
    d = o.first

    abbrev paid_one : Open
    paid_one = record (now s i) { kept = Pay d ∷ (now s i).kept; owed = o.others }

    abbrev store_after : Store
    store_after = record s { view = add_to s.view d; open_of = with_one s.open_of i (Some paid_one) }

    does_is : does the_views s i Pays ≡ store_after
    does_is = ap (paid_first s i (now s i)) o.owed_is

    abbrev log_after : Log
    log_after = record (appended (schema_of s) (Some (Delta (l.logged i).transaction d)) (with_logged l i (keeps (l.logged i) l.next))) { begun = l.begun }

    logs_is : logs s i a Pays l ≡ log_after
    logs_is = ap (λ ds. record (appended (schema_of s) (pay_record (l.logged i) ds) (with_logged l i (keeps (l.logged i) l.next))) { begun = l.begun }) o.owed_is

    pub covered_after : MovesRoom i core.store.views views → ArePrefixes before (width d) (pays_on (place_of d) ((contents_of s).kept i)) → ((w : List Want) (ws : List (List Want)) → wants_at core.wants i ≡ w ∷ ws → wants_at wants i ≡ ws)
        → IsCovered core.store.catalog views core.locks (wants_at wants i) i (paying t d o.others before core.next)
    covered_after moves prefixes next =
        let c = covered maps spare limit core s l texts i h o in
        let still : still_owed t ≡ d ∷ o.others = still_there maps spare limit core s l texts i h o in
        let back : drop t.back o.others ≡ o.others = ap (λ n. drop n o.others) (Rattle.core_effects.proofs.Deltas.back_there maps spare limit core s l texts i h o) in
        record {
          wanted = subst (AreWanted (table.room_of core.locks i) (table.locks_of core.locks i) (table.waiting_of core.locks i) (wants_at wants i)) (sym back)
              (wanted_next (table.room_of core.locks i) (table.locks_of core.locks i) (table.waiting_of core.locks i) (wants_at core.wants i) (wants_at wants i) d o.others
              (subst (AreWanted (table.room_of core.locks i) (table.locks_of core.locks i) (table.waiting_of core.locks i) (wants_at core.wants i)) still c.wanted) next);
          buffers =
              let many : length (still_owed t) ≡ suc (length o.others) = ap length still in
              let left : length (drop t.back o.others) ≡ length o.others = ap length back in
              let used = moves.used in
              let had = c.buffers in
              omega (arith, many, left, used, had);
          seats = λ x has. seats i (place_of x) (c.seats x (subst (λ ds. Contains (ds ++ paid t.kept) x) (sym still) (moved_in d x o.others (paid t.kept) (subst (λ ds. Contains (ds ++ d ∷ paid t.kept) x) back has))));
          kept = (
            subst (ArePrefixes before (width d)) (sym (paid_as (place_of d) t.kept (now s i).kept (l.logged i).kept (mine maps spare limit core s l texts i h o).is.kept)) prefixes,
            c.kept,
          );
          small = c.small;
        }

    pub paid_holds : MovesRoom i core.store.views views → ArePrefixes before (width d) (pays_on (place_of d) ((contents_of s).kept i)) → ((w : List Want) (ws : List (List Want)) → wants_at core.wants i ≡ w ∷ ws → wants_at wants i ≡ ws)
        → ((j : ℕ) → j ≢ i → wants_at wants j ≡ wants_at core.wants j) → ((index : ℕ) → spare core.store.tables index ≤ spare tables index)
        → IsHeld core.store.catalog (maps tables) views (with_pay (told s texts) i d) → Changes core.book after i (paying t d o.others before core.next)
        → Holds maps spare limit (record core { store = record core.store { tables = tables; views = views }; book = after; wants = wants; next = core.next + 1 }) (does the_views s i Pays) (logs s i a Pays l) texts
    paid_holds moves prefixes next others spares stored changes =
        subst (λ u. Holds maps spare limit (record core { store = record core.store { tables = tables; views = views }; book = after; wants = wants; next = core.next + 1 }) u (logs s i a Pays l) texts) (sym does_is)
        (subst (λ m. Holds maps spare limit (record core { store = record core.store { tables = tables; views = views }; book = after; wants = wants; next = core.next + 1 }) store_after m texts) (sym logs_is)
        (record {
          stored = untold_held core.store.catalog (maps tables) views (told store_after texts)
              (subst (IsHeld core.store.catalog (maps tables) views)
              (contents_as (with_pay (told s texts) i d) (contents_of store_after) refl refl refl (λ j. sym (kept_of s.open_of i (Some paid_one) j))) stored);
          book = changed_holds core.book (schema_of s) s.open_of l.logged s.history (committed s).number (definition_sizes texts.since) h.book good i o.is_open.of_session after (with_one s.open_of i (Some paid_one)) (with_one l.logged i (keeps (l.logged i) l.next))
              (λ j n. (one_other s.open_of i (Some paid_one) j n, one_other l.logged i (keeps (l.logged i) l.next) j n)) (paying t d o.others before core.next) paid_one changes (one_same s.open_of i (Some paid_one) i refl)
              (subst (book.IsTxn (schema_of s) (paying t d o.others before core.next) paid_one) (sym (one_same l.logged i (keeps (l.logged i) l.next) i refl))
              (subst (λ n. book.IsTxn (schema_of s) (paying t d o.others before core.next) paid_one (keeps (l.logged i) n)) h.next
              (paid_is (schema_of s) t (now s i) (l.logged i) (mine maps spare limit core s l texts i h o).is d o.others before core.next)));
          locks = λ j js. subst (HasLocks (table.locks_of core.locks j)) (sym (locks_same s.open_of i (Some paid_one) refl j)) (h.locks j js);
          begun = h.begun;
          next = ap (λ n. n + 1) h.next;
          texts = texts_now (maps core.store.tables 0) (maps tables 0) core.store.catalog (all_texts texts) h.texts stored.texts;
          row_mark = h.row_mark;
          delta_mark = h.delta_mark;
          most = same_limit ∙ h.most;
          past = subst (IsPast core.store.row_versions.versions core.store.delta_versions.versions core.store.pending.entries) does_is (past_pays core.store.row_versions.versions core.store.delta_versions.versions core.store.pending.entries s h.past i o.is_open.of_session);
          ahead = subst (IsAhead core.ahead core.store.row_versions.room core.store.delta_versions.room) does_is (ahead_pays core.ahead core.store.row_versions.room core.store.delta_versions.room s h.ahead i d o.others o.owed_is);
          rooms = rooms_changed (spare core.store.tables) (spare tables) core.store.catalog core.store.views views core.book after core.locks core.locks core.wants wants i
              (paying t d o.others before core.next) good o.is_open.of_session h.rooms changes
              (λ index. let same : gone_if index (open_at core.book.opens i) ≡ gone_if index (Some (mine maps spare limit core s l texts i h o).txn) = ap (gone_if index) (mine maps spare limit core s l texts i h o).there in let more = spares index in omega (arith, same, more))
              (record { of_locks = λ j n. refl; of_wants = others; of_buffers = λ j n. let same = moves.others j n in omega (arith, same); of_seats = λ j place n has. seats j place has })
              (covered_after moves prefixes next);
        }))
