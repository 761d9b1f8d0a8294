-- A session's latest change is taken back.
use Rattle.std.specs.Prelude.{◌≡◌, ℕ, ◌+◌, ◌-◌, ◌≤◌, false, List, [], ◌∷◌, length, reverse, take, Option, None, Some, IfSome, refl}
use Rattle.std.specs.List.{Contains}
use Rattle.std.specs.FinMap.{get}
use mathlib.Core.Path.{sym, ap, subst, ◌∙◌}
use Rattle.std.proofs.Common.{arith}
use Rattle.std.proofs.lemmas.List.{length-reverse}
use Rattle.std.proofs.lemmas.List.Elements.{Contains-append_right}
use Rattle.iv_types.specs.Maps.{Map, IsWithin, used}
use Rattle.iv_types.specs.Definitions.{AreNumbered}
use Rattle.iv_types.specs.declared.catalog.TableDef.{TableDef}
use Rattle.iv_types.specs.declared.lock.GroupDelta.{GroupDelta}
use Rattle.iv_types.specs.declared.lock.Kept.{Kept}
use Rattle.iv_types.specs.declared.lock.KeptStep.{KeptStep as BookStep}
use Rattle.iv_types.specs.declared.lock.KeptStep.TheVariants as step
use Rattle.iv_meaning.specs.Database.{Row}
use Rattle.iv_meaning.specs.Objects as defined
use Rattle.iv_meaning.specs.Schema.{Schema, numbered, table}
use Rattle.table_store.specs.Stored.{table_of, IsTableAnd, StandsUnder}
use Rattle.table_store.specs.Changes.{IsKept, CanTakeBack, TakesRoom, how_many, gone_by, sizes}
use Rattle.table_store.proofs.Fresh.{in_schema}
use Rattle.lock_desk.specs.Asking.{HasLocks}
use Rattle.lock_desk.specs.PayWants.{wants_at}
use Rattle.lock_manager.specs.Table as table
use Rattle.txn_machine.specs.Acts.{Act}
use Rattle.txn_machine.specs.Counts.{definition_sizes}
use Rattle.txn_machine.specs.Deltas.{RowChange}
use Rattle.txn_machine.specs.Ghosts.{the_views}
use Rattle.txn_machine.specs.Keeping.{KeptStep, Put, Open, changes_of}
use Rattle.txn_machine.specs.Locks.{with_one}
use Rattle.txn_machine.specs.Log.{Log, Logged, logs, perhaps_entries, undoes, undo_record, appended, with_logged, rest}
use Rattle.txn_machine.specs.May.{FitsUnder}
use Rattle.txn_machine.specs.Records.{Undo}
use Rattle.txn_machine.specs.RowChanges.{row_change}
use Rattle.txn_machine.specs.Store.{Store, now, changes_by, schema_of, committed, does, Undoes, undone, notes_before}
use Rattle.txn_machine.proofs.Basics.{one_same, one_other}
use Rattle.table_laws.specs.Table.{write}
use Rattle.txn_book.specs.Books.{Books, IsBook, Changes}
use Rattle.txn_book.specs.Opens.{open_at}
use Rattle.txn_book.specs.Txns.{Txn, txn_of, without_step}
use Rattle.txn_book.specs.Holding as book
use Rattle.txn_book.specs.Holding.{AreKept}
use Rattle.txn_book.specs.declared.open_table.Open.{Open as BookOpen}
use Rattle.txn_book.proofs.Booking.{has_place}
use Rattle.txn_book.proofs.Holding.{changed_holds, put_undone}
use Rattle.data_store.specs.Contents.{contents_of}
use Rattle.data_store.proofs.Told.{untold_held}
use Rattle.data_store.specs.Held.{IsHeld}
use Rattle.data_store.specs.Machine.{IsPast}
use Rattle.data_store.specs.declared.store.Pending.{Pending}
use Rattle.data_changes.specs.Effects.{without_put}
use Rattle.data_past.specs.Moves.{one_less, ChangesAt, HasChange}
use Rattle.data_past.proofs.Committing.{latest_counted}
use Rattle.data_past.specs.Ahead.{Becomes, IsAhead, rows_at, deltas_at}
use Rattle.data_past.specs.declared.versions.Versions.{Versions}
use Rattle.data_past.proofs.Aheads.{ahead_unput, rows_many, deltas_many}
use Rattle.data_past.proofs.Effects.{past_unput}
use Rattle.spare_map.specs.Spared.{Spared}
use Rattle.data_room.proofs.Counted.{change_sizes}
use Rattle.data_room.proofs.Wheres.{where_always, within_fewer}
use Rattle.core_state.specs.Rooms.{IsCovered, CanBeTakenBack, gone_if, gone_of, still_owed, paid}
use Rattle.core_state.specs.Stands.{Holds, told, Texts, all_texts}
use Rattle.definition_parts.proofs.Staying.{texts_now}
use Rattle.core_state.specs.declared.state.CoreState.{CoreState}
use Rattle.core_state.proofs.Rooms.{rooms_changed, gone_set}
use Rattle.core_state.proofs.Sessions.{contents_as, kept_of, locks_same}
use Rattle.core_effects.specs.Undoing.{KeepsPut, FitsBack}
use Rattle.core_effects.proofs.Opened.{Has, own}
use Rattle.data_room.proofs.Entries.{each_held}
use Rattle.core_effects.proofs.Gone.{its_number}

-- the book's latest step is that change
pub record IsLatest (bs : List BookStep) (c : RowChange) (owed : List GroupDelta) (ks : List KeptStep) (ns : List ℕ) : Type 0 where
  pub kept : Kept
  pub txn_bytes : ℕ
  pub history_bytes : ℕ
  pub number : ℕ
  pub steps : List BookStep
  pub numbers : List ℕ
  pub is : bs ≡ step.Put kept txn_bytes history_bytes number ∷ steps
  pub change : row_change kept.change ≡ c
  pub logged : ns ≡ number ∷ numbers

latest : (bs : List BookStep) (c : RowChange) (owed : List GroupDelta) (ks : List KeptStep) (ns : List ℕ) → AreKept bs (Put c owed ∷ ks) ns → IsLatest bs c owed ks ns
latest [] c owed ks ns h = absurd h
latest (step.Pay e before m ∷ bs) c owed ks ns h = absurd h
latest (step.Put k a b m ∷ bs) c owed ks [] h = absurd h
latest (step.Put k a b m ∷ bs) c owed ks (n ∷ ns) h = record { kept = k; txn_bytes = a; history_bytes = b; number = m; steps = bs; numbers = ns; is = refl; change = h.0; logged = ap (λ x. x ∷ ns) (sym h.1) }

stands_under : (t : TableDef) (key : List ℕ) (row : Option Row) → FitsUnder t key row → IfSome row (StandsUnder t key)
stands_under t key None h = tt
stands_under t key (Some row) h = (h.1, h.0)

module _ {M : Type 0} (maps : M → ℕ → Map) (spare : M → ℕ → ℕ) (limit : M → Option ℕ) (core : CoreState M) (s : Store) (l : Log) (texts : Texts) (i : ℕ) (h : Holds maps spare limit core s l texts) (o : KeepsPut s i) where
  abbrev pub mine : Has (schema_of s) (open_at core.book.opens i) (now s i) (l.logged i)
  mine = own maps spare limit core s l texts i h o.is_open

  pub last : IsLatest (txn_of mine.txn).kept o.change o.owed o.earlier (l.logged i).kept
  last = latest (txn_of mine.txn).kept o.change o.owed o.earlier (l.logged i).kept (subst (λ ks. AreKept (txn_of mine.txn).kept ks (l.logged i).kept) o.kept_is mine.is.kept)

  covered : IsCovered core.store.catalog core.store.views core.locks (wants_at core.wants i) i (txn_of mine.txn)
  covered = h.rooms.each i o.is_open.of_session mine.txn mine.there

  pub back_of : CanBeTakenBack core.store.catalog (step.Put last.kept last.txn_bytes last.history_bytes last.number ∷ last.steps)
  back_of = subst (CanBeTakenBack core.store.catalog) last.is covered.kept

  gone_here : (n : ℕ) → gone_if n (open_at core.book.opens i) ≡ how_many n last.kept.gone + gone_of n last.steps
  gone_here n = ap (gone_if n) mine.there ∙ ap (gone_of n) last.is

  -- so many of an index at most are to go back in
  gone_fits : (n : ℕ) → how_many n last.kept.gone ≤ spare core.store.tables n
  gone_fits n =
      let all = gone_set n core.book.opens i None (has_place core.book.opens i mine.txn mine.there) in
      let room = h.rooms.undo n in
      let here = gone_here n in
      omega (arith, all, room, here)

  pub can_take_back : AreNumbered core.store.catalog → FitsBack (maps core.store.tables) (limit core.store.tables) (schema_of s) o.change → IsTableAnd core.store.catalog last.kept.change.table (CanTakeBack core.store.catalog last.kept (maps core.store.tables) (spare core.store.tables) (limit core.store.tables))
  can_take_back are fits_back =
      let is = back_of.0 in
      let t : TableDef = is.0 in
      let here : table_of core.store.catalog t.number ≡ Some t = its_number core.store.catalog are last.kept.change.table t is.1 in
      let same_number : t.number ≡ last.kept.change.table = number_is t last.kept.change.table is.1 are in
      let before : FitsUnder t last.kept.change.key last.kept.change.before = subst (λ (c : RowChange). FitsUnder t c.key.1 c.before) (sym last.change) (o.before t (table_there t is.1)) in (
        t,
        is.1,
        record {
          is_kept = is.2;
          there = record { rows = s.rows; held = h.stored.tables t here; is = subst (λ n. get s.rows (n, last.kept.change.key) ≡ last.kept.change.after) (sym same_number) (subst (λ (c : RowChange). get s.rows c.key ≡ c.after) (sym last.change) o.there) };
          row_before = stands_under t last.kept.change.key last.kept.change.before before;
          can_hold = subst Rattle.table_store.specs.Changes.CanHoldEach (sym is.2.removed) (each_held core.store.catalog are h.rooms.limited t here last.kept.change.key last.kept.change.before last.kept.change.after (stands_under t last.kept.change.key last.kept.change.before before));
          room = record { places = λ n. let fits = gone_fits n in omega (arith, fits); within = within_then t is.1 same_number is.2 };
        },
      )
    where
      within_then : (t : TableDef) → table_of core.store.catalog last.kept.change.table ≡ Some t → t.number ≡ last.kept.change.table → IsKept core.store.catalog last.kept.change last.kept t
          → IsWithin (limit core.store.tables) (used (maps core.store.tables) + sizes last.kept.gone - sizes last.kept.made)
      within_then t found same kept =
          let key : List ℕ = last.kept.change.key in
          let n : ℕ = last.kept.change.table in
          let objects : Schema = defined.schema_of core.store.catalog in
          let changed = change_sizes core.store.catalog t n same (in_schema core.store.catalog n t found) key last.kept.change.before last.kept.change.after in
          let gone = ap sizes kept.removed in
          let made = ap sizes kept.made in
          let fits : FitsBack (maps core.store.tables) (limit core.store.tables) objects (row_change last.kept.change) =
          subst (λ (os : Schema). FitsBack (maps core.store.tables) (limit core.store.tables) os (row_change last.kept.change)) (sym h.stored.objects)
          (subst (FitsBack (maps core.store.tables) (limit core.store.tables) (schema_of s)) (sym last.change) fits_back) in
          let before : ℕ = perhaps_entries objects (n, key) last.kept.change.before in
          let after : ℕ = perhaps_entries objects (n, key) last.kept.change.after in
          within_fewer (limit core.store.tables) (used (maps core.store.tables) + before - after) (used (maps core.store.tables) + sizes last.kept.gone - sizes last.kept.made)
          (where_always (limit core.store.tables) (let less : used (maps core.store.tables) + sizes last.kept.gone - sizes last.kept.made ≤ used (maps core.store.tables) + before - after = omega (arith, changed, gone, made) in less)) fits

      number_is : (t : TableDef) (n : ℕ) → table_of core.store.catalog n ≡ Some t → AreNumbered core.store.catalog → t.number ≡ n
      number_is t n e are = Rattle.table_store.proofs.TableIndexes.table_number core.store.catalog n t are e

      table_there : (t : TableDef) → table_of core.store.catalog last.kept.change.table ≡ Some t → numbered (schema_of s) o.change.key.0 ≡ Some (table t)
      table_there t e =
          subst (λ os. numbered os o.change.key.0 ≡ Some (table t)) h.stored.objects
          (in_schema core.store.catalog o.change.key.0 t (ap (λ (c : RowChange). table_of core.store.catalog c.key.0) (sym last.change) ∙ e))

  -- it is counted
  pub is_counted : HasChange core.store.pending.entries (last.kept.change.table, last.kept.change.key)
  is_counted = subst (λ (c : RowChange). HasChange core.store.pending.entries c.key) (sym last.change)
      (latest_counted core.store.row_versions.versions core.store.delta_versions.versions core.store.pending.entries s h.past i o.is_open.of_session o.change o.owed o.earlier o.kept_is)

  -- the book's transaction owes as much
  owed_many : length mine.txn.owed.items ≡ length (now s i).owed
  owed_many = sym (length-reverse mine.txn.owed.items) ∙ ap length mine.is.owed

  -- its version is made, and so are the deltas that it owes
  pub version_there : 1 ≤ length (rows_at core.ahead i)
  version_there =
      let many = rows_many core.ahead core.store.row_versions.room core.store.delta_versions.room s h.ahead i in
      let some : length (changes_by s i) ≡ length (changes_of (Put o.change o.owed ∷ o.earlier)) = ap (λ (l : List KeptStep). length (changes_of l)) o.kept_is in
      omega (arith, many, some)

  pub owed_there : length mine.txn.owed.items ≤ length (deltas_at core.ahead i)
  owed_there = let many = deltas_many core.ahead core.store.row_versions.room core.store.delta_versions.room s h.ahead i in let same = owed_many in omega (arith, many, same)

  -- the book has it as the latest of the open transaction there
  pub there_latest : (t : BookOpen) → open_at core.book.opens i ≡ Some t → reverse t.kept.items ≡ step.Put last.kept last.txn_bytes last.history_bytes last.number ∷ last.steps
  there_latest t there =
      let one : Some t ≡ Some mine.txn = sym there ∙ mine.there in
      let same : t ≡ mine.txn = cc in
      ap (λ (x : BookOpen). reverse x.kept.items) same ∙ last.is

  module _ (tables : M) (after : Books) (same_limit : limit tables ≡ limit core.store.tables) (good : IsBook core.book) where
    abbrev t_after : Txn
    t_after = without_step (txn_of mine.txn) (step.Put last.kept last.txn_bytes last.history_bytes last.number) last.steps

    abbrev undone_one : Open
    undone_one = record (now s i) { kept = o.earlier; owed = []; back = 0; notes = notes_before (length o.earlier) (now s i).notes }

    abbrev store_after : Store
    store_after = record s { rows = write s.rows o.change.key o.change.before; open_of = with_one s.open_of i (Some undone_one) }

    does_is : does the_views s i Undoes ≡ store_after
    does_is = ap (undone s i (now s i)) o.kept_is

    abbrev logged_after : Logged
    logged_after = record (l.logged i) { kept = rest (l.logged i).kept; ghosted = false }

    abbrev log_after : Log
    log_after = record (appended (schema_of s) (Some (Undo (l.logged i).transaction last.number)) (with_logged l i logged_after)) { begun = l.begun }

    logs_is : (a : Act) → logs s i a Undoes l ≡ log_after
    logs_is a = λ x. record (appended (schema_of s) (undo_record (l.logged i) (last.logged x)) (with_logged l i (undoes (l.logged i) (o.kept_is x)))) { begun = l.begun }

    covered_after : IsCovered core.store.catalog core.store.views core.locks (wants_at core.wants i) i t_after
    covered_after =
        let c = covered in
        let same : paid (txn_of mine.txn).kept ≡ paid last.steps = ap paid last.is in
        record {
          wanted = tt;
          buffers = let had = c.buffers in let many : length (paid (txn_of mine.txn).kept) ≡ length (paid last.steps) = ap length same in omega (arith, had, many);
          seats = λ x has. c.seats x (Contains-append_right (still_owed (txn_of mine.txn)) (paid (txn_of mine.txn).kept) x (subst (λ ps. Contains ps x) (sym same) has));
          kept = back_of.2;
          small = back_of.1;
        }

    pub undone_holds : (a : Act) (pending : Spared Pending) → ChangesAt (last.kept.change.table, last.kept.change.key) one_less core.store.pending.entries pending.entries
        → (ahead : List Versions) (owed : ℕ) → owed ≡ length mine.txn.owed.items → Becomes core.ahead ahead i (take (length (rows_at core.ahead i) - 1) (rows_at core.ahead i)) (take (length (deltas_at core.ahead i) - owed) (deltas_at core.ahead i)) → TakesRoom (spare core.store.tables) (spare tables) last.kept.made last.kept.gone → IsHeld core.store.catalog (maps tables) core.store.views (without_put (told s texts) i (row_change last.kept.change) o.earlier) → Changes core.book after i t_after
        → Holds maps spare limit (record core { store = record core.store { tables = tables; pending = pending }; book = after; ahead = ahead; next = core.next + 1 }) (does the_views s i Undoes) (logs s i a Undoes l) texts
    undone_holds a pending forgot ahead owed owed_is removed takes stored changes =
        subst (λ u. Holds maps spare limit (record core { store = record core.store { tables = tables; pending = pending }; book = after; ahead = ahead; next = core.next + 1 }) u (logs s i a Undoes l) texts) (sym does_is)
        (subst (λ m. Holds maps spare limit (record core { store = record core.store { tables = tables; pending = pending }; book = after; ahead = ahead; next = core.next + 1 }) store_after m texts) (sym (logs_is a))
        (record {
          stored = untold_held core.store.catalog (maps tables) core.store.views (told store_after texts)
              (subst (IsHeld core.store.catalog (maps tables) core.store.views)
              (contents_as (without_put (told s texts) i o.change o.earlier) (contents_of store_after) refl refl refl (λ j. sym (kept_of s.open_of i (Some undone_one) j)))
              (subst (λ c. IsHeld core.store.catalog (maps tables) core.store.views (without_put (told s texts) i c o.earlier)) last.change stored));
          book = changed_holds core.book (schema_of s) s.open_of l.logged s.history (committed s).number (definition_sizes texts.since) h.book good i o.is_open.of_session after (with_one s.open_of i (Some undone_one)) (with_one l.logged i logged_after)
              (λ j n. (one_other s.open_of i (Some undone_one) j n, one_other l.logged i logged_after j n)) t_after undone_one changes (one_same s.open_of i (Some undone_one) i refl)
              (subst (book.IsTxn (schema_of s) t_after undone_one) (sym (one_same l.logged i logged_after i refl))
              (put_undone (schema_of s) (txn_of mine.txn) (now s i) (l.logged i) mine.is last.kept last.txn_bytes last.history_bytes last.number last.steps o.change o.owed o.earlier last.is o.kept_is));
          locks = λ j js. subst (HasLocks (table.locks_of core.locks j)) (sym (locks_same s.open_of i (Some undone_one) refl j)) (h.locks j js);
          begun = h.begun;
          next = ap (λ n. n + 1) h.next;
          texts = texts_now (maps core.store.tables 0) (maps tables 0) core.store.catalog (all_texts texts) h.texts stored.texts;
          row_mark = h.row_mark;
          delta_mark = h.delta_mark;
          most = same_limit ∙ h.most;
          past = subst (IsPast core.store.row_versions.versions core.store.delta_versions.versions pending.entries) does_is
              (past_unput core.store.row_versions.versions core.store.delta_versions.versions core.store.pending.entries s h.past i o.is_open.of_session pending.entries o.change o.owed o.earlier o.kept_is
              (subst (λ (c : RowChange). ChangesAt c.key one_less core.store.pending.entries pending.entries) last.change forgot));
          ahead = subst (IsAhead ahead core.store.row_versions.room core.store.delta_versions.room) does_is
              (ahead_unput core.ahead core.store.row_versions.room core.store.delta_versions.room s h.ahead i o.change o.owed o.earlier o.kept_is owed (owed_is ∙ owed_many) ahead removed);
          rooms = rooms_changed (spare core.store.tables) (spare tables) core.store.catalog core.store.views core.store.views core.book after core.locks core.locks core.wants core.wants i
              t_after good o.is_open.of_session h.rooms changes
              (λ index. let here = gone_here index in let room = takes index in omega (arith, here, room))
              (record { of_locks = λ j n. refl; of_wants = λ j n. refl; of_buffers = λ j n. omega arith; of_seats = λ j place n has. has })
              covered_after;
        }))
