-- Moves of one session that pass their tests are steps.
use Rattle.std.specs.Prelude.{◌≡◌, ◌⊎◌, ℕ, suc, ◌+◌, ◌≤◌, ◌==◌, Bool, not, ◌&&◌, T, List, [], ◌∷◌, ◌++◌, length, ℤ, Option, Some, None, is_some}
use Rattle.std.specs.List.{AllZip}
use Rattle.std.specs.Option.{unwrap_or}
use mathlib.Core.Path.{refl, sym, ap, subst, ◌∙◌}
use mathlib.Core.Logic.{inl, inr}
use Rattle.std.specs.FinMap.{entries, find, is_sorted}
use Rattle.iv_types.specs.declared.statement.Mode.{Mode}
use Rattle.iv_types.specs.declared.statement.Mode.TheVariants.{Serial, Snapshot}
use Rattle.iv_types.specs.declared.lock.LockMode.{LockMode}
use Rattle.iv_types.specs.declared.lock.LockMode.TheVariants.{Share, Increment}
use Rattle.iv_types.specs.declared.lock.GroupDelta.{GroupDelta}
use Rattle.iv_types.specs.declared.lock.Want.{Want}
use Rattle.iv_types.specs.declared.value.Interval.{Interval}
use Rattle.iv_types.specs.Encoding.{is_huge, lies_in}
use Rattle.table_laws.specs.Place.{Place, place_cmp}
use Rattle.table_laws.specs.Table.{rows_where}
use Rattle.iv_meaning.specs.Schema.{Object, table, index, view, numbered, group_kinds}
use Rattle.iv_meaning.specs.Database.{Row, Rows, Database}
use Rattle.iv_meaning.specs.History.{Entry}
use Rattle.iv_meaning.specs.Escrow.{Account, IsAllowed, IsSession, with_increment, over_sessions, paid}
use Rattle.txn_machine.specs.Acts as act
use Rattle.txn_machine.specs.Acts.{Act}
use Rattle.txn_machine.specs.Answers as answer
use Rattle.txn_machine.specs.Answers.{Answer}
use Rattle.txn_machine.specs.Locks.{with_one}
use Rattle.txn_machine.specs.Deltas.{RowChange, columns_of, worth, place_of, negated, owed}
use Rattle.txn_machine.specs.Fresh.{fresh}
use Rattle.txn_machine.specs.Keeping.{KeptStep, Put, Pay, changes_of, increments, Open, begun, idle}
use Rattle.txn_machine.specs.Stored.{ViewRows, zeros, IsShown, is_shown}
use Rattle.txn_machine.specs.Store.{Store, committed, with_txn, entry_changes, change_at, now, locks_of, run, paid_first, undone, Effect, Opens, Takes, Writes, Pays, Ghosts, Undoes, Commits, Ends}
use Rattle.txn_machine.specs.Ghosts.{the_views, account_of, Holds}
use Rattle.txn_machine.specs.Counts.{fetch_size, put_size, transaction_size, most_of_transaction, entry_size, kept_change_size, history_size, most_of_history, definition_sizes}
use Rattle.txn_machine.specs.State.{State, counted}
use Rattle.txn_machine.specs.May.{IsOpenIn, IsReady, Owes, MayLock, MayPut, MayAct, MayAsk}
use Rattle.txn_machine.specs.Steps.{Step, Says, MayBegin, FindsIn, IsFree, CommitsAs, group_want, put_wants, first_want, waits_after, FitsLog, FitsData, used_data, definitions_after, log_after}
use Rattle.txn_machine.proofs.Basics.{one_same}
use Rattle.txn_machine.proofs.PlainStates.{table_of, Plain, state_of, schema, base, number_of, txn, found_in, seen, shown_in, are_shown, is_session, is_serial, is_nil, is_increment, is_free, goes_on, is_ready, fits_txn, fits_history, fits_under, differ, account_in, inf_in, sup_in, allows, all_below, holds_in}
use Rattle.txn_machine.proofs.Playing.{read_want, change_in, put_wants_in, put_owed_in, width_of, view_rows_of, number_left, said_of, owes, lacks_first, pays_first, makes_first, rest, may_read, is_scanned, lists_in, may_put_in, may_put, test, after_makes, locked, paid_txn, after_pays, after_undoes, after, is_in_order, begins, learns, scans, views, puts, lacks, undoes, ends, commits, leaves}
use Rattle.txn_machine.proofs.Tabled.{InOrder, entries_are, get_is, write_is, add_is, with_rows, plain_db, base_sorted, committed_is, read_is, owed_is, fresh_is}
use Rattle.txn_machine.proofs.Testing.{is_true, left_one, right_one, at_most, equal, there_is, none_is_there, serial_is, nil_is, not_nil, false_is, session_is, below_so, some_is, free_is, in_range, increment_is, under_is, differ_is, shown_lists, may_lock_so, finds_stored}
use Rattle.txn_machine.specs.Log.{Within, end_bytes, reserved}

-- the tables are in order, and the engine is not stopped
pub record Sorted (p : Plain) : Type 0 where
  pub rows : InOrder p.rows
  pub view : InOrder p.view
  pub runs : p.of.stop ≡ None
  pub no_log_limit : p.of.opening.log_limit ≡ None
  pub no_data_limit : p.of.opening.data_limit ≡ None

pub in_order : (p : Plain) → T (is_in_order p) → Sorted p
in_order p h =
    let no_data : Bool = not (is_some p.of.opening.data_limit) in
    let unlimited : Bool = not (is_some p.of.opening.log_limit) && no_data in
    let runs : Bool = not (is_some p.of.stop) && unlimited in
    let more = right_one (is_sorted place_cmp p.rows) (is_sorted place_cmp p.view && runs) h in
    let last = right_one (is_sorted place_cmp p.view) runs more in
    let limits = right_one (not (is_some p.of.stop)) unlimited last in
    record {
      rows = left_one (is_sorted place_cmp p.rows) (is_sorted place_cmp p.view && runs) h;
      view = left_one (is_sorted place_cmp p.view) runs more;
      runs = none_is_there p.of.stop (left_one (not (is_some p.of.stop)) unlimited last);
      no_log_limit = none_is_there p.of.opening.log_limit (left_one (not (is_some p.of.opening.log_limit)) no_data limits);
      no_data_limit = none_is_there p.of.opening.data_limit (right_one (not (is_some p.of.opening.log_limit)) no_data limits);
    }

-- who may act may ask
pub asks : (s : Store) (i : ℕ) (a : Act) → i ≤ 64 → MayAct s i a → MayAsk i a
asks s i (act.Begin mode) l may = l
asks s i act.Defs l may = may
asks s i (act.Fetch number interval mode) l may = l
asks s i (act.Peek number interval) l may = l
asks s i (act.Put number key new) l may = l
asks s i act.Pay l may = l
asks s i act.Ghost l may = l
asks s i act.UndoOne l may = l
asks s i act.End l may = l
asks s i act.Commit l may = l
asks s i (act.Schema statement) l may = may.0
asks s i act.Clean l may = l
asks s i act.Prune l may = l
asks s i act.Checkpoint l may = l
asks s i act.Cancel l may = may

module _ (p : Plain) (i : ℕ) (sorted : Sorted p) (session : i ≤ 64) where
  abbrev pub here : State
  here = state_of p

  pub step : (a : Act) (said : Answer) (es : List Effect) (to : State) → MayAct here.store i a → Says here i a said es
      → to ≡ counted here i a said (run the_views here.store i es) (waits_after here.store i a said) (definitions_after here.definitions a said) (log_after here i a said es) → Step here i a said to
  step a said es to may says left = record { may = (asks here.store i a session may, inr may); does = inl (record { runs = sorted.runs; effects = es; says = says; left = left }) }

  -- what is said of the committed database
  pub of_db : (P : Database → Type 0) → P (plain_db p) → P (committed here.store)
  of_db P h = subst P (sym (committed_is p)) h

  pub number_is : number_of p ≡ (committed here.store).number
  number_is = sym (ap (λ (db : Database). db.number) (committed_is p))

  -- ---- a session that goes on

  abbrev pub going : (mode : Mode) → T (goes_on p i) → (txn p i).mode ≡ mode → IsOpenIn here.store i mode
  going mode h e =
      let more = right_one (is_session i) (is_some (p.of.store.open_of i) && not (txn p i).is_lost) h in
      record {
        of_session = session_is i (left_one (is_session i) (is_some (p.of.store.open_of i) && not (txn p i).is_lost) h);
        transaction = txn p i;
        is_open = there_is (p.of.store.open_of i) idle (left_one (is_some (p.of.store.open_of i)) (not (txn p i).is_lost) more);
        mode_is = e;
        not_lost = false_is (txn p i).is_lost (right_one (is_some (p.of.store.open_of i)) (not (txn p i).is_lost) more);
      }

  pub ready : T (is_ready p i) → IsReady here.store i Serial
  ready h =
      let more = right_one (goes_on p i) (is_serial (txn p i).mode && is_nil (txn p i).owed) h in
      record {
        goes_on = going Serial (left_one (goes_on p i) (is_serial (txn p i).mode && is_nil (txn p i).owed) h) (serial_is (txn p i).mode (left_one (is_serial (txn p i).mode) (is_nil (txn p i).owed) more));
        owes_nothing = nil_is (txn p i).owed (right_one (is_serial (txn p i).mode) (is_nil (txn p i).owed) more);
      }

  pub free : (wants : List Want) → T (is_free p i wants) → IsFree here.store i wants
  free wants h = free_is (locks_of here.store) i wants h

  room : (need : Database → ℕ) → T (fits_txn p i (need (plain_db p))) → transaction_size (committed here.store).schema (now here.store i) + need (committed here.store) ≤ most_of_transaction
  room need h = of_db (λ db. transaction_size db.schema (now here.store i) + need db ≤ most_of_transaction) (at_most (transaction_size (schema p) (txn p i) + need (plain_db p)) most_of_transaction h)

  pub history_room : (need : Database → ℕ) → T (fits_history p (need (plain_db p))) → history_size (committed here.store).schema here.store.history (definition_sizes here.definitions) here.store.open_of + need (committed here.store) ≤ most_of_history
  history_room need h = of_db (λ db. history_size db.schema here.store.history (definition_sizes here.definitions) here.store.open_of + need db ≤ most_of_history)
      (at_most (history_size (schema p) p.history (definition_sizes p.of.definitions) p.of.store.open_of + need (plain_db p)) most_of_history h)

  -- without limits there is room
  pub log_room : (need : ℕ) → FitsLog here need
  log_room need = subst (λ (limit : Option ℕ). Within limit (here.log.used + reserved here.store here.log + need)) (sym sorted.no_log_limit) tt

  pub data_room : (need : ℕ) → FitsData here need
  data_room need = subst (λ (limit : Option ℕ). Within limit (used_data here + need)) (sym sorted.no_data_limit) tt

  -- ---- Begin

  begin_room : (mode : Mode) → T (test p i (begins mode)) → MayBegin here mode
  begin_room Serial h = (
    log_room end_bytes,
    history_room (λ db. entry_size) (right_one (not (is_some (p.of.store.open_of i))) (fits_history p entry_size) (right_one (is_session i) (not (is_some (p.of.store.open_of i)) && fits_history p entry_size) h)),
  )
  begin_room Snapshot h = tt

  begin_may : (mode : Mode) → T (test p i (begins mode)) → IsSession i × (here.store.open_of i ≡ None)
  begin_may Serial h = (
    session_is i (left_one (is_session i) (not (is_some (p.of.store.open_of i)) && fits_history p entry_size) h),
    none_is_there (p.of.store.open_of i) (left_one (not (is_some (p.of.store.open_of i))) (fits_history p entry_size) (right_one (is_session i) (not (is_some (p.of.store.open_of i)) && fits_history p entry_size) h)),
  )
  begin_may Snapshot h =
      (session_is i (left_one (is_session i) (not (is_some (p.of.store.open_of i))) h), none_is_there (p.of.store.open_of i) (right_one (is_session i) (not (is_some (p.of.store.open_of i))) h))

  pub begins_so : (mode : Mode) → T (test p i (begins mode)) → Step here i (act.Begin mode) (said_of p i (begins mode)) (state_of (after p i (begins mode)))
  begins_so mode h = step (act.Begin mode) (said_of p i (begins mode)) (Opens mode ∷ []) (state_of (after p i (begins mode)))
      (begin_may mode h)
      (record { room = begin_room mode h; number_is = number_is; defs_are = of_db (λ db. length (schema p) ≡ length db.schema) refl; effects = refl })
      (ap (λ n. counted here i (act.Begin mode) (said_of p i (begins mode)) (with_txn here.store i (Some (begun mode n))) [] here.definitions (log_after here i (act.Begin mode) (said_of p i (begins mode)) (Opens mode ∷ []))) number_is)

  -- ---- Defs

  pub learns_so : T (test p i learns) → Step here i act.Defs (answer.Defs (schema p)) (state_of (after p i learns))
  learns_so h = step act.Defs (answer.Defs (schema p)) [] (state_of (after p i learns)) (session_is i h) (of_db (λ db. schema p ≡ db.schema) refl, refl) refl

  -- ---- Fetch

  pub may_read_so : (number : ℕ) (lock : LockMode) → T (may_read p number lock) → MayLock lock (numbered (committed here.store).schema number)
  may_read_so number lock h = of_db (λ db. MayLock lock (numbered db.schema number)) (may_lock_so lock (numbered (schema p) number) h)

  pub scans_so : (number : ℕ) (interval : Interval) (lock : LockMode) → T (test p i (scans number interval lock))
      → Step here i (act.Fetch number interval lock) (said_of p i (scans number interval lock)) (state_of (after p i (scans number interval lock)))
  scans_so number interval lock h =
      let rows : List Row = found_in (schema p) p.rows number interval in
      let fits : Bool = fits_txn p i (fetch_size (schema p) number interval rows) in
      let nobody : Bool = is_free p i (read_want number interval lock) in
      let scanned : Bool = is_scanned (numbered (schema p) number) in
      let h1 = right_one (is_ready p i) (may_read p number lock && (scanned && (nobody && fits))) h in
      let h2 = right_one (may_read p number lock) (scanned && (nobody && fits)) h1 in
      let h3 = right_one scanned (nobody && fits) h2 in
      step (act.Fetch number interval lock) (said_of p i (scans number interval lock)) (_ ∷ _ ∷ []) (state_of (after p i (scans number interval lock)))
      (ready (left_one (is_ready p i) (may_read p number lock && (scanned && (nobody && fits))) h), may_read_so number lock (left_one (may_read p number lock) (scanned && (nobody && fits)) h1))
      (record {
        free = free (read_want number interval lock) (left_one nobody fits h3);
        found = of_db (λ db. FindsIn (record db { rows = table_of p.rows }) (table_of p.view) (numbered db.schema number) number interval rows)
            (finds_stored (with_rows (number_of p) (schema p) p.rows) (table_of p.view) (numbered (schema p) number) number interval rows (left_one scanned (nobody && fits) h2) (read_is (number_of p) (schema p) p.rows number interval sorted.rows));
        room = room (λ db. fetch_size db.schema number interval rows) (right_one nobody fits h3);
        effects = refl;
      })
      refl

  -- a view's stored rows are listed
  lists_so : (number : ℕ) (interval : Interval) (groups : List Row) (o : Option Object) → T (lists_in p number interval groups o)
      → FindsIn (with_rows (number_of p) (schema p) p.rows) (table_of p.view) o number interval (shown_in (width_of o) (seen p number interval) groups)
  lists_so number interval groups None h = absurd h
  lists_so number interval groups (Some (table t)) h = absurd h
  lists_so number interval groups (Some (index x)) h = absurd h
  lists_so number interval groups (Some (view v)) h =
      let shown : Bool = are_shown (group_kinds (schema p) v) (seen p number interval) groups in
      let same = equal number v.number (left_one (number == v.number) shown h) in
      subst (λ (n : ℕ). AllZip (IsShown (schema p) v) (rows_where (is_shown n interval) (entries (table_of p.view))) (shown_in (suc (length v.sums)) (seen p number interval) groups)) same
      (subst (λ (es : List (Place × List ℤ)). AllZip (IsShown (schema p) v) (rows_where (is_shown number interval) es) (shown_in (suc (length v.sums)) (seen p number interval) groups)) (sym (entries_are p.view sorted.view))
      (shown_lists (schema p) v (seen p number interval) groups (right_one (number == v.number) shown h)))

  pub views_so : (number : ℕ) (interval : Interval) (groups : List Row) → T (test p i (views number interval groups))
      → Step here i (act.Fetch number interval Share) (said_of p i (views number interval groups)) (state_of (after p i (views number interval groups)))
  views_so number interval groups h =
      let rows : List Row = view_rows_of p number interval groups in
      let fits : Bool = fits_txn p i (fetch_size (schema p) number interval rows) in
      let nobody : Bool = is_free p i (read_want number interval Share) in
      let shown : Bool = lists_in p number interval groups (numbered (schema p) number) in
      let h1 = right_one (is_ready p i) (may_read p number Share && (nobody && (shown && fits))) h in
      let h2 = right_one (may_read p number Share) (nobody && (shown && fits)) h1 in
      let h3 = right_one nobody (shown && fits) h2 in
      step (act.Fetch number interval Share) (said_of p i (views number interval groups)) (_ ∷ _ ∷ []) (state_of (after p i (views number interval groups)))
      (ready (left_one (is_ready p i) (may_read p number Share && (nobody && (shown && fits))) h), may_read_so number Share (left_one (may_read p number Share) (nobody && (shown && fits)) h1))
      (record {
        free = free (read_want number interval Share) (left_one nobody (shown && fits) h2);
        found = of_db (λ db. FindsIn (record db { rows = table_of p.rows }) (table_of p.view) (numbered db.schema number) number interval rows) (lists_so number interval groups (numbered (schema p) number) (left_one shown fits h3));
        room = room (λ db. fetch_size db.schema number interval rows) (right_one shown fits h3);
        effects = refl;
      })
      refl

  -- ---- Put

  module _ (number : ℕ) (key : List ℕ) (new : Option Row) where
    abbrev place : Place
    place = (number, key)

    abbrev put : Act
    put = act.Put number key new

    abbrev change_here : RowChange
    change_here = change_at here.store place new

    change_is : change_here ≡ change_in p number key new
    change_is = ap (λ (b : Option Row). record { key = place; before = b; after = new }) (get_is p.rows place sorted.rows)

    abbrev wants_here : List Want
    wants_here = put_wants (committed here.store).schema (numbered (committed here.store).schema number) change_here

    pub wants_are : wants_here ≡ put_wants_in p number key new
    wants_are = ap (λ (db : Database). put_wants db.schema (numbered db.schema number) change_here) (committed_is p) ∙ ap (put_wants (schema p) (numbered (schema p) number)) change_is

    abbrev owed_here : List GroupDelta
    owed_here = owed (committed here.store).schema (table_of p.rows) change_here

    owes_plain : owed (schema p) (table_of p.rows) change_here ≡ put_owed_in p number key new
    owes_plain = owed_is (schema p) p.rows change_here sorted.rows

    owes_here : owed_here ≡ put_owed_in p number key new
    owes_here = ap (λ (db : Database). owed db.schema (table_of p.rows) change_here) (committed_is p) ∙ owes_plain

    abbrev wrote_as : List Want → RowChange → List GroupDelta → Rows → Store
    wrote_as wants c ds m = record (locked here.store i wants) {
      rows = m;
      open_of = with_one (locked here.store i wants).open_of i (Some (record (now (locked here.store i wants) i) { kept = Put c ds ∷ (now (locked here.store i wants) i).kept; owed = ds; back = 0 }));
    }

    put_size_is : put_size (schema p) change_here (owed (schema p) (table_of p.rows) change_here) ≡ put_size (schema p) (change_in p number key new) (put_owed_in p number key new)
    put_size_is = λ j. put_size (schema p) (change_is j) (owes_plain j)

    may_put_by : (o : Option Object) → numbered (schema p) number ≡ o → T (may_put_in p number key new o) → MayPut here.store number key new
    may_put_by None e h = absurd h
    may_put_by (Some (index x)) e h = absurd h
    may_put_by (Some (view v)) e h = absurd h
    may_put_by (Some (table t)) e h =
        let fits : Bool = fits_under t key new in
        let differs : Bool = differ (find place_cmp place p.rows) new in
        record {
          of = t;
          table_is = of_db (λ db. numbered db.schema number ≡ Some (table t)) e;
          fits = under_is t key new (left_one fits differs h);
          changes = λ same. differ_is (find place_cmp place p.rows) new (right_one fits differs h) (sym (get_is p.rows place sorted.rows) ∙ same);
        }

    pub may_put_so : T (may_put p number key new) → MayPut here.store number key new
    may_put_so h = may_put_by (numbered (schema p) number) refl h

    pub puts_so : T (test p i (puts number key new)) → Step here i put (said_of p i (puts number key new)) (state_of (after p i (puts number key new)))
    puts_so h =
        let is_free_here : Bool = is_free p i (put_wants_in p number key new) in
        let may : Bool = may_put p number key new in
        let has_room : Bool = fits_txn p i (put_size (schema p) (change_in p number key new) (put_owed_in p number key new)) in
        let has_history : Bool = fits_history p (kept_change_size (schema p) (change_in p number key new)) in
        let h1 = right_one (is_ready p i) (is_free_here && (may && (has_room && has_history))) h in
        let h2 = right_one is_free_here (may && (has_room && has_history)) h1 in
        let h4 = right_one may (has_room && has_history) h2 in
        step put (said_of p i (puts number key new)) (Takes wants_here ∷ Writes place new ∷ []) (state_of (after p i (puts number key new)))
        (ready (left_one (is_ready p i) (is_free_here && (may && (has_room && has_history))) h), may_put_so (left_one may (has_room && has_history) h2))
        (record {
          free = subst (IsFree here.store i) (sym wants_are) (free (put_wants_in p number key new) (left_one is_free_here (may && (has_room && has_history)) h1));
          room = room (λ db. put_size db.schema change_here (owed db.schema (table_of p.rows) change_here)) (subst (λ n. T (fits_txn p i n)) (sym put_size_is) (left_one has_room has_history h4));
          log_room = log_room _;
          data_room = data_room _;
          history_room = history_room (λ db. kept_change_size db.schema change_here) (subst (λ (c : RowChange). T (fits_history p (kept_change_size (schema p) c))) (sym change_is) (right_one has_room has_history h4));
          before_is = sym (get_is p.rows place sorted.rows);
          owed_is = sym owes_here;
          effects = refl;
        })
        (ap (λ (t : Store). counted here i put (said_of p i (puts number key new)) t [] here.definitions (log_after here i put (said_of p i (puts number key new)) (Takes wants_here ∷ Writes place new ∷ [])))
        (λ j. wrote_as (sym wants_are j) (sym change_is j) (sym owes_here j) (sym (write_is place new p.rows sorted.rows) j)))

  -- ---- Pay and Ghost

  abbrev pub owes_so : T (owes p i) → (d : GroupDelta) (ds : List GroupDelta) → (txn p i).owed ≡ d ∷ ds → Owes here.store i
  owes_so h d ds e =
      let more = right_one (goes_on p i) (is_serial (txn p i).mode && ((txn p i).back == 0)) h in
      record {
        goes_on = going Serial (left_one (goes_on p i) (is_serial (txn p i).mode && ((txn p i).back == 0)) h) (serial_is (txn p i).mode (left_one (is_serial (txn p i).mode) ((txn p i).back == 0) more));
        first = d;
        others = ds;
        owed_is = e;
        none_back = equal (txn p i).back 0 (right_one (is_serial (txn p i).mode) ((txn p i).back == 0) more);
      }

  abbrev pub view_at : GroupDelta → Option (List ℤ)
  view_at d = find place_cmp (place_of d) p.view

  pub lacks_by : T (owes p i) → (l : List GroupDelta) → (txn p i).owed ≡ l → T (lacks_first p i l) → Step here i act.Pay answer.NeedsGhost (state_of (after p i lacks))
  lacks_by o [] e h = absurd h
  lacks_by o (d ∷ ds) e h = step act.Pay answer.NeedsGhost (Takes (first_want (txn p i).owed) ∷ []) (state_of (after p i lacks))
      (owes_so o d ds e)
      (record {
        pays = record {
          free = subst (λ (l : List GroupDelta). IsFree here.store i (first_want l)) (sym e) (free (group_want d ∷ []) (left_one (is_free p i (group_want d ∷ [])) (not (is_some (view_at d))) h));
          first = d;
          others = ds;
          owed_is = e;
        };
        absent = get_is p.view (place_of d) sorted.view ∙ none_is_there (view_at d) (right_one (is_free p i (group_want d ∷ [])) (not (is_some (view_at d))) h);
        effects = refl;
      })
      refl

  pub holds_so : (locks : List Want) (k : Place) → T (holds_in locks k) → Holds locks Increment k.0 k.1
  holds_so locks k h =
      let f : Want → Bool = λ l. is_increment l.mode && ((l.index == k.0) && lies_in k.1 l.interval) in
      let a = some_is f locks h in
      let more = right_one (is_increment a.one.mode) ((a.one.index == k.0) && lies_in k.1 a.one.interval) a.so in
      record {
        lock = a.one;
        held = a.there;
        mode_is = increment_is a.one.mode (left_one (is_increment a.one.mode) ((a.one.index == k.0) && lies_in k.1 a.one.interval) a.so);
        index_is = equal a.one.index k.0 (left_one (a.one.index == k.0) (lies_in k.1 a.one.interval) more);
        covers = is_true (lies_in k.1 a.one.interval) (right_one (a.one.index == k.0) (lies_in k.1 a.one.interval) more);
      }

  pub makes_by : T (owes p i) → (l : List GroupDelta) → (txn p i).owed ≡ l → T (makes_first p i l) → Step here i act.Ghost answer.Ghosted (state_of (after_makes p i l))
  makes_by o [] e h = absurd h
  makes_by o (d ∷ ds) e h =
      let n : ℕ = length (columns_of d) in
      step act.Ghost answer.Ghosted (Ghosts (place_of d) n ∷ []) (state_of (after_makes p i (d ∷ ds)))
      (owes_so o d ds e, holds_so (txn p i).locks (place_of d) (right_one (not (is_some (view_at d))) (holds_in (txn p i).locks (place_of d)) h))
      (record {
        first = d;
        others = ds;
        owed_is = e;
        effects = inl (get_is p.view (place_of d) sorted.view ∙ none_is_there (view_at d) (left_one (not (is_some (view_at d))) (holds_in (txn p i).locks (place_of d)) h), refl);
      })
      (ap (λ (v : ViewRows). counted here i act.Ghost answer.Ghosted (record here.store { view = v }) [] here.definitions (log_after here i act.Ghost answer.Ghosted (Ghosts (place_of d) n ∷ []))) (sym (write_is (place_of d) (Some (zeros n)) p.view sorted.view)))

  -- ---- the account of a column

  pub account_is : (k : Place) (column : ℕ) → account_of here.store k column ≡ account_in p k column
  account_is k column = ap (λ (x : ℤ). record { committed = x; kept = λ j. increments k column (txn p j).kept })
      (ap (λ (db : Database). fresh db.schema db.rows k column) (committed_is p) ∙ fresh_is (schema p) (base p) k column (base_sorted p))

  pub allows_so : (d : GroupDelta) (column : ℕ) → T (allows p i d column) → IsAllowed (account_in p (place_of d) column) i (worth column d)
  unfolding over_sessions
  allows_so d column h =
      let a : Account = account_in p (place_of d) column in
      let b : Account = with_increment a i (worth column d) in
      let more = right_one (is_huge (inf_in b)) (is_huge (sup_in b) && is_huge (paid (worth column d ∷ a.kept i))) h in
      record {
        inf = in_range (inf_in b) (left_one (is_huge (inf_in b)) (is_huge (sup_in b) && is_huge (paid (worth column d ∷ a.kept i))) h);
        sup = in_range (sup_in b) (left_one (is_huge (sup_in b)) (is_huge (paid (worth column d ∷ a.kept i))) more);
        sum = in_range (paid (worth column d ∷ a.kept i)) (right_one (is_huge (sup_in b)) (is_huge (paid (worth column d ∷ a.kept i))) more);
      }

  pub locked_is : (wants : List Want) → now (locked here.store i wants) i ≡ record (txn p i) { locks = wants ++ (txn p i).locks }
  locked_is wants = ap (λ (o : Option Open). unwrap_or o idle) (one_same here.store.open_of i (Some (record (txn p i) { locks = wants ++ (txn p i).locks })) i refl)

  pub pays_by : T (owes p i) → (l : List GroupDelta) → (txn p i).owed ≡ l → T (pays_first p i l) → Step here i act.Pay (answer.Paid (length (rest l))) (state_of (after_pays p i l))
  pays_by o [] e h = absurd h
  pays_by o (d ∷ ds) e h =
      let enough : Bool = all_below (length (columns_of d)) (allows p i d) in
      let more = right_one (is_free p i (group_want d ∷ [])) (is_some (view_at d) && enough) h in
      let wants : List Want = first_want (txn p i).owed in
      let paid_as : List Want → ViewRows → Store = λ w v. record (locked here.store i w) { view = v; open_of = with_one (locked here.store i w).open_of i (Some (paid_txn (now (locked here.store i w) i) d ds)) } in
      step act.Pay (answer.Paid (length ds)) (Takes wants ∷ Pays ∷ []) (state_of (after_pays p i (d ∷ ds)))
      (owes_so o d ds e)
      (record {
        pays = record {
          free = subst (λ (l : List GroupDelta). IsFree here.store i (first_want l)) (sym e) (free (group_want d ∷ []) (left_one (is_free p i (group_want d ∷ [])) (is_some (view_at d) && enough) h));
          first = d;
          others = ds;
          owed_is = e;
        };
        there = ap is_some (get_is p.view (place_of d) sorted.view) ∙ is_true (is_some (view_at d)) (left_one (is_some (view_at d)) enough more);
        allowed = λ column l. subst (λ (a : Account). IsAllowed a i (worth column d)) (sym (account_is (place_of d) column)) (allows_so d column (below_so (length (columns_of d)) (allows p i d) column (right_one (is_some (view_at d)) enough more) l));
        left_is = refl;
        effects = refl;
      })
      (ap (λ (t : Store). counted here i act.Pay (answer.Paid (length ds)) t [] here.definitions (log_after here i act.Pay (answer.Paid (length ds)) (Takes wants ∷ Pays ∷ [])))
      (sym (ap (paid_first (locked here.store i wants) i (now (locked here.store i wants) i)) (ap (λ (t : Open). t.owed) (locked_is wants) ∙ e)
      ∙ (λ j. paid_as (first_want (e j)) (add_is d p.view sorted.view j)))))

  -- ---- UndoOne and End

  open_so : T (is_session i && is_some (p.of.store.open_of i)) → IsSession i × (here.store.open_of i ≡ Some (txn p i))
  open_so h = (session_is i (left_one (is_session i) (is_some (p.of.store.open_of i)) h), there_is (p.of.store.open_of i) idle (right_one (is_session i) (is_some (p.of.store.open_of i)) h))

  undoes_by : IsSession i → here.store.open_of i ≡ Some (txn p i) → (l : List KeptStep) → (txn p i).kept ≡ l → T (not (is_nil l)) → Step here i act.UndoOne (answer.Undone (length (rest l))) (state_of (after_undoes p i l))
  undoes_by is o [] e h = absurd h
  undoes_by is o (Put c ds ∷ ks) e h = step act.UndoOne (answer.Undone (length ks)) (Undoes ∷ []) (state_of (after_undoes p i (Put c ds ∷ ks)))
      (record { of_session = is; transaction = txn p i; is_open = o }, λ none. not_nil (Put c ds ∷ ks) tt (sym e ∙ none))
      (record { latest = Put c ds; earlier = ks; kept_is = e; left_is = refl; effects = refl })
      (ap (λ (t : Store). counted here i act.UndoOne (answer.Undone (length ks)) t [] here.definitions (log_after here i act.UndoOne (answer.Undone (length ks)) (Undoes ∷ [])))
      (sym (ap (undone here.store i (txn p i)) e
      ∙ ap (λ (m : Rows). record (undone here.store i (txn p i) (Put c ds ∷ ks)) { rows = m }) (write_is c.key c.before p.rows sorted.rows))))
  undoes_by is o (Pay d ∷ ks) e h = step act.UndoOne (answer.Undone (length ks)) (Undoes ∷ []) (state_of (after_undoes p i (Pay d ∷ ks)))
      (record { of_session = is; transaction = txn p i; is_open = o }, λ none. not_nil (Pay d ∷ ks) tt (sym e ∙ none))
      (record { latest = Pay d; earlier = ks; kept_is = e; left_is = refl; effects = refl })
      (ap (λ (t : Store). counted here i act.UndoOne (answer.Undone (length ks)) t [] here.definitions (log_after here i act.UndoOne (answer.Undone (length ks)) (Undoes ∷ [])))
      (sym (ap (undone here.store i (txn p i)) e
      ∙ ap (λ (v : ViewRows). record (undone here.store i (txn p i) (Pay d ∷ ks)) { view = v }) (add_is (negated d) p.view sorted.view))))

  pub undoes_so : T (test p i undoes) → Step here i act.UndoOne (said_of p i undoes) (state_of (after p i undoes))
  undoes_so h =
      let is_open : Bool = is_some (p.of.store.open_of i) in
      let more = right_one (is_session i) (is_open && not (is_nil (txn p i).kept)) h in
      undoes_by (session_is i (left_one (is_session i) (is_open && not (is_nil (txn p i).kept)) h)) (there_is (p.of.store.open_of i) idle (left_one is_open (not (is_nil (txn p i).kept)) more)) (txn p i).kept refl (right_one is_open (not (is_nil (txn p i).kept)) more)

  pub ends_so : T (test p i ends) → Step here i act.End answer.Ended (state_of (after p i ends))
  ends_so h =
      let is_open : Bool = is_some (p.of.store.open_of i) in
      let more = right_one (is_session i) (is_open && is_nil (txn p i).kept) h in
      step act.End answer.Ended (Ends ∷ []) (state_of (after p i ends)) (
        record {
          of_session = session_is i (left_one (is_session i) (is_open && is_nil (txn p i).kept) h);
          transaction = txn p i;
          is_open = there_is (p.of.store.open_of i) idle (left_one is_open (is_nil (txn p i).kept) more);
        },
        nil_is (txn p i).kept (right_one is_open (is_nil (txn p i).kept) more),
      )
      refl refl

  -- ---- Commit

  changed : (l : List RowChange) (es : List Effect) → T (not (is_nil l)) → es ≡ Commits ∷ [] → CommitsAs here.store i l (number_of p + 1) es
  changed [] es h e = absurd h
  changed (c ∷ cs) es h e = (ap (λ n. n + 1) number_is, e)

  pub commits_so : T (test p i commits) → Step here i act.Commit (answer.Committed (number_of p + 1)) (state_of (after p i commits))
  commits_so h =
      let some : Bool = not (is_nil (changes_of (txn p i).kept)) in
      step act.Commit (answer.Committed (number_of p + 1)) (Commits ∷ []) (state_of (after p i commits))
      (inl (ready (left_one (is_ready p i) some h)))
      (changed (changes_of (txn p i).kept) (Commits ∷ []) (right_one (is_ready p i) some h) refl)
      (ap (λ (l : List Entry). counted here i act.Commit (answer.Committed (number_of p + 1)) (record (with_txn here.store i None) { history = l }) [] here.definitions (log_after here i act.Commit (answer.Committed (number_of p + 1)) (Commits ∷ [])))
      (ap (λ n. p.history ++ record { number = n + 1; session = i; kept = entry_changes (txn p i).kept } ∷ []) number_is))

  left_may : (m : Mode) → (txn p i).mode ≡ m → T (goes_on p i) → (txn p i).owed ≡ [] → IsReady here.store i Serial ⊎ IsReady here.store i Snapshot
  left_may Serial e h o = inl (record { goes_on = going Serial h e; owes_nothing = o })
  left_may Snapshot e h o = inr (record { goes_on = going Snapshot h e; owes_nothing = o })

  pub leaves_so : T (test p i leaves) → Step here i act.Commit (answer.Committed (number_left p i)) (state_of (after p i leaves))
  leaves_so h =
      let none : Bool = is_nil (changes_of (txn p i).kept) in
      let more = right_one (goes_on p i) (is_nil (txn p i).owed && none) h in
      step act.Commit (answer.Committed (number_left p i)) (Ends ∷ []) (state_of (after p i leaves))
      (left_may (txn p i).mode refl (left_one (goes_on p i) (is_nil (txn p i).owed && none) h) (nil_is (txn p i).owed (left_one (is_nil (txn p i).owed) none more)))
      (subst (λ (l : List RowChange). CommitsAs here.store i l (number_left p i) (Ends ∷ [])) (sym (nil_is (changes_of (txn p i).kept) (right_one (is_nil (txn p i).owed) none more)))
      (ap (λ (n : ℕ). elim (txn p i).mode [ Serial ↦ n | Snapshot ↦ (txn p i).number ]) number_is, refl))
      refl
