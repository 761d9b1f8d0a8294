-- CREATE statements: one makes its object, or is refused by what is defined or since a session has a transaction.
use Rattle.std.specs.Prelude.{◌≡◌, ◌⊎◌, ℕ, ◌+◌, ◌≤◌, cond, Bool, true, not, ◌&&◌, ◌||◌, T, [], ◌∷◌, ◌++◌, is_some, Result, Ok, Err}
use mathlib.Core.Path.{refl, sym, ap, subst, ◌∙◌}
use mathlib.Core.Logic.{inl, inr}
use Rattle.iv_types.specs.declared.refusal.Refusal.{Refusal}
use Rattle.iv_types.specs.declared.refusal.Refusal.TheVariants.{NumberRange}
use Rattle.iv_types.specs.declared.refusal.EngineRefusal.TheVariants as refusal
use Rattle.iv_types.specs.Syntax.{StatementTree, create_table, create_index, create_view}
use Rattle.iv_meaning.specs.Schema.{Schema, Object, table, index, view}
use Rattle.iv_meaning.specs.Database.{Database}
use Rattle.iv_meaning.specs.Statement.{BoundTree, create, defines, Refused, Accepted, create_meaning}
use Rattle.iv_meaning.specs.Escrow.{IsSession}
use Rattle.iv_meaning.specs.View.{whole_view}
use Rattle.txn_machine.specs.Acts as act
use Rattle.txn_machine.specs.Answers as answer
use Rattle.txn_machine.specs.Answers.{Answer}
use Rattle.txn_machine.specs.Fresh.{made_of}
use Rattle.txn_machine.specs.Stored.{ViewRows, add_all}
use Rattle.txn_machine.specs.Store.{Store, committed, schema_of, with_entry, run, Defines}
use Rattle.txn_machine.specs.Ghosts.{the_views}
use Rattle.txn_machine.specs.Counts.{entry_size, definition_size}
use Rattle.txn_machine.specs.May.{IsCreate, IsWritten, MayAct}
use Rattle.txn_machine.specs.State.{State, counted}
use Rattle.txn_machine.specs.Steps.{bound_by, Step, NoneIsOpen, IsBusy, Makes, unbound, log_after, definitions_after}
use Rattle.txn_machine.proofs.Entered.{fold_push}
use Rattle.txn_machine.proofs.PlainStates.{Plain, state_of, schema, base, number_of, table_of, adds_in, made_in, is_made, is_session, all_below, fits_history}
use Rattle.txn_machine.proofs.Playing.{bound_in, denied_by, is_create, may_create, none_open, is_busy, makes_it, is_refused, is_creation, test, after_creates, after, left_by, creates, denies, finds_busy}
use Rattle.txn_machine.proofs.Tabled.{adds_are, made_is, whole_is, plain_db, committed_is, base_sorted}
use Rattle.txn_machine.proofs.Testing.{is_true, left_one, right_one, either, not_so, none_is_there, session_is, session_so, each_so, below_so}
use Rattle.txn_machine.proofs.MovesAlone.{Sorted, here, step, of_db, number_is, log_room, data_room, history_room}

create_is : (statement : StatementTree) → T (is_create statement) → IsCreate statement
create_is (create_table name columns primary) h = tt
create_is (create_index name of columns) h = tt
create_is (create_view name query) h = tt
create_is statement h = absurd h

-- no sum of it leaves the range
abbrev is_whole : Database → Object → Bool
is_whole db (view v) = is_some (whole_view db.schema db.rows v)
is_whole db o = true

accepted_so : (o : Object) (db : Database) → T (is_whole db o) → create_meaning o db ≡ Accepted [] 0 (defines o ∷ [])
accepted_so (table t) db h = refl
accepted_so (index i) db h = refl
accepted_so (view v) db h = ap (λ (b : Bool). cond b (Accepted [] 0 (defines (view v) ∷ [])) (Refused NumberRange)) (is_true (is_whole db (view v)) h)

made_whole : (p : Plain) (o : Object) → is_whole (plain_db p) o ≡ is_made (schema p) (base p) o
made_whole p (table t) = refl
made_whole p (index i) = refl
made_whole p (view v) = whole_is (schema p) (base p) v (base_sorted p)

module _ (p : Plain) (i : ℕ) (sorted : Sorted p) (session : i ≤ 64) (statement : StatementTree) (written : IsWritten statement) where
  abbrev s : State
  s = here p i sorted session

  may_so : T (may_create p i statement) → MayAct s.store i (act.Schema statement)
  may_so h =
      let none : Bool = not (is_some (p.of.store.open_of i)) in
      let more = right_one (is_session i) (none && is_create statement) h in
      (session_is i (left_one (is_session i) (none && is_create statement) h), none_is_there (p.of.store.open_of i) (left_one none (is_create statement) more), create_is statement (right_one none (is_create statement) more), written)

  makes_so : (o : Object) → bound_in p statement ≡ Ok (create o) → Makes s.store statement o
  makes_so o e = record { bound = of_db p i sorted session (λ db. bound_by db.schema statement ≡ Ok (create o)) e }

  none_is_open : T (none_open p) → NoneIsOpen s.store
  none_is_open h j is = none_is_there (p.of.store.open_of j) (each_so 64 (λ j. not (is_some (p.of.store.open_of j))) j h is.0 is.1)

  -- ---- it is made

  module _ (o : Object) where
    abbrev objects : Schema
    objects = schema p ++ o ∷ []

    schema_is : schema_of (with_entry s.store i (defines o ∷ [])) ≡ objects
    schema_is =
        ap (λ (db : Database). db.schema) (fold_push s.store.history (record { number = (committed s.store).number + 1; session = i; kept = defines o ∷ [] }) s.store.origin)
        ∙ ap (λ (db : Database). db.schema ++ o ∷ []) (committed_is p)

    view_is : table_of (adds_in (made_in objects p.rows o) p.view) ≡ add_all (table_of p.view) (made_of (schema_of (with_entry s.store i (defines o ∷ []))) (table_of p.rows) o)
    view_is =
        sym (adds_are (made_in objects p.rows o) p.view sorted.view)
        ∙ ap (add_all (table_of p.view)) (sym (made_is objects p.rows o sorted.rows) ∙ ap (λ (x : Schema). made_of x (table_of p.rows) o) (sym schema_is))

    abbrev stored_as : ℕ → ViewRows → Store
    stored_as n v = record s.store { history = p.history ++ record { number = n + 1; session = i; kept = defines o ∷ [] } ∷ []; view = v }

    store_is : stored_as (number_of p) (table_of (adds_in (made_in objects p.rows o) p.view)) ≡ run the_views s.store i (Defines o ∷ [])
    store_is = λ j. stored_as (number_is p i sorted session j) (view_is j)

  creates_by : (bound : Result BoundTree Refusal) → bound_in p statement ≡ bound → T (may_create p i statement) → T (none_open p) → T (makes_it p bound) → T (fits_history p (entry_size + definition_size statement))
      → Step s i (act.Schema statement) (answer.Committed (number_of p + 1)) (state_of (after_creates p i statement bound))
  creates_by (Ok (create o)) e may none made fits = step p i sorted session (act.Schema statement) (answer.Committed (number_of p + 1)) (Defines o ∷ []) (state_of (after_creates p i statement (Ok (create o))))
      (may_so may)
      (record {
        object = o;
        makes = makes_so o e;
        none_open = none_is_open none;
        accepted = (0, defines o ∷ [], of_db p i sorted session (λ db. create_meaning o db ≡ Accepted [] 0 (defines o ∷ [])) (accepted_so o (plain_db p) (subst T (sym (made_whole p o)) made)));
        log_room = log_room p i sorted session _;
        data_room = data_room p i sorted session _;
        room = history_room p i sorted session (λ db. entry_size + definition_size statement) fits;
        number_is = ap (λ n. n + 1) (number_is p i sorted session);
        effects = refl;
      })
      (ap (λ (t : Store). counted s i (act.Schema statement) (answer.Committed (number_of p + 1)) t [] (definitions_after s.definitions (act.Schema statement) (answer.Committed (number_of p + 1)))
      (log_after s i (act.Schema statement) (answer.Committed (number_of p + 1)) (Defines o ∷ []))) (store_is o))
  creates_by (Err why) e may none made fits = absurd made
  creates_by (Ok b) e may none made fits = absurd made

  pub creates_so : T (test p i (creates statement written)) → Step s i (act.Schema statement) (answer.Committed (number_of p + 1)) (state_of (after p i (creates statement written)))
  creates_so h =
      let bound : Result BoundTree Refusal = bound_in p statement in
      let fits : Bool = fits_history p (entry_size + definition_size statement) in
      let h1 = right_one (may_create p i statement) (none_open p && (makes_it p bound && fits)) h in
      let h2 = right_one (none_open p) (makes_it p bound && fits) h1 in
      creates_by bound refl (left_one (may_create p i statement) (none_open p && (makes_it p bound && fits)) h) (left_one (none_open p) (makes_it p bound && fits) h1) (left_one (makes_it p bound) fits h2) (right_one (makes_it p bound) fits h2)

  -- ---- it is refused

  denies_by : (bound : Result BoundTree Refusal) → bound_in p statement ≡ bound → T (may_create p i statement) → T (is_refused bound) → Step s i (act.Schema statement) (denied_by bound) (state_of (left_by p i (act.Schema statement) (denied_by bound) []))
  denies_by (Ok b) e may refused = absurd refused
  denies_by (Err why) e may refused = step p i sorted session (act.Schema statement) (answer.Denied why) [] (state_of (left_by p i (act.Schema statement) (answer.Denied why) []))
      (may_so may)
      (unbound (of_db p i sorted session (λ db. bound_by db.schema statement ≡ Err why) e), refl)
      refl

  pub denies_so : T (test p i (denies statement written)) → Step s i (act.Schema statement) (denied_by (bound_in p statement)) (state_of (after p i (denies statement written)))
  denies_so h =
      let refused : Bool = is_refused (bound_in p statement) in
      denies_by (bound_in p statement) refl (left_one (may_create p i statement) refused h) (right_one (may_create p i statement) refused h)

  module _ (busy : ℕ) where
    abbrev is_open : ℕ → Bool
    is_open k = is_some (p.of.store.open_of k)

    abbrev not_before : ℕ → Bool
    not_before k = not (is_session k) || not (is_open k)

    busy_is : T (is_busy p busy) → IsBusy s.store busy
    busy_is h =
        let more = right_one (is_session busy) (is_open busy && all_below busy not_before) h in
        record {
          of_session = session_is busy (left_one (is_session busy) (is_open busy && all_below busy not_before) h);
          is_open = is_true (is_open busy) (left_one (is_open busy) (all_below busy not_before) more);
          least = λ other is before. none_is_there (p.of.store.open_of other) (by other is (either (not (is_session other)) (not (is_open other)) (below_so busy not_before other (right_one (is_open busy) (all_below busy not_before) more) before)));
        }
      where
        by : (other : ℕ) → IsSession other → T (not (is_session other)) ⊎ T (not (is_open other)) → T (not (is_open other))
        by other is (inl n) = absurd (not_so (is_session other) n (session_so other is))
        by other is (inr n) = n

    busy_by : (bound : Result BoundTree Refusal) → bound_in p statement ≡ bound → T (may_create p i statement) → T (is_creation bound) → T (is_busy p busy)
        → Step s i (act.Schema statement) (answer.Refused (refusal.SchemaBusy busy)) (state_of (left_by p i (act.Schema statement) (answer.Refused (refusal.SchemaBusy busy)) []))
    busy_by (Ok (create o)) e may makes h = step p i sorted session (act.Schema statement) (answer.Refused (refusal.SchemaBusy busy)) [] (state_of (left_by p i (act.Schema statement) (answer.Refused (refusal.SchemaBusy busy)) []))
        (may_so may)
        (record { object = o; makes = makes_so o e; least = busy_is h }, refl)
        refl
    busy_by (Err why) e may makes h = absurd makes
    busy_by (Ok b) e may makes h = absurd makes

    pub finds_busy_so : T (test p i (finds_busy statement written busy)) → Step s i (act.Schema statement) (answer.Refused (refusal.SchemaBusy busy)) (state_of (after p i (finds_busy statement written busy)))
    finds_busy_so h =
        let bound : Result BoundTree Refusal = bound_in p statement in
        let more = right_one (may_create p i statement) (is_creation bound && is_busy p busy) h in
        busy_by bound refl (left_one (may_create p i statement) (is_creation bound && is_busy p busy) h) (left_one (is_creation bound) (is_busy p busy) more) (right_one (is_creation bound) (is_busy p busy) more)
