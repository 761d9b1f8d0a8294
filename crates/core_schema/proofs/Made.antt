-- What a CREATE statement makes of a core, and why it is refused.
use Rattle.std.specs.Prelude.{◌≡◌, ◌≢◌, ℕ, ◌+◌, ◌-◌, ◌^◌, ◌≤◌, min, List, [], ◌∷◌, ◌++◌, is_some, Option, None, Some, IsSome, IfOk, Result, Ok, Err}
use mathlib.Core.Path.{refl, sym, ap, subst, ◌∙◌}
use mathlib.Core.Logic.{inl, inr}
use Rattle.std.proofs.Common.{arith}
use Rattle.iv_types.specs.Maps.{Map}
use Rattle.iv_types.specs.Syntax.{StatementTree}
use Rattle.iv_types.specs.declared.catalog.Definition.{Definition}
use Rattle.iv_types.specs.declared.catalog.Definition.TheVariants.{Table, Index, View}
use Rattle.iv_types.specs.declared.lock.IndexEntry.{IndexEntry}
use Rattle.iv_types.specs.declared.refusal.Refusal.{Refusal}
use Rattle.iv_types.specs.declared.refusal.Refusal.TheVariants as refused
use Rattle.iv_types.specs.declared.refusal.EngineRefusal.TheVariants.{SchemaBusy, LogFull, DataFull, HistoryFull}
use Rattle.table_laws.proofs.Place.{place_cmp_total, place_cmp-IsAntisymmetric}
use Rattle.table_laws.proofs.Tables.{same_table}
use Rattle.iv_meaning.specs.Schema as schema
use Rattle.iv_meaning.specs.Schema.{Schema, Object}
use Rattle.iv_meaning.specs.Objects.{object_of, schema_of as schema_in, view_tree}
use Rattle.iv_meaning.specs.Binding.{bind}
use Rattle.iv_meaning.specs.Database.{Row, Database}
use Rattle.iv_meaning.specs.Escrow.{IsSession}
use Rattle.iv_meaning.specs.Statement.{BoundTree, create, defines, create_meaning, Accepted, Refused}
use Rattle.iv_meaning.specs.View.{whole_view}
use Rattle.query_laws.specs.Limited.{IsLimited}
use Rattle.query_laws.proofs.LimitedLemmas.{limited_law}
use Rattle.txn_machine.specs.Acts as act
use Rattle.txn_machine.specs.Answers as answer
use Rattle.txn_machine.specs.Counts.{entry_size, definition_size, most_of_history, told_need}
use Rattle.txn_machine.specs.Fresh.{fresh}
use Rattle.txn_machine.specs.Ghosts.{the_views}
use Rattle.txn_machine.specs.Keeping.{KeptStep, Open}
use Rattle.txn_machine.specs.Log.{definition_need}
use Rattle.txn_machine.specs.State.{State}
use Rattle.txn_machine.specs.Steps.{Makes, NoneIsOpen, IsBusy, IsDenied, unbound, refused as refused_then, FitsLog, IsLogFull, FitsData, IsDataFull, history_bytes, made_need}
use Rattle.txn_machine.specs.Store.{committed, schema_of, now}
use Rattle.txn_machine.specs.ViewLaws.{AreSound}
use Rattle.txn_machine.proofs.Creating.{creates_sound}
use Rattle.txn_machine.proofs.Looking.{view_laws}
use Rattle.txn_machine.proofs.Reached.{reached, may_define}
use Rattle.txn_machine.proofs.Runs as runs
use Rattle.txn_machine.proofs.Seats.{session_or, nobody_open}
use Rattle.txn_machine.proofs.Shapes.{stored_row_law}
use Rattle.txn_book.specs.Books.{IsBook, IsLeastOpen, total_bytes}
use Rattle.txn_book.specs.Holding as book
use Rattle.txn_book.specs.Opens.{open_at}
use Rattle.txn_book.specs.declared.open_table.Open.{Open as BookOpen}
use Rattle.txn_book.specs.declared.step.Answer.{Answer}
use Rattle.txn_book.specs.declared.step.Answer.TheVariants.{Denied}
use Rattle.data_store.specs.Contents.{contents_of}
use Rattle.data_defining.specs.Defining.{AreFirst, CanEvaluate, CanDefine}
use Rattle.core_state.specs.Stands.{Began, Told}
use Rattle.core_state.proofs.Unchanged.{unchanged_told}
use Rattle.core_state.specs.declared.state.CoreState.{CoreState}
use Rattle.core_state.proofs.Counted.{counted}
use Rattle.core_schema.specs.Making.{MayMake}

-- ---- who has a transaction open

none_same : (objects : Schema) (o : Option Open) (l : _) → book.IsSame objects None o l → o ≡ None
none_same objects None l h = refl
none_same objects (Some o) l h = absurd h

some_same : (objects : Schema) (a : Option BookOpen) (o : Option Open) (l : _) → book.IsSame objects a o l → IsSome a → IsSome o
some_same objects None o l h e = absurd (cc)
some_same objects (Some t) None l h e = absurd h
some_same objects (Some t) (Some o) l h e = refl

module _ {M : Type 0} (maps : M → ℕ → Map) (spare : M → ℕ → ℕ) (limit : M → Option ℕ) (core : CoreState M) (s : State) (i : ℕ) (h : Began maps spare limit core s i) where
  none_at : (j : ℕ) → IsSession j → open_at core.book.opens j ≡ None → s.store.open_of j ≡ None
  none_at j js e = none_same (schema_of s.store) (s.store.open_of j) (s.log.logged j) (subst (λ a. book.IsSame (schema_of s.store) a (s.store.open_of j) (s.log.logged j)) e (h.holds.book.txns j js))

  pub none_open : IsLeastOpen core.book.opens None → NoneIsOpen s.store
  none_open none j js = none_at j js (none j js.0 js.1)

  pub is_busy : (least : ℕ) → IsLeastOpen core.book.opens (Some least) → IsBusy s.store least
  is_busy least l = record {
    of_session = (l.0, l.1);
    is_open = some_same (schema_of s.store) (open_at core.book.opens least) (s.store.open_of least) (s.log.logged least) (h.holds.book.txns least (l.0, l.1)) l.2;
    least = λ other js lt. none_at other js (l.3 other js.0 lt);
  }

  -- ---- what is refused

  module _ (statement : StatementTree) where
    bound_here : (r : Result BoundTree Refusal) → bind (schema_in core.store.catalog) statement ≡ r → bind (schema_of s.store) statement ≡ r
    bound_here r e = ap (λ objects. bind objects statement) (sym h.holds.stored.objects) ∙ e

    pub makes_here : (bound : BoundTree) (o : Object) → bind (schema_in core.store.catalog) statement ≡ Ok bound → bound ≡ create o → Makes s.store statement o
    makes_here bound o e is = record { bound = bound_here (Ok bound) e ∙ ap Ok is }

    denied_told : (why : Refusal) → IsDenied s.store statement why → Told maps spare limit s i (act.Schema statement) (answer.Denied why) core
    denied_told why d = unchanged_told maps spare limit core s i (act.Schema statement) (answer.Denied why) h (d, refl) refl refl refl refl

    pub unbound_told : (why : Refusal) → bind (schema_in core.store.catalog) statement ≡ Err why → Told maps spare limit s i (act.Schema statement) (answer.Denied why) core
    unbound_told why e = denied_told why (unbound (bound_here (Err why) e))

    pub busy_told : (least : ℕ) (o : Object) → Makes s.store statement o → IsLeastOpen core.book.opens (Some least) → Told maps spare limit s i (act.Schema statement) (answer.Refused (SchemaBusy least)) core
    busy_told least o makes l = unchanged_told maps spare limit core s i (act.Schema statement) (answer.Refused (SchemaBusy least)) h (record { object = o; makes = makes; least = is_busy least l }, refl) refl refl refl refl

    pub refused_told : (why : Refusal) (o : Object) → Makes s.store statement o → NoneIsOpen s.store → create_meaning o (committed s.store) ≡ Refused why → Told maps spare limit s i (act.Schema statement) (answer.Denied why) core
    refused_told why o makes none e = denied_told why (refused_then o makes none e)

-- ---- where no transaction is open

view_accepted : (db : Database) (v : _) (rows : List Row) → whole_view db.schema db.rows v ≡ Some rows → create_meaning (schema.view v) db ≡ Accepted [] 0 (defines (schema.view v) ∷ [])
view_accepted db v rows e = ap (λ (x : Option (List Row)). Rattle.std.specs.Prelude.cond (is_some x) (Accepted [] 0 (defines (schema.view v) ∷ [])) (Refused refused.NumberRange)) e

module _ {M : Type 0} (maps : M → ℕ → Map) (spare : M → ℕ → ℕ) (limit : M → Option ℕ) (core : CoreState M) (s : State) (i : ℕ) (statement : StatementTree) (d : Definition) (m : MayMake maps spare limit s core i statement d) where
  abbrev o : Object
  o = object_of d

  abbrev h : Began maps spare limit core s i
  h = m.began

  none_kept : (j : ℕ) → (now s.store j).kept ≡ []
  none_kept j = runs.none_kept the_views fresh view_laws s.store j (elim (session_or j) [ inl js ↦ m.none j js | inr n ↦ nobody_open s h.reached j n ])

  -- no transaction changed a row
  pub rows_stay : s.store.rows ≡ (committed s.store).rows
  rows_stay = same_table place_cmp_total place_cmp-IsAntisymmetric s.store.rows (committed s.store).rows (λ q. (reached s h.reached).stored.others q (λ j js t. subst (λ (ks : List KeptStep). Rattle.table_laws.specs.Kept.Touches q (Rattle.txn_machine.specs.Keeping.changes_of ks)) (none_kept j) t))

  sound_then : AreSound (schema_of s.store) (committed s.store).rows
  sound_then = (reached s h.reached).sound

  pub can_evaluate : CanEvaluate core.store.catalog (maps core.store.tables) core.store.views o (contents_of s.store)
  can_evaluate = record {
    readable = record { held = h.holds.stored; stored = stored_row_law s h.reached };
    sound = subst (AreSound (schema_of s.store)) (sym rows_stay) sound_then;
    after = subst (AreSound (schema_of s.store ++ o ∷ [])) (sym rows_stay) (creates_sound (committed s.store) statement o sound_then m.makes.bound);
    limited = limited_law (committed s.store) (record { objects = sound_then.objects; rows = sound_then.rows }) (subst IsLimited h.holds.stored.objects h.holds.rooms.limited) statement o m.makes.bound;
  }

  -- what can be evaluated is accepted
  accepted_as : (x : Definition) (first : List IndexEntry) → AreFirst core.store.catalog (maps core.store.tables) (contents_of s.store) x first → create_meaning (object_of x) (committed s.store) ≡ Accepted [] 0 (defines (object_of x) ∷ [])
  accepted_as (Table t) first f = refl
  accepted_as (Index k) first f = refl
  accepted_as (View v) first f = view_accepted (committed s.store) (view_tree v) f.rows (ap (λ rows. whole_view (schema_of s.store) rows (view_tree v)) (sym rows_stay) ∙ f.whole)

  module _ (first : List IndexEntry) (first_are : AreFirst core.store.catalog (maps core.store.tables) (contents_of s.store) d first) where
    pub accepted : create_meaning o (committed s.store) ≡ Accepted [] 0 (defines o ∷ [])
    accepted = accepted_as d first first_are

    pub can_define : CanDefine core.store.catalog (maps core.store.tables) core.store.views d first (contents_of s.store)
    can_define = record {
      evaluated = can_evaluate;
      unkept = none_kept;
      in_range = λ v e group column. subst (λ rows. Rattle.iv_types.specs.Encoding.IsHuge (fresh (schema_of s.store ++ o ∷ []) rows (v.number, group) column)) (sym rows_stay)
          ((may_define s.store statement o (reached s h.reached) m.makes m.none 0 (defines o ∷ []) accepted).in_range (v.number, group) column);
      first = first_are;
    }

    pub log_full_told : (used kept need : ℕ) → need ≡ told_need (definition_need statement) → IsLogFull s (definition_need statement) used kept → Told maps spare limit s i (act.Schema statement) (answer.Refused (LogFull used kept need)) core
    log_full_told used kept need need_is full =
        unchanged_told maps spare limit core s i (act.Schema statement) (answer.Refused (LogFull used kept need)) h (
          record { object = o; makes = m.makes; none_open = m.none; accepted = (0, defines o ∷ [], accepted); need_is = need_is; full = full },
          refl,
        ) refl refl refl refl

    pub data_full_told : FitsLog s (definition_need statement) → (used need : ℕ) → need ≡ told_need (made_need s.store statement o) → IsDataFull s (made_need s.store statement o) used → Told maps spare limit s i (act.Schema statement) (answer.Refused (DataFull used need)) core
    data_full_told fits_log used need need_is full =
        unchanged_told maps spare limit core s i (act.Schema statement) (answer.Refused (DataFull used need)) h (
          record { object = o; makes = m.makes; none_open = m.none; accepted = (0, defines o ∷ [], accepted); log_room = fits_log; need_is = need_is; full = full },
          refl,
        ) refl refl refl refl

    pub full_told : FitsLog s (definition_need statement) → FitsData s (made_need s.store statement o) → IsBook core.book → (kept need : ℕ) → kept ≡ total_bytes core.book → need ≡ min (entry_size + definition_size statement) (2 ^ 64 - 1) → (kept + need ≤ most_of_history → ⊥)
        → Told maps spare limit s i (act.Schema statement) (answer.Refused (HistoryFull kept need)) core
    full_told fits_log fits_data good kept need kept_is need_is full =
        let counts : total_bytes core.book ≡ history_bytes s = counted maps spare limit core s i h good in
        unchanged_told maps spare limit core s i (act.Schema statement) (answer.Refused (HistoryFull kept need)) h (
          record {
            object = o;
            makes = m.makes;
            none_open = m.none;
            accepted = (0, defines o ∷ [], accepted);
            log_room = fits_log;
            data_room = fits_data;
            need_is = need_is;
            full = record { kept_is = kept_is ∙ counts; full = omega (arith, full, need_is, kept_is, counts) };
          },
          refl,
        ) refl refl refl refl

-- what is told of a statement that is refused for what it means holds of its answer
pub denied_as : {E : Type 0} (why : Refusal) (r : Result Answer E) (P : Answer → Type 0) → IfOk r (λ said. (said ≡ Denied why) × (why ≢ refused.NoMemory)) → ((why ≡ refused.NoMemory → ⊥) → P (Denied why)) → IfOk r P
denied_as why (Ok said) P (e, other) h = subst P (sym e) (h other)
denied_as why (Err error) P d h = tt
