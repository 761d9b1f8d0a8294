-- A CREATE statement is bound to an object or refused, some session has a transaction open or none has, and there is room or not.
use Rattle.std.specs.Prelude.{◌≡◌, ◌⊎◌, ℕ, ◌+◌, ◌≤◌, ◌<◌, Bool, true, false, List, [], ◌∷◌, map, Option, Some, None, IsSome, is_some, Result, Ok, Err, if◌then◌else◌}
use Rattle.std.specs.List.{AllByRecursion, list_any}
use mathlib.Core.Path.{refl, sym, ap, ◌∙◌}
use mathlib.Core.Logic.{inl, inr}
use Rattle.iv_types.specs.declared.refusal.Refusal.{Refusal}
use Rattle.iv_types.specs.declared.refusal.Refusal.TheVariants.{NumberRange}
use Rattle.iv_types.specs.declared.refusal.EngineRefusal.TheVariants as refusal
use Rattle.iv_types.specs.declared.catalog.TableDef.{TableDef}
use Rattle.iv_types.specs.Syntax.{StatementTree, create_table, create_index, create_view}
use Rattle.iv_meaning.specs.Schema.{Schema, Object, ViewTree, table, index, view, as_table, as_index, as_view}
use Rattle.iv_meaning.specs.Database.{Database}
use Rattle.iv_meaning.specs.Resolving as resolving
use Rattle.iv_meaning.specs.Resolving.{Joined, Resolved}
use Rattle.iv_meaning.specs.Tests.{tests}
use Rattle.iv_meaning.specs.View.{whole_view}
use Rattle.iv_meaning.specs.Statement as statement
use Rattle.iv_meaning.specs.Statement.{Kept, defines, Meaning, Refused, Accepted, BoundTree, create, create_meaning, bound_meaning}
use Rattle.iv_meaning.specs.Binding.{bind, bound_of, made_view}
use Rattle.query_laws.proofs.Bound.{AreAlike, IsPassed, is_bound}
use Rattle.query_laws.proofs.SoundLemmas.{neither}
use Rattle.txn_machine.specs.Acts as act
use Rattle.txn_machine.specs.Answers as answer
use Rattle.txn_machine.specs.Store.{Store, committed, schema_of, Defines}
use Rattle.txn_machine.specs.Counts.{entry_size, definition_size, most_of_history, told_need}
use Rattle.txn_machine.specs.Log.{Within, Above, reserved, definition_need}
use Rattle.txn_machine.specs.State.{State}
use Rattle.txn_machine.specs.May.{IsCreate}
use Rattle.txn_machine.specs.Steps.{NoneIsOpen, IsBusy, Makes, made_need, FitsLog, FitsData, unbound, refused, used_data, history_bytes}
use Rattle.machine_answers.proofs.Saying.{HasAnswer}
use Rattle.machine_answers.proofs.Choosing.{at_most_or_more, within_or_above, there_or_not, least_or_none}

-- ---- what it is bound to

-- what a view's query begins with is a table
first_there : (o : Object) → is_some (as_index o) ≡ false → is_some (as_view o) ≡ false → (t : TableDef) × (as_table o ≡ Some t)
first_there (table t) no_index no_view = (t, refl)
first_there (index i) no_index no_view = absurd (cc)
first_there (view v) no_index no_view = absurd (cc)

bound_create : (objects : Schema) (s : StatementTree) (to : Resolved) (size : ℕ) → IsCreate s → AreAlike s to → AllByRecursion IsPassed (tests objects size to) → (o : Object) × (bound_of objects to ≡ create o)
bound_create objects (create_table name columns primary) (resolving.table n cs ps) size is alike passed = (_, refl)
bound_create objects (create_index name target columns) (resolving.index n o cs) size is alike passed = (_, refl)
bound_create objects (create_view name query) (resolving.view n q) size is alike passed =
    let more : List Object = map (λ (j : Joined). j.object) q.joins in
    let no_index = (neither (is_some (as_index q.first)) (list_any (λ o. is_some (as_index o)) more) passed.1.0).0 in
    let no_view = (neither (is_some (as_view q.first)) (list_any (λ o. is_some (as_view o)) more) passed.1.1.1.1.1.1.1.0).0 in
    let first = first_there q.first no_index no_view in
    (made_view objects n q first.0, ap (λ (f : Option TableDef). elim f [ None ↦ statement.control | Some t ↦ create (made_view objects n q t) ]) first.1)
bound_create objects (create_table name columns primary) _ size is alike passed = absurd alike
bound_create objects (create_index name target columns) _ size is alike passed = absurd alike
bound_create objects (create_view name query) _ size is alike passed = absurd alike
bound_create objects _ to size is alike passed = absurd is

pub creates : (objects : Schema) (s : StatementTree) (what : BoundTree) → IsCreate s → bind objects s ≡ Ok what → (o : Object) × (what ≡ create o)
creates objects s what is e =
    let b = is_bound objects s what e in
    let o = bound_create objects s b.to b.size is b.alike b.passed in
    (o.0, sym b.made ∙ o.1)

-- what it means

-- of a view it is a refusal or the view
abbrev made_or_not : ViewTree → Bool → Meaning
made_or_not v readable = if readable then Accepted [] 0 (defines (view v) ∷ []) else Refused NumberRange

abbrev IsMeant : Meaning → Type 0
IsMeant m = ((count : ℕ) × (kept : List Kept) × (m ≡ Accepted [] count kept)) ⊎ ((why : Refusal) × (m ≡ Refused why))

view_means : (v : ViewTree) (readable : Bool) → IsMeant (made_or_not v readable)
view_means v true = inl (0, defines (view v) ∷ [], refl)
view_means v false = inr (NumberRange, refl)

means : (o : Object) (db : Database) → IsMeant (create_meaning o db)
means (table t) db = inl (0, defines (table t) ∷ [], refl)
means (index i) db = inl (0, defines (index i) ∷ [], refl)
means (view v) db = view_means v (is_some (whole_view db.schema db.rows v))

-- ---- who is busy

nothing_there : {X : Type 0} (o : Option X) → (IsSome o → ⊥) → o ≡ None
nothing_there None lacks = refl
nothing_there (Some x) lacks = absurd (lacks refl)

busy_or_none : (s : Store) → ((session : ℕ) × IsBusy s session) ⊎ NoneIsOpen s
busy_or_none s = elim (least_or_none (λ n. IsSome (s.open_of n)) (λ n. there_or_not (s.open_of n)) 64) [
  | inl l ↦ inl (
    l.number,
    record {
      of_session = (l.first, l.last);
      is_open = l.has;
      least = λ other is less. nothing_there (s.open_of other) (l.least other is.0 less);
    },
  )
  | inr none ↦ inr (λ session is. nothing_there (s.open_of session) (none session is.0 is.1))
]

-- ---- Schema

module _ (s : State) (session : ℕ) (statement : StatementTree) where
  module _ (object : Object) (makes : Makes s.store statement object) (none : NoneIsOpen s.store)
      (accepted : (count : ℕ) × (kept : List Kept) × (bound_meaning (create object) (committed s.store) ≡ Accepted [] count kept)) where
    in_history : FitsLog s (definition_need statement) → FitsData s (made_need s.store statement object)
        → (history_bytes s + (entry_size + definition_size statement) ≤ most_of_history) ⊎ (most_of_history < history_bytes s + (entry_size + definition_size statement)) → HasAnswer s session (act.Schema statement)
    in_history log_room data_room (inl fits) = record {
      said = answer.Committed ((committed s.store).number + 1);
      effects = Defines object ∷ [];
      of_state = tt;
      says = record { object = object; makes = makes; none_open = none; accepted = accepted; log_room = log_room; data_room = data_room; room = fits; number_is = refl; effects = refl };
    }
    in_history log_room data_room (inr full) = record {
      said = answer.Refused (refusal.HistoryFull (history_bytes s) (told_need (entry_size + definition_size statement)));
      effects = [];
      of_state = tt;
      says = (record { object = object; makes = makes; none_open = none; accepted = accepted; log_room = log_room; data_room = data_room; need_is = refl; full = record { kept_is = refl; full = full } }, refl);
    }

    in_data : FitsLog s (definition_need statement)
        → Within s.opening.data_limit (used_data s + made_need s.store statement object) ⊎ Above s.opening.data_limit (used_data s + made_need s.store statement object) → HasAnswer s session (act.Schema statement)
    in_data log_room (inl fits) = in_history log_room fits (at_most_or_more (history_bytes s + (entry_size + definition_size statement)) most_of_history)
    in_data log_room (inr full) = record {
      said = answer.Refused (refusal.DataFull (used_data s) (told_need (made_need s.store statement object)));
      effects = [];
      of_state = tt;
      says = (record { object = object; makes = makes; none_open = none; accepted = accepted; log_room = log_room; need_is = refl; full = record { used_is = refl; full = full } }, refl);
    }

    in_log : HasAnswer s session (act.Schema statement)
    in_log = elim (within_or_above s.opening.log_limit (s.log.used + reserved s.store s.log + definition_need statement)) [
      | inl fits ↦ in_data fits (within_or_above s.opening.data_limit (used_data s + made_need s.store statement object))
      | inr full ↦ record {
        said = answer.Refused (refusal.LogFull s.log.used (reserved s.store s.log) (told_need (definition_need statement)));
        effects = [];
        of_state = tt;
        says = (record { object = object; makes = makes; none_open = none; accepted = accepted; need_is = refl; full = record { used_is = refl; reserved_is = refl; full = full } }, refl);
      }
    ]

  made : (object : Object) → Makes s.store statement object → HasAnswer s session (act.Schema statement)
  made object makes = elim (busy_or_none s.store) [
    | inl (busy, is) ↦ record { said = answer.Refused (refusal.SchemaBusy busy); effects = []; of_state = tt; says = (record { object = object; makes = makes; least = is }, refl) }
    | inr none ↦ elim (means object (committed s.store)) [
      | inl accepted ↦ in_log object makes none accepted
      | inr (why, e) ↦ record { said = answer.Denied why; effects = []; of_state = tt; says = (refused object makes none e, refl) }
    ]
  ]

  pub defines_it : IsCreate statement → HasAnswer s session (act.Schema statement)
  defines_it is = by (bind (schema_of s.store) statement) refl
    where
      by : (b : Result BoundTree Refusal) → bind (schema_of s.store) statement ≡ b → HasAnswer s session (act.Schema statement)
      by (Err why) e = record { said = answer.Denied why; effects = []; of_state = tt; says = (unbound e, refl) }
      by (Ok what) e =
          let o = creates (schema_of s.store) statement what is e in
          made o.0 (record { bound = e ∙ ap (λ (b : BoundTree). Ok b) o.1 })
