-- The object that a CREATE statement makes has a name that no other has.
use Rattle.std.specs.Prelude.{◌≡◌, ℕ, ◌<◌, Bool, true, false, cond, List, [], ◌∷◌, length, map, is_some, Option, Some, None, Result, Ok, Err}
use mathlib.Core.Path.{refl, sym, ap, subst, ◌∙◌}
use Rattle.iv_types.specs.declared.refusal.Refusal.{Refusal}
use Rattle.iv_types.specs.declared.refusal.Refusal.TheVariants.{NameTaken, WrongType}
use Rattle.iv_types.specs.Printing.{statement_size}
use Rattle.iv_types.specs.Syntax as s
use Rattle.iv_types.specs.Syntax.{StatementTree}
use Rattle.iv_types.specs.declared.catalog.TableDef.{TableDef}
use Rattle.iv_meaning.specs.Schema.{Schema, Object, named, name_of, as_table, object_columns}
use Rattle.iv_meaning.specs.Resolving.{ResolvedQuery, and_then, each, place_of, scope_of_one, known, fresh, new_object, query_resolved, Resolved, table, index, view, resolved}
use Rattle.iv_meaning.specs.Types.{well_typed}
use Rattle.iv_meaning.specs.Tests.{tests}
use Rattle.iv_meaning.specs.Binding.{bound_of, checked, bind, made_view}
use Rattle.iv_meaning.specs.Statement as statement
use Rattle.query_laws.proofs.Bound.{went_on, ok_same, passing_all}
use Rattle.query_laws.proofs.CreatingLemmas.{of_create}
use Rattle.txn_machine.specs.May.{IsCreate}

free_name : (objects : Schema) (name new : List ℕ) → new_object objects name ≡ Ok new → named objects name ≡ None
free_name objects name new e = by (named objects name) e
  where
    by : (x : Option Object) → cond (is_some x) (Err (NameTaken name)) (Ok name) ≡ Ok new → x ≡ None
    by None f = refl
    by (Some o) f = absurd (cc)

-- a statement goes on by what it is resolved to
made_by : (objects : Schema) (what : StatementTree) (o : Object) → bind objects what ≡ Ok (statement.create o) → (to : Resolved) × (resolved objects what ≡ Ok to) × (bound_of objects to ≡ statement.create o)
made_by objects what o e =
    let r = went_on (resolved objects what) (checked objects (statement_size what)) (statement.create o) e in
    (r.0, r.1, (passing_all ((Rattle.std.specs.Prelude.not (well_typed objects r.0), WrongType) ∷ tests objects (statement_size what) r.0) (bound_of objects r.0) (statement.create o) r.2).1)

view_name : (objects : Schema) (name : List ℕ) (q : ResolvedQuery) (f : Option TableDef) (o : Object) → elim f [ None ↦ statement.control | Some first ↦ statement.create (made_view objects name q first) ] ≡ statement.create o → name_of o ≡ name
view_name objects name q None o e = absurd (cc)
view_name objects name q (Some first) o e = ap name_of (sym (of_create (made_view objects name q first) o e))

pub name_is_free : (objects : Schema) (what : StatementTree) (o : Object) → IsCreate what → bind objects what ≡ Ok (statement.create o) → named objects (name_of o) ≡ None
name_is_free objects (s.create_table name columns primary) o is e =
    let m = made_by objects (s.create_table name columns primary) o e in
    let names : List (List ℕ) = map (λ c. c.name) columns in
    let places = each (place_of (scope_of_one name names)) primary in
    let a = went_on (new_object objects name) (λ new. and_then (fresh [] names) (λ distinct. and_then places (λ ps. Ok (table name columns ps)))) m.0 m.1 in
    let b = went_on (fresh [] names) (λ distinct. and_then places (λ ps. Ok (table name columns ps))) m.0 a.2 in
    let c = went_on places (λ ps. Ok (table name columns ps)) m.0 b.2 in
    let to : bound_of objects (table name columns c.0) ≡ statement.create o = ap (bound_of objects) (ok_same (table name columns c.0) m.0 c.2) ∙ m.2 in
    let name_then : name_of o ≡ name = ap name_of (sym (of_create _ o to)) in
    subst (λ n. named objects n ≡ None) (sym name_then) (free_name objects name a.0 a.1)
name_is_free objects (s.create_index name target columns) o is e =
    let m = made_by objects (s.create_index name target columns) o e in
    let Places : Object → Result (List ℕ) Refusal = λ object. each (place_of (scope_of_one target (object_columns object))) columns in
    let a = went_on (new_object objects name) (λ new. and_then (known objects target) (λ object. and_then (Places object) (λ ps. Ok (index name object ps)))) m.0 m.1 in
    let b = went_on (known objects target) (λ object. and_then (Places object) (λ ps. Ok (index name object ps))) m.0 a.2 in
    let c = went_on (Places b.0) (λ ps. Ok (index name b.0 ps)) m.0 b.2 in
    let to : bound_of objects (index name b.0 c.0) ≡ statement.create o = ap (bound_of objects) (ok_same (index name b.0 c.0) m.0 c.2) ∙ m.2 in
    let name_then : name_of o ≡ name = ap name_of (sym (of_create _ o to)) in
    subst (λ n. named objects n ≡ None) (sym name_then) (free_name objects name a.0 a.1)
name_is_free objects (s.create_view name query) o is e =
    let m = made_by objects (s.create_view name query) o e in
    let a = went_on (new_object objects name) (λ new. and_then (query_resolved true objects query) (λ q. Ok (view name q))) m.0 m.1 in
    let b = went_on (query_resolved true objects query) (λ q. Ok (view name q)) m.0 a.2 in
    let to : bound_of objects (view name b.0) ≡ statement.create o = ap (bound_of objects) (ok_same (view name b.0) m.0 b.2) ∙ m.2 in
    subst (λ n. named objects n ≡ None) (sym (view_name objects name b.0 (as_table b.0.first) o to)) (free_name objects name a.0 a.1)
name_is_free objects _ o is e = absurd is
