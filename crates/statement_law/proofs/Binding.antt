-- What a bound INSERT, UPDATE or DELETE is of: a table of the database, whose rows it makes as they should be.
use Rattle.std.specs.Prelude.{◌≡◌, ℕ, zero, suc, ◌+◌, ◌==◌, ◌&&◌, not, is_some, Bool, true, false, cond, List, [], ◌∷◌, map, length, slice_get, Option, Some, None, Ok}
use Rattle.std.specs.List.{AllByRecursion, list_all, list_any, cons_option}
use Rattle.std.specs.Option.{option_and_then}
use mathlib.Core.Path.{refl, sym, ap, subst, ◌∙◌}
use Rattle.std.proofs.Common.{arith, eqb-true}
use Rattle.std.proofs.lemmas.List.{length-map}
use Rattle.iv_types.specs.declared.value.Kind.{Kind}
use Rattle.iv_types.specs.declared.value.Value.{Value}
use Rattle.iv_types.specs.declared.statement.ColumnDef.{ColumnDef}
use Rattle.iv_types.specs.declared.statement.Order.{Order}
use Rattle.iv_types.specs.declared.catalog.TableDef.{TableDef}
use Rattle.iv_types.specs.Encoding.{kinds_of, FitAll, Fits, key_bytes, fits}
use Rattle.iv_types.specs.Syntax as tree
use Rattle.iv_types.specs.Syntax.{Tree, StatementTree, QueryTree}
use Rattle.iv_meaning.specs.Schema.{Schema, Object, table, index, view, numbered, column_names, object_columns, items_at, key_kinds, as_table, primary_of}
use Rattle.iv_meaning.specs.Database.{Row, Database, key_of}
use Rattle.iv_meaning.specs.Shape.{object_number}
use Rattle.iv_meaning.specs.Values.{meaning, value_of}
use Rattle.iv_meaning.specs.Grouping.{all_of}
use Rattle.iv_meaning.specs.Statement as statement
use Rattle.iv_meaning.specs.Statement.{BoundTree, BoundSet, if_fitting, stored, tuple_values, tuple_rows, column_after, columns_after, row_after}
use Rattle.iv_meaning.specs.Query.{BoundQuery}
use Rattle.iv_meaning.specs.Resolving as resolving
use Rattle.iv_meaning.specs.Resolving.{Resolved}
use Rattle.iv_meaning.specs.Tests.{tests}
use Rattle.iv_meaning.specs.Binding.{bind, bound_of, made_view}
use Rattle.iv_meaning.specs.Sound.{IsSound}
use Rattle.script_law.specs.Works.{is_work}
use Rattle.query_laws.proofs.WholeViews.{all_of_cons}
use Rattle.query_laws.proofs.Bound.{IsThere, AreAlike, IsResolved, IsPassed, is_bound}
use Rattle.query_laws.proofs.SoundLemmas.{named_numbered, neither}
use Rattle.query_laws.proofs.Each.{each_to}
use Rattle.statement_law.proofs.Each.{paired}

-- ---- the table

-- the number is that of a table
pub record IsTarget (db : Database) (number : ℕ) : Type 0 where
  pub of : TableDef
  pub number_is : of.number ≡ number
  pub there : numbered db.schema of.number ≡ Some (table of)

target_is : (db : Database) → IsSound db → (o : Object) → IsThere db.schema o → not (is_some (as_table o)) ≡ false → IsTarget db (object_number o)
target_is db sound (index i) there h = absurd (cc)
target_is db sound (view v) there h = absurd (cc)
target_is db sound (table t) there h = record { of = t; number_is = refl; there = named_numbered db sound there.0 (table t) there.1 }

-- ---- INSERT

left_is : (a b : Bool) → a ≡ true → a && not b ≡ false → b ≡ true
left_is true true e h = refl
left_is true false e h = absurd (cc)
left_is false b e h = absurd (cc)

not_not : (b : Bool) → not b ≡ false → b ≡ true
not_not true e = refl
not_not false e = absurd (cc)

both_of : (a b : Bool) → a && b ≡ true → (a ≡ true) × (b ≡ true)
both_of true b e = (refl, e)
both_of false b e = absurd (cc)

-- what is stored fits its column
stored_fits : (kind : Kind) (v : Option Value) (w : Value) → option_and_then (if_fitting kind) v ≡ Some w → Fits kind w
stored_fits kind None w e = absurd (cc)
stored_fits kind (Some v) w e = by (fits kind v) refl e
  where
    by : (b : Bool) → fits kind v ≡ b → cond b (Some v) None ≡ Some w → Fits kind w
    by true f x = let same : v ≡ w = cc in subst (Fits kind) same f
    by false f x = absurd (cc)

tuple_fits : (kinds : List Kind) (es : List Tree) (row : Row) → length es ≡ length kinds → all_of (tuple_values kinds es) ≡ Some row → FitAll kinds row
tuple_fits [] es row l e = let none : [] ≡ row = cc in subst (FitAll []) none tt
tuple_fits (kind ∷ kinds) [] row l e = absurd (omega (arith, l))
tuple_fits (kind ∷ kinds) (x ∷ es) row l e =
    let parts = all_of_cons (stored kind (meaning x [])) (tuple_values kinds es) row e in
    subst (FitAll (kind ∷ kinds)) (sym parts.4) (stored_fits kind (value_of (meaning x [])) parts.0 parts.2, tuple_fits kinds es parts.1 (omega (arith, l)) parts.3)

-- the rows of tuples of the right length fit
pub tuples_fit : (t : TableDef) (tuples : List (List Tree)) → list_all (λ tuple. length tuple == length (column_names t)) tuples ≡ true → (rows : List Row) → tuple_rows t tuples ≡ Some rows
    → AllByRecursion (FitAll (kinds_of t)) rows
tuples_fit t [] h rows e = let none : [] ≡ rows = cc in subst (AllByRecursion (FitAll (kinds_of t))) none tt
tuples_fit t (tuple ∷ tuples) h rows e =
    let parts = all_of_cons (all_of (tuple_values (kinds_of t) tuple)) (map (λ tuple. all_of (tuple_values (kinds_of t) tuple)) tuples) rows e in
    let long = both_of (length tuple == length (column_names t)) (list_all (λ tuple. length tuple == length (column_names t)) tuples) h in
    let same : length tuple ≡ length (kinds_of t) =
    eqb-true (length tuple) (length (column_names t)) long.0 ∙ (length-map t.columns (λ (c : ColumnDef). c.name) ∙ sym (length-map t.columns (λ (c : ColumnDef). c.kind))) in
    subst (AllByRecursion (FitAll (kinds_of t))) (sym parts.4) (tuple_fits (kinds_of t) tuple parts.0 same parts.2, tuples_fit t tuples long.1 parts.1 parts.3)

-- a bound INSERT
pub record IsInsert (db : Database) (number : ℕ) (tuples : List (List Tree)) : Type 0 where
  pub target : IsTarget db number
  pub long : list_all (λ tuple. length tuple == length (column_names target.of)) tuples ≡ true

insert_is : (db : Database) → IsSound db → (o : Object) (tuples : List (List Tree)) → IsThere db.schema o → (is_some (as_table o) && not (list_all (λ tuple. length tuple == length (object_columns o)) tuples)) ≡ false
    → not (is_some (as_table o)) ≡ false → IsInsert db (object_number o) tuples
insert_is db sound (index i) tuples there long h = absurd (cc)
insert_is db sound (view v) tuples there long h = absurd (cc)
insert_is db sound (table t) tuples there long h =
    record { target = record { of = t; number_is = refl; there = named_numbered db sound there.0 (table t) there.1 }; long = left_is true (list_all (λ (tuple : List Tree). length tuple == length (column_names t)) tuples) refl long }

-- ---- UPDATE

none_of : {X : Type 0} (test : X → Bool) (xs : List X) → list_any test xs ≡ false → AllByRecursion (λ x. test x ≡ false) xs
none_of test [] h = tt
none_of test (x ∷ xs) h = let both = neither (test x) (list_any test xs) h in (both.0, none_of test xs both.1)

each_none : {X : Type 0} (ys : List X) → AllByRecursion (λ y. Unit {0}) ys
each_none [] = tt
each_none (y ∷ ys) = (tt, each_none ys)

-- what holds of each of some with each of others holds the other way round
swapped : {X Y : Type 0} (P : X → Y → Type 0) (xs : List X) (ys : List Y) → AllByRecursion (λ x. AllByRecursion (P x) ys) xs → AllByRecursion (λ y. AllByRecursion (λ x. P x y) xs) ys
swapped P [] ys h = each_none ys
swapped P (x ∷ xs) ys h = paired (P x) (λ y. AllByRecursion (λ z. P z y) xs) ys h.0 (swapped P xs ys h.1)

-- no assignment sets this column
abbrev pub SetsNot : List BoundSet → ℕ → Type 0
SetsNot ss column = AllByRecursion (λ (s : BoundSet). (s.column == column) ≡ false) ss

turned : (a b : ℕ) → (a == b) ≡ false → (b == a) ≡ false
turned a b e = grind (arith, e)

column_kept : (ss : List BoundSet) (row : Row) (kind : Kind) (column : ℕ) (old : Value) → SetsNot ss column → column_after ss row kind column old ≡ Some old
column_kept [] row kind column old h = refl
column_kept (s ∷ ss) row kind column old h =
    ap (λ b. cond b (stored kind (meaning s.value (row ∷ []))) (column_after ss row kind column old)) h.0 ∙ column_kept ss row kind column old h.1

-- a column that is not set keeps its value
get_kept : (ss : List BoundSet) (row : Row) (kinds : List Kind) (column : ℕ) (values after : Row) → FitAll kinds values → all_of (columns_after ss row kinds column values) ≡ Some after
    → (place : ℕ) → SetsNot ss (column + place) → slice_get after place ≡ slice_get values place
get_kept ss row [] column [] after f e place h = let none : [] ≡ after = cc in ap (λ (l : Row). slice_get l place) (sym none)
get_kept ss row [] column (v ∷ vs) after f e place h = absurd f
get_kept ss row (k ∷ ks) column [] after f e place h = absurd f
get_kept ss row (k ∷ ks) column (v ∷ vs) after f e zero h =
    let parts = all_of_cons (column_after ss row k column v) (columns_after ss row ks (column + 1) vs) after e in
    let at : column + 0 ≡ column = omega arith in
    ap (λ (l : Row). slice_get l 0) parts.4 ∙ (sym parts.2 ∙ column_kept ss row k column v (subst (SetsNot ss) at h))
get_kept ss row (k ∷ ks) column (v ∷ vs) after f e (suc place) h =
    let parts = all_of_cons (column_after ss row k column v) (columns_after ss row ks (column + 1) vs) after e in
    let at : column + suc place ≡ (column + 1) + place = omega arith in
    ap (λ (l : Row). slice_get l (suc place)) parts.4 ∙ get_kept ss row ks (column + 1) vs parts.1 f.1 parts.3 place (subst (SetsNot ss) at h)

items_same : (a b : Row) (places : List ℕ) → AllByRecursion (λ p. slice_get a p ≡ slice_get b p) places → items_at a places ≡ items_at b places
items_same a b [] h = refl
items_same a b (p ∷ places) h = λ i. cons_option (h.0 i) (items_same a b places h.1 i)

-- the new row fits
column_fits : (ss : List BoundSet) (row : Row) (kind : Kind) (column : ℕ) (old new : Value) → Fits kind old → column_after ss row kind column old ≡ Some new → Fits kind new
column_fits [] row kind column old new f e = let same : old ≡ new = cc in subst (Fits kind) same f
column_fits (s ∷ ss) row kind column old new f e = by (s.column == column) e (column_fits ss row kind column old new f)
  where
    by : (b : Bool) → cond b (stored kind (meaning s.value (row ∷ []))) (column_after ss row kind column old) ≡ Some new → (column_after ss row kind column old ≡ Some new → Fits kind new) → Fits kind new
    by true x rest = stored_fits kind (value_of (meaning s.value (row ∷ []))) new x
    by false x rest = rest x

columns_fit : (ss : List BoundSet) (row : Row) (kinds : List Kind) (column : ℕ) (values after : Row) → FitAll kinds values → all_of (columns_after ss row kinds column values) ≡ Some after → FitAll kinds after
columns_fit ss row [] column [] after f e = let none : [] ≡ after = cc in subst (FitAll []) none tt
columns_fit ss row [] column (v ∷ vs) after f e = absurd f
columns_fit ss row (k ∷ ks) column [] after f e = absurd f
columns_fit ss row (k ∷ ks) column (v ∷ vs) after f e =
    let parts = all_of_cons (column_after ss row k column v) (columns_after ss row ks (column + 1) vs) after e in
    subst (FitAll (k ∷ ks)) (sym parts.4) (column_fits ss row k column v parts.0 f.0 parts.2, columns_fit ss row ks (column + 1) vs parts.1 f.1 parts.3)

-- a row that is set fits and keeps its key
pub row_after_fits : (t : TableDef) (ss : List BoundSet) → AllByRecursion (SetsNot ss) t.primary → (row after : Row) → FitAll (kinds_of t) row → row_after t ss row ≡ Some after
    → (key_of t row ≡ key_of t after) × FitAll (kinds_of t) after
row_after_fits t ss none row after f e = (
  ap (key_bytes (key_kinds t)) (sym (items_same after row t.primary
      (each_to (SetsNot ss) (λ p. slice_get after p ≡ slice_get row p) (λ p h. get_kept ss row (kinds_of t) 0 row after f e p (subst (SetsNot ss) (sym (from_zero p)) h)) t.primary none))),
  columns_fit ss row (kinds_of t) 0 row after f e,
)
  where
    from_zero : (p : ℕ) → 0 + p ≡ p
    from_zero p = omega arith

-- a bound UPDATE
pub record IsUpdate (db : Database) (number : ℕ) (ss : List BoundSet) : Type 0 where
  pub target : IsTarget db number
  pub keeps_key : AllByRecursion (SetsNot ss) target.of.primary

update_is : (db : Database) → IsSound db → (o : Object) (ss : List BoundSet) → IsThere db.schema o → list_any (λ a. list_any (λ key. key == a.column) (primary_of (Some o))) ss ≡ false
    → not (is_some (as_table o)) ≡ false → IsUpdate db (object_number o) ss
update_is db sound (index i) ss there keys h = absurd (cc)
update_is db sound (view v) ss there keys h = absurd (cc)
update_is db sound (table t) ss there keys h =
    let none : AllByRecursion (λ (a : BoundSet). AllByRecursion (λ key. (a.column == key) ≡ false) t.primary) ss =
    each_to (λ (a : BoundSet). list_any (λ key. key == a.column) t.primary ≡ false) (λ (a : BoundSet). AllByRecursion (λ key. (a.column == key) ≡ false) t.primary)
    (λ a g. each_to (λ key. (key == a.column) ≡ false) (λ key. (a.column == key) ≡ false) (λ key k. turned key a.column k) t.primary (none_of (λ key. key == a.column) t.primary g)) ss
    (none_of (λ (a : BoundSet). list_any (λ key. key == a.column) t.primary) ss keys) in
    record { target = record { of = t; number_is = refl; there = named_numbered db sound there.0 (table t) there.1 }; keeps_key = swapped (λ (a : BoundSet) (key : ℕ). (a.column == key) ≡ false) ss t.primary none }

-- ---- what a bound statement is of

-- a statement on a table is of one that is there
abbrev pub IsOf : Database → BoundTree → Type 0
IsOf db (statement.insert number tuples) = IsInsert db number tuples
IsOf db (statement.update number ss condition) = IsUpdate db number ss
IsOf db (statement.delete number condition) = IsTarget db number
IsOf db _ = Unit {0}

of_resolved : (db : Database) → IsSound db → (to : Resolved) (size : ℕ) → IsResolved db.schema to → AllByRecursion IsPassed (tests db.schema size to) → IsOf db (bound_of db.schema to)
of_resolved db sound (resolving.insert target tuples) size is passed = insert_is db sound target tuples is passed.0 passed.1.0
of_resolved db sound (resolving.update target ss condition) size is passed = update_is db sound target ss is passed.0 passed.1.1.0
of_resolved db sound (resolving.delete target condition) size is passed = target_is db sound target is passed.0
of_resolved db sound (resolving.select q order) size is passed = tt
of_resolved db sound (resolving.table name columns primary) size is passed = tt
of_resolved db sound (resolving.index name target columns) size is passed = tt
of_resolved db sound (resolving.view name q) size is passed = by (as_table q.first)
  where
    by : (f : Option TableDef) → IsOf db (elim f [ None ↦ statement.control | Some first ↦ statement.create (made_view db.schema name q first) ])
    by None = tt
    by (Some first) = tt
of_resolved db sound resolving.control size is passed = tt

pub bound_so : (db : Database) → IsSound db → (s : StatementTree) (what : BoundTree) → bind db.schema s ≡ Ok what → IsOf db what
bound_so db sound s what e = let b = is_bound db.schema s what e in subst (IsOf db) b.made (of_resolved db sound b.to b.size b.is_resolved b.passed)

-- a SELECT, or a statement on a table
abbrev pub IsWork : BoundTree → Type 0
IsWork (statement.select query) = Unit {0}
IsWork (statement.insert number tuples) = Unit {0}
IsWork (statement.update number ss condition) = Unit {0}
IsWork (statement.delete number condition) = Unit {0}
IsWork _ = ⊥

work_of : (objects : Schema) (s : StatementTree) (to : Resolved) → is_work s ≡ true → AreAlike s to → IsWork (bound_of objects to)
work_of objects (tree.insert target tuples) (resolving.insert o ts) w alike = tt
work_of objects (tree.insert target tuples) _ w alike = absurd alike
work_of objects (tree.update target ss condition) (resolving.update o sets c) w alike = tt
work_of objects (tree.update target ss condition) _ w alike = absurd alike
work_of objects (tree.delete target condition) (resolving.delete o c) w alike = tt
work_of objects (tree.delete target condition) _ w alike = absurd alike
work_of objects (tree.select query order) (resolving.select q o) w alike = tt
work_of objects (tree.select query order) _ w alike = absurd alike
work_of objects _ to w alike = absurd (cc)

pub bound_is_work : (objects : Schema) (s : StatementTree) (what : BoundTree) → is_work s ≡ true → bind objects s ≡ Ok what → IsWork what
bound_is_work objects s what w e = let b = is_bound objects s what e in subst IsWork b.made (work_of objects s b.to w b.alike)

-- a SELECT is bound to a SELECT
pub bound_select : (objects : Schema) (query : QueryTree) (order : List Order) (what : BoundTree) → bind objects (tree.select query order) ≡ Ok what → (made : BoundQuery) × (what ≡ statement.select made)
bound_select objects query order what e = let b = is_bound objects (tree.select query order) what e in by b.to b.alike b.made
  where
    by : (to : Resolved) → AreAlike (tree.select query order) to → bound_of objects to ≡ what → (made : BoundQuery) × (what ≡ statement.select made)
    by (resolving.select q o) alike made = (_, sym made)
    by _ alike made = absurd alike
