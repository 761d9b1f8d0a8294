-- What a statement creates stays within the limits of definitions.
use Rattle.std.specs.Prelude.{◌≡◌, ℕ, zero, suc, ◌+◌, ◌≤◌, Bool, true, false, cond, List, [], ◌∷◌, ◌++◌, length, nat_lt, Option, Some, None}
use Rattle.std.specs.List.{AllByRecursion, filter_map, cons_option}
use mathlib.Core.Path.{refl, sym, ap, subst, ◌∙◌}
use Rattle.std.proofs.Common.{arith, inl, inr, length-append}
use Rattle.std.proofs.lemmas.Bool.{ltb-false}
use Rattle.std.proofs.lemmas.List.Elements.{filter_map-append, recursion_from_All}
use Rattle.iv_types.specs.declared.value.Kind.{Kind}
use Rattle.iv_types.specs.declared.catalog.TableDef.{TableDef}
use Rattle.iv_types.specs.declared.catalog.IndexDef.{IndexDef}
use Rattle.iv_types.specs.declared.limit.TheConstants.{MOST_OBJECTS, MOST_KEY_WIDTH, MOST_SUMS}
use Rattle.iv_types.specs.Encoding.{kinds_of}
use Rattle.iv_meaning.specs.Schema as schema
use Rattle.iv_meaning.specs.Schema.{Schema, Object, table, index, view, ViewTree, numbered, as_table, as_index, as_view, items_at, kinds_of_table, primary_of, object_kinds, kind_at, group_kinds}
use Rattle.iv_meaning.specs.Shape.{width, key_width, sums_in, object_number}
use Rattle.iv_meaning.specs.Database.{Database}
use Rattle.iv_meaning.specs.Query.{BoundItem, sum, count, plain}
use Rattle.iv_meaning.specs.Binding.{summed, made_view, bound_of}
use Rattle.iv_meaning.specs.Tests.{tests, second_of}
use Rattle.iv_meaning.specs.Resolving as resolving
use Rattle.iv_meaning.specs.Resolving.{NamedItem, ResolvedQuery, Resolved}
use Rattle.iv_meaning.specs.Statement as statement
use Rattle.iv_meaning.specs.Sound.{IsSound, IsObject, IsTable}
use Rattle.query_laws.specs.Limited.{IsNarrow, IsLimited, LimitedLaw, NumbersLaw}
use Rattle.query_laws.proofs.Bound.{IsQuery, IsResolved, IsPassed, is_bound}
use Rattle.query_laws.proofs.SoundLemmas.{named_numbered, numbered_more, numbered_cases, same_kinds}
use Rattle.query_laws.proofs.CreatingLemmas.{sources_by, sources_are, many_to_one, of_create}

-- a test that did not fail
within : (most n : ℕ) → nat_lt most n ≡ false → n ≤ most
within most n e = ltb-false most n e

-- ---- one object more

module _ (objects : Schema) (o : Object) where
  abbrev larger : Schema
  larger = objects ++ o ∷ []

  -- an object that was narrow is
  narrow_more : (n : ℕ) (x : Object) → IsObject objects n x → IsNarrow objects x → IsNarrow larger x
  narrow_more n (table t) is h = h
  narrow_more n (index i) is h =
      let same : numbered larger i.table ≡ numbered objects i.table = numbered_more objects o i.table (table is.1.of) is.1.table_is ∙ sym is.1.table_is in
      subst (λ (f : Option Object). width key_width (items_at (kinds_of_table f) (i.columns ++ primary_of f)) ≤ MOST_KEY_WIDTH) (sym same) h
  narrow_more n (view v) is h =
      let tables = recursion_from_All (IsTable objects) (schema.sources_of v) is.1.tables in
      let same : group_kinds larger v ≡ group_kinds objects v = ap (λ (ks : List (List Kind)). filter_map (kind_at ks) v.group) (same_kinds objects o (schema.sources_of v) tables) in
      (subst (λ (ks : List Kind). width key_width ks ≤ MOST_KEY_WIDTH) (sym same) h.0, h.1)

  -- so many of a kind
  pub more_of : {X : Type 0} (f : Object → Option X) → length (filter_map f larger) ≡ length (filter_map f objects) + length (filter_map f (o ∷ []))
  more_of f = ap length (filter_map-append f objects (o ∷ [])) ∙ length-append (filter_map f objects) (filter_map f (o ∷ []))

-- so many new objects of each kind stay within the limits
record HasRoom (objects : Schema) (o : Object) : Type 0 where
  pub tables : length (filter_map as_table objects) + length (filter_map as_table (o ∷ [])) ≤ MOST_OBJECTS
  pub indexes : length (filter_map as_index objects) + length (filter_map as_index (o ∷ [])) ≤ MOST_OBJECTS
  pub views : length (filter_map as_view objects) + length (filter_map as_view (o ∷ [])) ≤ MOST_OBJECTS
  pub narrow : IsNarrow (objects ++ o ∷ []) o

-- ---- what is created

table_room : (objects : Schema) → IsLimited objects → (size : ℕ) (name : List ℕ) (t : TableDef) → AllByRecursion IsPassed (tests objects size (resolving.table name t.columns t.primary)) → HasRoom objects (table t)
table_room objects limited size name t passed = record {
  tables = within MOST_OBJECTS _ passed.1.1.0;
  indexes = omega (arith, limited.indexes);
  views = omega (arith, limited.views);
  narrow = (within MOST_KEY_WIDTH _ passed.1.1.1.0, within _ _ passed.1.1.1.1.0);
}

index_room : (db : Database) → IsSound db → IsLimited db.schema → (size : ℕ) (name : List ℕ) (target : Object) (columns : List ℕ) → IsResolved db.schema (resolving.index name target columns)
    → AllByRecursion IsPassed (tests db.schema size (resolving.index name target columns)) → (i : IndexDef) → i.table ≡ object_number target → i.columns ≡ columns → HasRoom db.schema (index i)
index_room db sound limited size name (table t) columns is passed i of same = record {
  tables = omega (arith, limited.tables);
  indexes = within MOST_OBJECTS _ passed.1.1.1.0;
  views = omega (arith, limited.views);
  narrow =
      let there : numbered db.schema t.number ≡ Some (table t) = named_numbered db sound is.0.0 (table t) is.0.1 in
      let here : numbered (db.schema ++ index i ∷ []) i.table ≡ Some (table t) = ap (numbered (db.schema ++ index i ∷ [])) of ∙ numbered_more db.schema (index i) t.number (table t) there in
      subst (λ (f : Option Object). width key_width (items_at (kinds_of_table f) (i.columns ++ primary_of f)) ≤ MOST_KEY_WIDTH) (sym here)
      (subst (λ (ps : List ℕ). width key_width (items_at (kinds_of t) (ps ++ t.primary)) ≤ MOST_KEY_WIDTH) (sym same) (within MOST_KEY_WIDTH _ passed.1.1.1.1.0));
}
index_room db sound limited size name (index j) columns is passed i of same = let no = passed.1.0 in absurd (cc)
index_room db sound limited size name (view v) columns is passed i of same = let no = passed.1.0 in absurd (cc)

-- the sums of a view are those of its items
sums_counted : (items : List NamedItem) → length (filter_map (λ (i : NamedItem). summed i.item) items) ≡ sums_in items
sums_counted [] = refl
sums_counted (i ∷ items) = by i.item (sums_counted items)
  where
    by : (x : BoundItem) → length (filter_map (λ (j : NamedItem). summed j.item) items) ≡ sums_in items
        → length (cons_option (summed x) (filter_map (λ (j : NamedItem). summed j.item) items)) ≡ cond (elim x as (λ y. Bool) [ sum place ↦ true | count ↦ false | plain e ↦ false ]) (sums_in items + 1) (sums_in items)
    by (sum place) rest = omega (arith, rest)
    by count rest = rest
    by (plain e) rest = rest

view_room : (db : Database) → IsSound db → IsLimited db.schema → (size : ℕ) (name : List ℕ) (q : ResolvedQuery) → IsQuery db.schema q → AllByRecursion IsPassed (tests db.schema size (resolving.view name q))
    → (first : TableDef) → as_table q.first ≡ Some first → HasRoom db.schema (made_view db.schema name q first)
view_room db sound limited size name q is passed first e =
    let made : Object = made_view db.schema name q first in
    let sources : List ℕ = sources_by db.schema first (second_of q) in
    let s = sources_are db sound q is.there first e (many_to_one db.schema size name q passed) in
    let kinds = same_kinds db.schema made sources s.tables ∙ s.kinds in
    record {
      tables = omega (arith, limited.tables);
      indexes = omega (arith, limited.indexes);
      views = within MOST_OBJECTS _ passed.1.1.1.1.1.1.1.1.1.0;
      narrow = (
        subst (λ (ks : List (List Kind)). width key_width (filter_map (kind_at ks) q.group) ≤ MOST_KEY_WIDTH) (sym kinds) (within MOST_KEY_WIDTH _ passed.1.1.1.1.1.1.1.1.1.1.1.0),
        subst (λ (n : ℕ). n ≤ MOST_SUMS) (sym (sums_counted q.items)) (within MOST_SUMS _ passed.1.1.1.1.1.1.1.1.1.1.1.1.0),
      );
    }

by_first : (db : Database) → IsSound db → IsLimited db.schema → (size : ℕ) (name : List ℕ) (q : ResolvedQuery) → IsQuery db.schema q → AllByRecursion IsPassed (tests db.schema size (resolving.view name q))
    → (f : Option TableDef) → as_table q.first ≡ f → (o : Object) → elim f [ None ↦ statement.control | Some first ↦ statement.create (made_view db.schema name q first) ] ≡ statement.create o → HasRoom db.schema o
by_first db sound limited size name q is passed None f o e = absurd (cc)
by_first db sound limited size name q is passed (Some first) f o e = subst (HasRoom db.schema) (of_create (made_view db.schema name q first) o e) (view_room db sound limited size name q is passed first f)

created_room : (db : Database) → IsSound db → IsLimited db.schema → (to : Resolved) (size : ℕ) → IsResolved db.schema to → AllByRecursion IsPassed (tests db.schema size to) → (o : Object) → bound_of db.schema to ≡ statement.create o → HasRoom db.schema o
created_room db sound limited (resolving.table name columns primary) size is passed o e =
    let t : TableDef = record { number = length db.schema + 1; name = name; columns = columns; primary = primary } in
    subst (HasRoom db.schema) (of_create (table t) o e) (table_room db.schema limited size name t passed)
created_room db sound limited (resolving.index name target columns) size is passed o e =
    let i : IndexDef = record { number = length db.schema + 1; name = name; table = object_number target; columns = columns } in
    subst (HasRoom db.schema) (of_create (index i) o e) (index_room db sound limited size name target columns is passed i refl refl)
created_room db sound limited (resolving.view name q) size is passed o e = by_first db sound limited size name q is passed (as_table q.first) refl o e
created_room db sound limited (resolving.insert target tuples) size is passed o e = absurd (cc)
created_room db sound limited (resolving.update target sets condition) size is passed o e = absurd (cc)
created_room db sound limited (resolving.delete target condition) size is passed o e = absurd (cc)
created_room db sound limited (resolving.select q order) size is passed o e = absurd (cc)
created_room db sound limited resolving.control size is passed o e = absurd (cc)

pub limited_law : LimitedLaw
limited_law db sound limited s o e =
    let b = is_bound db.schema s (statement.create o) e in
    let room = created_room db sound limited b.to b.size b.is_resolved b.passed o b.made in
    record {
      tables = omega (arith, more_of db.schema o as_table, room.tables);
      indexes = omega (arith, more_of db.schema o as_index, room.indexes);
      views = omega (arith, more_of db.schema o as_view, room.views);
      narrow = λ n x there. elim (numbered_cases db.schema o n x there) [
        | inl old ↦ narrow_more db.schema o n x (sound.objects n x old) (limited.narrow n x old)
        | inr new ↦ subst (IsNarrow (db.schema ++ o ∷ [])) new.1 room.narrow
      ];
    }

-- ---- how many there are

each_kind : (objects : Schema) → length objects ≡ length (filter_map as_table objects) + length (filter_map as_index objects) + length (filter_map as_view objects)
each_kind [] = refl
each_kind (table t ∷ objects) = omega (arith, each_kind objects)
each_kind (index i ∷ objects) = omega (arith, each_kind objects)
each_kind (view v ∷ objects) = omega (arith, each_kind objects)

none_numbered : (n : ℕ) (o : Object) → numbered [] n ≡ Some o → ⊥
none_numbered zero o e = absurd cc
none_numbered (suc n) o e = absurd cc

pub numbers_law : NumbersLaw
numbers_law = (
  record { tables = omega arith; indexes = omega arith; views = omega arith; narrow = λ n o e. absurd (none_numbered n o e) },
  λ objects limited. omega (arith, each_kind objects, limited.tables, limited.indexes, limited.views),
)
