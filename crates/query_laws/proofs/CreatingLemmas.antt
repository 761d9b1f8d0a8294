-- What a statement creates is an object like the others.
use Rattle.std.specs.Prelude.{◌≡◌, ℕ, ◌+◌, ◌<◌, ◌&&◌, ◌||◌, not, is_some, Bool, true, false, List, [], ◌∷◌, ◌++◌, length, map, Option, Some, None}
use Rattle.std.specs.List.{AllByRecursion}
use Rattle.std.specs.Option.{option_map}
use mathlib.Core.Path.{refl, sym, ap, subst, ◌∙◌}
use Rattle.std.proofs.Common.{inl, inr}
use Rattle.std.proofs.lemmas.List.{length-map}
use Rattle.std.proofs.lemmas.List.Elements.{All-from_recursion}
use Rattle.iv_types.specs.declared.value.Kind.{Kind}
use Rattle.iv_types.specs.declared.statement.ColumnDef.{ColumnDef}
use Rattle.iv_types.specs.declared.catalog.TableDef.{TableDef}
use Rattle.iv_types.specs.declared.catalog.IndexDef.{IndexDef}
use Rattle.iv_types.specs.Syntax.{Tree}
use Rattle.iv_meaning.specs.Schema.{Schema, Object, table, index, view, numbered, as_table, kinds_of_table, object_kinds}
use Rattle.iv_meaning.specs.Database.{Database}
use Rattle.iv_meaning.specs.Shape.{terms, is_empty, joins_tables, object_number}
use Rattle.iv_meaning.specs.Tests.{join_columns, tests, is_many_to_one, second_of}
use Rattle.iv_meaning.specs.Binding.{second_kept, made_view, bound_of}
use Rattle.iv_meaning.specs.Resolving as resolving
use Rattle.iv_meaning.specs.Resolving.{Joined, ResolvedQuery, Resolved}
use Rattle.iv_meaning.specs.Types.{sources_of}
use Rattle.iv_meaning.specs.Statement as statement
use Rattle.iv_meaning.specs.Sound.{IsSound, IsObject, IsTable}
use Rattle.query_laws.specs.Laws.{CreatedLaw}
use Rattle.query_laws.proofs.Bound.{HasKinds, IsThere, IsQuery, IsResolved, IsPassed, is_bound}
use Rattle.query_laws.proofs.Each.{each_to}
use Rattle.query_laws.proofs.GroupRows.{some_same, IsKnown}
use Rattle.query_laws.proofs.SoundLemmas.{named_numbered, numbered_more, numbered_cases, object_more, table_more, same_kinds}

-- ---- the tables that a view reads

-- the numbers of the tables
abbrev pub sources_by : Schema → TableDef → Option (TableDef × List ℕ) → List ℕ
sources_by objects first second = first.number ∷ elim (option_map (second_kept objects first) second) [ None ↦ [] | Some s ↦ s.table ∷ [] ]

-- the tables that a view reads are those of its query
pub record AreSources (objects : Schema) (numbers : List ℕ) (sources : List Object) : Type 0 where
  pub tables : AllByRecursion (IsTable objects) numbers
  pub kinds : map (λ n. kinds_of_table (numbered objects n)) numbers ≡ map (object_kinds objects) sources
  pub have : AllByRecursion (HasKinds objects) sources

has_kinds : (objects : Schema) (t : TableDef) → HasKinds objects (table t)
has_kinds objects t = length-map t.columns (λ (c : ColumnDef). c.name) ∙ sym (length-map t.columns (λ (c : ColumnDef). c.kind))

-- the second table that a join brings in
abbrev pub second_by : Option TableDef → Tree → Option (TableDef × List ℕ)
second_by o on = option_map (λ second. (second, join_columns (terms on) second)) o

second_source : (db : Database) → IsSound db → (first : TableDef) → IsThere db.schema (table first) → (o : Object) → IsThere db.schema o → (on : Tree) → joins_tables (Some first) (as_table o) on ≡ true
    → AreSources db.schema (sources_by db.schema first (second_by (as_table o) on)) (table first ∷ o ∷ [])
second_source db sound first here (index i) there on many = absurd (cc)
second_source db sound first here (view v) there on many = absurd (cc)
second_source db sound first here (table second) there on many =
    let first_is = named_numbered db sound here.0 (table first) here.1 in
    let second_is = named_numbered db sound there.0 (table second) there.1 in
    record {
      tables = ((first, first_is), ((second, second_is), tt));
      kinds = λ i. kinds_of_table (first_is i) ∷ kinds_of_table (second_is i) ∷ [];
      have = (has_kinds db.schema first, (has_kinds db.schema second, tt));
    }

sources_so : (db : Database) → IsSound db → (first : TableDef) (joins : List Joined) → AllByRecursion (IsThere db.schema) (table first ∷ map (λ (j : Joined). j.object) joins) → is_many_to_one (table first) joins ≡ true
    → AreSources db.schema (sources_by db.schema first (elim joins as (λ (l : List Joined). Option (TableDef × List ℕ)) [ [] ↦ None | j ∷ js ↦ second_by (as_table j.object) j.on ])) (table first ∷ map (λ (j : Joined). j.object) joins)
sources_so db sound first [] there many =
    let first_is = named_numbered db sound there.0.0 (table first) there.0.1 in
    record { tables = ((first, first_is), tt); kinds = λ i. kinds_of_table (first_is i) ∷ []; have = (has_kinds db.schema first, tt) }
sources_so db sound first (j ∷ []) there many = second_source db sound first there.0 j.object there.1.0 j.on many
sources_so db sound first (j ∷ other ∷ joins) there many = absurd (cc)

pub table_is : (o : Object) (t : TableDef) → as_table o ≡ Some t → o ≡ table t
table_is (table u) t e = ap table (some_same u t e)
table_is (index i) t e = absurd (cc)
table_is (view v) t e = absurd (cc)

pub sources_are : (db : Database) → IsSound db → (q : ResolvedQuery) → AllByRecursion (IsThere db.schema) (sources_of q) → (first : TableDef) → as_table q.first ≡ Some first → is_many_to_one q.first q.joins ≡ true
    → AreSources db.schema (sources_by db.schema first (second_of q)) (sources_of q)
sources_are db sound q there first e many =
    let is : q.first ≡ table first = table_is q.first first e in
    subst (λ (o : Object). AreSources db.schema (sources_by db.schema first (second_of q)) (o ∷ map (λ (j : Joined). j.object) q.joins)) (sym is)
    (sources_so db sound first q.joins (subst (IsThere db.schema) is there.0, there.1) (subst (λ (o : Object). is_many_to_one o q.joins ≡ true) is many))

-- ---- what is created

pub of_create : (o x : Object) → statement.create o ≡ statement.create x → o ≡ x
of_create o x e = cc

-- an object with its number
abbrev IsNew : Schema → Object → Type 0
IsNew objects o = IsObject (objects ++ o ∷ []) (length objects + 1) o

pub and_rest : (a b : Bool) → not a && not b ≡ false → a ≡ false → b ≡ true
and_rest true b e f = absurd (cc)
and_rest false true e f = refl
and_rest false false e f = absurd (cc)

pub or_first : (a b : Bool) → a || b ≡ false → a ≡ false
or_first true b e = absurd (cc)
or_first false b e = refl

-- the query of a view that is bound is grouped, and so of one table or two
pub many_to_one : (objects : Schema) (size : ℕ) (name : List ℕ) (q : ResolvedQuery) → AllByRecursion IsPassed (tests objects size (resolving.view name q)) → is_many_to_one q.first q.joins ≡ true
many_to_one objects size name q passed = and_rest (is_empty q.group) (is_many_to_one q.first q.joins) passed.1.1.1.1.0 (or_first (is_empty q.group) _ passed.1.1.1.1.1.0)

new_view : (db : Database) → IsSound db → (name : List ℕ) (q : ResolvedQuery) → IsQuery db.schema q → (first : TableDef) → as_table q.first ≡ Some first → is_many_to_one q.first q.joins ≡ true
    → IsNew db.schema (made_view db.schema name q first)
new_view db sound name q is first e many =
    let made : Object = made_view db.schema name q first in
    let sources : List ℕ = sources_by db.schema first (second_of q) in
    let s : AreSources db.schema sources (sources_of q) = sources_are db sound q is.there first e many in
    let kinds = same_kinds db.schema made sources s.tables ∙ s.kinds in (
      refl,
      record {
        tables = All-from_recursion (IsTable (db.schema ++ made ∷ [])) sources (each_to (IsTable db.schema) (IsTable (db.schema ++ made ∷ [])) (table_more db.schema made) sources s.tables);
        group = All-from_recursion (IsKnown (map (λ n. kinds_of_table (numbered (db.schema ++ made ∷ []) n)) sources)) q.group
            (subst (λ (l : List (List Kind)). AllByRecursion (IsKnown l) q.group) (sym kinds) (is.group s.have));
      },
    )

by_first : (db : Database) → IsSound db → (name : List ℕ) (q : ResolvedQuery) → IsQuery db.schema q → (f : Option TableDef) → as_table q.first ≡ f → is_many_to_one q.first q.joins ≡ true → (o : Object)
    → elim f [ None ↦ statement.control | Some first ↦ statement.create (made_view db.schema name q first) ] ≡ statement.create o → IsNew db.schema o
by_first db sound name q is None f many o e = absurd (cc)
by_first db sound name q is (Some first) f many o e = subst (IsNew db.schema) (of_create (made_view db.schema name q first) o e) (new_view db sound name q is first f many)

new_index : (db : Database) → IsSound db → (name : List ℕ) (target : Object) (columns : List ℕ) → IsResolved db.schema (resolving.index name target columns) → not (is_some (as_table target)) ≡ false
    → IsNew db.schema (index (record { number = length db.schema + 1; name = name; table = object_number target; columns = columns }))
new_index db sound name (table t) columns is rule =
    let i : IndexDef = record { number = length db.schema + 1; name = name; table = t.number; columns = columns } in (
      refl,
      record {
        of = t;
        table_is = numbered_more db.schema (index i) t.number (table t) (named_numbered db sound is.0.0 (table t) is.0.1);
        columns = All-from_recursion (λ p. p < length t.columns) columns (subst (λ n. AllByRecursion (λ p. p < n) columns) (length-map t.columns (λ (c : ColumnDef). c.name)) is.1);
      },
    )
new_index db sound name (index i) columns is rule = absurd (cc)
new_index db sound name (view v) columns is rule = absurd (cc)

created_new : (db : Database) → IsSound db → (to : Resolved) (size : ℕ) → IsResolved db.schema to → AllByRecursion IsPassed (tests db.schema size to) → (o : Object) → bound_of db.schema to ≡ statement.create o → IsNew db.schema o
created_new db sound (resolving.table name columns primary) size is passed o e =
    let t : TableDef = record { number = length db.schema + 1; name = name; columns = columns; primary = primary } in
    subst (IsNew db.schema) (of_create (table t) o e) (refl, All-from_recursion (λ p. p < length columns) primary is)
created_new db sound (resolving.index name target columns) size is passed o e =
    subst (IsNew db.schema) (of_create (index (record { number = length db.schema + 1; name = name; table = object_number target; columns = columns })) o e) (new_index db sound name target columns is passed.1.0)
created_new db sound (resolving.view name q) size is passed o e = by_first db sound name q is (as_table q.first) refl (many_to_one db.schema size name q passed) o e
created_new db sound (resolving.insert target tuples) size is passed o e = absurd (cc)
created_new db sound (resolving.update target sets condition) size is passed o e = absurd (cc)
created_new db sound (resolving.delete target condition) size is passed o e = absurd (cc)
created_new db sound (resolving.select q order) size is passed o e = absurd (cc)
created_new db sound resolving.control size is passed o e = absurd (cc)

pub created_law : CreatedLaw
created_law db sound s o e =
    let b = is_bound db.schema s (statement.create o) e in
    let new : IsNew db.schema o = created_new db sound b.to b.size b.is_resolved b.passed o b.made in
    record {
      objects = λ n x there. elim (numbered_cases db.schema o n x there) [
        | inl old ↦ object_more db.schema o n x (sound.objects n x old)
        | inr is ↦ subst (λ (m : ℕ). IsObject (db.schema ++ o ∷ []) m x) (sym is.0) (subst (λ (y : Object). IsObject (db.schema ++ o ∷ []) (length db.schema + 1) y) is.1 new)
      ];
      rows = λ place row there.
          let r = sound.rows place row there in
          record { of = r.of; table_is = numbered_more db.schema o place.0 (table r.of) r.table_is; key = r.key; fits = r.fits };
    }
