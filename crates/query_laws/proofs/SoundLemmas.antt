-- What statements leave of a sound database is sound, and what a SELECT names are tables and views.
use Rattle.std.specs.Prelude.{◌≡◌, ◌⊎◌, ℕ, zero, suc, ◌+◌, ◌<◌, ◌||◌, Bool, true, false, cond, List, [], ◌∷◌, ◌++◌, length, map, slice_get, is_some, Option, Some, None}
use Rattle.std.specs.List.{AllByRecursion, All, list_any}
use mathlib.Core.Path.{refl, sym, ap, subst, ◌∙◌}
use Rattle.std.proofs.Common.{arith, inl, inr, length-append}
use Rattle.std.proofs.lemmas.Bool.{cases_lt}
use Rattle.std.proofs.lemmas.List.Elements.{recursion_from_All, All-from_recursion}
use Rattle.std.specs.Str.{bytes_eq}
use Rattle.iv_types.specs.declared.value.Kind.{Kind}
use Rattle.iv_types.specs.declared.catalog.TableDef.{TableDef}
use Rattle.iv_types.specs.Encoding.{kinds_of, FitAll}
use Rattle.table_laws.specs.Place.{Place, place_cmp}
use Rattle.table_laws.proofs.Place.{place_cmp_total, place_cmp-IsAntisymmetric}
use Rattle.std.specs.FinMap.{get-empty}
use Rattle.table_laws.proofs.Tables.{by_key, get-write_at, get-write_other}
use Rattle.iv_meaning.specs.Schema as schema
use Rattle.iv_meaning.specs.Schema.{Schema, Object, table, index, view, numbered, named, name_of, kinds_of_table, as_table, as_index}
use Rattle.iv_meaning.specs.Database.{Database, created, set_row, key_of}
use Rattle.iv_meaning.specs.Shape.{object_number}
use Rattle.iv_meaning.specs.Resolving as resolving
use Rattle.iv_meaning.specs.Resolving.{ResolvedQuery, Resolved}
use Rattle.iv_meaning.specs.Types.{sources_of}
use Rattle.iv_meaning.specs.Tests.{tests}
use Rattle.iv_meaning.specs.Binding.{made_view, bound_query, bound_of}
use Rattle.iv_meaning.specs.Statement as statement
use Rattle.iv_meaning.specs.Query.{BoundQuery}
use Rattle.iv_meaning.specs.Sound.{IsSound, IsObject, IsTable}
use Rattle.query_laws.specs.Laws.{IsRelation, InsertedLaw, RelationsLaw}
use Rattle.query_laws.proofs.Bound.{IsThere, IsResolved, IsPassed, is_bound}
use Rattle.query_laws.proofs.Each.{each_to}
use Rattle.query_laws.proofs.Fitting.{inside}
use Rattle.query_laws.proofs.TermLemmas.{get_front, get_behind}
use Rattle.query_laws.proofs.GroupRows.{some_same, IsKnown}

-- ---- a row that is set

pub inserted_law : InsertedLaw
inserted_law db sound n t is row fit = record {
  objects = sound.objects;
  rows = λ place r there. by_key place_cmp_total place_cmp-IsAntisymmetric place (n, key_of t row)
      (λ e.
      let same : row ≡ r = some_same row r (sym (get-write_at place_cmp_total place_cmp-IsAntisymmetric db.rows (n, key_of t row) (Some row) place e) ∙ there) in
      record {
        of = t;
        table_is = ap (λ (p : Place). numbered db.schema p.0) e ∙ is;
        key = ap (λ (p : Place). p.1) e ∙ ap (key_of t) same;
        fits = subst (FitAll (kinds_of t)) same fit;
      })
      (λ ne. sound.rows place r (sym (get-write_other place_cmp_total place_cmp-IsAntisymmetric db.rows (n, key_of t row) (Some row) place ne) ∙ there));
}

-- a row that is taken away
pub removed_sound : (db : Database) → IsSound db → (n : ℕ) (key : List ℕ) → IsSound (record db { rows = set_row db.rows n key None })
removed_sound db sound n key = record {
  objects = sound.objects;
  rows = λ place r there. by_key place_cmp_total place_cmp-IsAntisymmetric place (n, key)
      (λ e. let none : None ≡ Some r = sym (get-write_at place_cmp_total place_cmp-IsAntisymmetric db.rows (n, key) None place e) ∙ there in absurd (cc))
      (λ ne. sound.rows place r (sym (get-write_other place_cmp_total place_cmp-IsAntisymmetric db.rows (n, key) None place ne) ∙ there));
}

-- a new database
pub created_sound : IsSound created
created_sound = record {
  objects = λ n o e. absurd (none_numbered n o e);
  rows = λ place r there. let none : None ≡ Some r = sym (get-empty place_cmp place) ∙ there in absurd (cc);
}
  where
    none_numbered : (n : ℕ) (o : Object) → numbered [] n ≡ Some o → ⊥
    none_numbered zero o e = absurd (cc)
    none_numbered (suc n) o e = absurd (cc)

-- ---- names and numbers

-- what has a name stands somewhere
pub named_there : (objects : Schema) (name : List ℕ) (o : Object) → named objects name ≡ Some o → (p : ℕ) × (slice_get objects p ≡ Some o)
named_there [] name o e = absurd (cc)
named_there (x ∷ objects) name o e = go (bytes_eq name (name_of x)) e (named_there objects name o)
  where
    go : (b : Bool) → cond b (Some x) (named objects name) ≡ Some o → (named objects name ≡ Some o → (p : ℕ) × (slice_get objects p ≡ Some o)) → (p : ℕ) × (slice_get (x ∷ objects) p ≡ Some o)
    go true e rest = (0, e)
    go false e rest = let r = rest e in (suc r.0, r.1)

own_number : (objects : Schema) (n : ℕ) (o : Object) → IsObject objects n o → object_number o ≡ n
own_number objects n (table t) h = h.0
own_number objects n (index i) h = h.0
own_number objects n (view v) h = h.0

-- an object of a sound database has its number
pub named_numbered : (db : Database) → IsSound db → (name : List ℕ) (o : Object) → named db.schema name ≡ Some o → numbered db.schema (object_number o) ≡ Some o
named_numbered db sound name o e =
    let there = named_there db.schema name o e in
    ap (numbered db.schema) (own_number db.schema (suc there.0) o (sound.objects (suc there.0) o there.1)) ∙ there.1

-- ---- the relations of a SELECT

pub neither : (a b : Bool) → a || b ≡ false → (a ≡ false) × (b ≡ false)
neither true b e = absurd (cc)
neither false b e = (refl, e)

relation_of : (db : Database) → IsSound db → (o : Object) → IsThere db.schema o → is_some (as_index o) ≡ false → IsRelation db.schema (object_number o)
relation_of db sound (table t) there n = inl (t, named_numbered db sound there.0 (table t) there.1)
relation_of db sound (index i) there n = absurd (cc)
relation_of db sound (view v) there n = inr (v, named_numbered db sound there.0 (view v) there.1)

relations_of : (db : Database) → IsSound db → (os : List Object) → AllByRecursion (IsThere db.schema) os → list_any (λ o. is_some (as_index o)) os ≡ false → AllByRecursion (IsRelation db.schema) (map object_number os)
relations_of db sound [] there h = tt
relations_of db sound (o ∷ os) there h =
    let none = neither (is_some (as_index o)) (list_any (λ x. is_some (as_index x)) os) h in
    (relation_of db sound o there.0 none.0, relations_of db sound os there.1 none.1)

no_select : (objects : Schema) (name : List ℕ) (q : ResolvedQuery) (o : Option TableDef) (query : BoundQuery)
    → elim o [ None ↦ statement.control | Some first ↦ statement.create (made_view objects name q first) ] ≡ statement.select query → ⊥
no_select objects name q None query e = absurd (cc)
no_select objects name q (Some first) query e = absurd (cc)

relations_by : (db : Database) → IsSound db → (to : Resolved) (size : ℕ) → IsResolved db.schema to → AllByRecursion IsPassed (tests db.schema size to)
    → (query : BoundQuery) → bound_of db.schema to ≡ statement.select query → All (IsRelation db.schema) query.relations
relations_by db sound (resolving.select q order) size is passed query e =
    let same : bound_query q order ≡ query = cc in
    All-from_recursion (IsRelation db.schema) query.relations
    (subst (λ (b : BoundQuery). AllByRecursion (IsRelation db.schema) b.relations) same (relations_of db sound (sources_of q) is.there passed.1.0))
relations_by db sound (resolving.view name q) size is passed query e = absurd (no_select db.schema name q (as_table q.first) query e)
relations_by db sound (resolving.table name columns primary) size is passed query e = absurd (cc)
relations_by db sound (resolving.index name target columns) size is passed query e = absurd (cc)
relations_by db sound (resolving.insert target tuples) size is passed query e = absurd (cc)
relations_by db sound (resolving.update target sets condition) size is passed query e = absurd (cc)
relations_by db sound (resolving.delete target condition) size is passed query e = absurd (cc)
relations_by db sound resolving.control size is passed query e = absurd (cc)

pub relations_law : RelationsLaw
relations_law db sound s query e = let b = is_bound db.schema s (statement.select query) e in relations_by db sound b.to b.size b.is_resolved b.passed query b.made

-- ---- more objects

-- the objects there keep their numbers
pub numbered_more : (objects : Schema) (o : Object) (n : ℕ) (x : Object) → numbered objects n ≡ Some x → numbered (objects ++ o ∷ []) n ≡ Some x
numbered_more objects o zero x e = e
numbered_more objects o (suc n) x e = get_front objects (o ∷ []) n (inside objects n x e) ∙ e

-- one of more objects is one of those before, or the new one
pub numbered_cases : (objects : Schema) (o : Object) (n : ℕ) (x : Object) → numbered (objects ++ o ∷ []) n ≡ Some x → (numbered objects n ≡ Some x) ⊎ ((n ≡ length objects + 1) × (o ≡ x))
numbered_cases objects o zero x e = inl e
numbered_cases objects o (suc n) x e =
    let short : n < length (objects ++ o ∷ []) = inside (objects ++ o ∷ []) n x e in
    elim (cases_lt n (length objects)) [
      | inl lt ↦ inl (sym (get_front objects (o ∷ []) n lt) ∙ e)
      | inr le ↦
          let at : n ≡ length objects = omega (arith, short, le, length-append objects (o ∷ [])) in
          let there : Some o ≡ Some x = sym (get_behind objects [] o) ∙ (ap (slice_get (objects ++ o ∷ [])) (sym at) ∙ e) in
          inr (omega (arith, at), some_same o x there)
    ]

module _ (objects : Schema) (o : Object) where
  abbrev pub larger : Schema
  larger = objects ++ o ∷ []

  pub table_more : (n : ℕ) → IsTable objects n → IsTable larger n
  table_more n h = (h.0, numbered_more objects o n (table h.0) h.1)

  -- tables have the same kinds
  pub same_kinds : (ns : List ℕ) → AllByRecursion (IsTable objects) ns → map (λ n. kinds_of_table (numbered larger n)) ns ≡ map (λ n. kinds_of_table (numbered objects n)) ns
  same_kinds [] h = refl
  same_kinds (n ∷ ns) h =
      λ i. kinds_of_table ((numbered_more objects o n (table h.0.0) h.0.1 ∙ sym h.0.1) i) ∷ same_kinds ns h.1 i

  pub object_more : (n : ℕ) (x : Object) → IsObject objects n x → IsObject larger n x
  object_more n (table t) h = h
  object_more n (index i) h = (h.0, record { of = h.1.of; table_is = numbered_more objects o i.table (table h.1.of) h.1.table_is; columns = h.1.columns })
  object_more n (view v) h =
      let tables = recursion_from_All (IsTable objects) (schema.sources_of v) h.1.tables in (
        h.0,
        record {
          tables = All-from_recursion (IsTable larger) (schema.sources_of v) (each_to (IsTable objects) (IsTable larger) table_more (schema.sources_of v) tables);
          group = subst (λ (kinds : List (List Kind)). All (IsKnown kinds) v.group) (sym (same_kinds (schema.sources_of v) tables)) h.1.group;
        },
      )
