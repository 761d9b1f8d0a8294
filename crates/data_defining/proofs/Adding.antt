-- A definition that binding made can be added to a catalog.
use Rattle.std.specs.Prelude.{◌≡◌, ℕ, suc, ◌+◌, ◌<◌, cond, true, false, List, [], ◌∷◌, ◌++◌, map, length, Option, Some, None}
use Rattle.std.specs.List.{filter_map, cons_option}
use Rattle.std.specs.Str.{bytes_eq}
use Rattle.std.proofs.Common.{arith}
use Rattle.std.proofs.lemmas.List.{length-append}
use Rattle.std.proofs.lemmas.List.Elements.{filter_map-append}
use Rattle.std.proofs.lemmas.List.Recursion.{is_count_by}
use mathlib.Core.Path.{refl, sym, ap, subst, ◌∙◌}
use Rattle.iv_types.specs.Definitions.{Definitions, CanAdd, are_alike, how_many_alike, number_of, name_of}
use Rattle.iv_types.specs.Naming.{of_name}
use Rattle.iv_types.specs.declared.catalog.Definition.{Definition}
use Rattle.iv_types.specs.declared.catalog.Definition.TheVariants.{Table, Index, View}
use Rattle.iv_types.specs.declared.catalog.TableDef.{TableDef}
use Rattle.iv_types.specs.declared.catalog.IndexDef.{IndexDef}
use Rattle.iv_types.specs.declared.catalog.ViewDef.{ViewDef}
use Rattle.iv_types.specs.declared.limit.TheConstants.{MOST_OBJECTS}
use Rattle.iv_meaning.specs.Schema as schema
use Rattle.iv_meaning.specs.Schema.{Schema, Object, as_table, as_index, as_view}
use Rattle.iv_meaning.specs.Objects.{object_of, schema_of, view_tree}
use Rattle.query_laws.specs.Limited.{IsLimited}

same_name : (d : Definition) → schema.name_of (object_of d) ≡ name_of d
same_name (Table t) = refl
same_name (Index i) = refl
same_name (View v) = refl

-- a name that no object has no definition has
no_name : (ds : Definitions) (name : List ℕ) → of_name schema.name_of (map object_of ds) name ≡ None → of_name name_of ds name ≡ None
no_name [] name e = refl
no_name (d ∷ ds) name e = elim (bytes_eq name (name_of d)) as (λ b. cond b (Some (object_of d)) (of_name schema.name_of (map object_of ds) name) ≡ None → cond b (Some d) (of_name name_of ds name) ≡ None) [
  | true ↦ λ some. absurd (cc)
  | false ↦ no_name ds name
] (ap (λ n. cond (bytes_eq name n) (Some (object_of d)) (of_name schema.name_of (map object_of ds) name)) (sym (same_name d)) ∙ e)

-- ---- room for one more of its kind

tables_counted : (t : TableDef) (ds : Definitions) → length (filter_map as_table (schema_of ds)) ≡ how_many_alike (Table t) ds
tables_counted t ds = is_count_by (λ xs. length (filter_map as_table (schema_of xs))) (are_alike (Table t)) refl (λ d xs. one d (schema_of xs)) ds
  where
    one : (d : Definition) (os : Schema) → length (filter_map as_table (object_of d ∷ os)) ≡ cond (are_alike (Table t) d) (1 + length (filter_map as_table os)) (length (filter_map as_table os))
    one (Table u) os = omega arith
    one (Index i) os = refl
    one (View v) os = refl

indexes_counted : (i : IndexDef) (ds : Definitions) → length (filter_map as_index (schema_of ds)) ≡ how_many_alike (Index i) ds
indexes_counted i ds = is_count_by (λ xs. length (filter_map as_index (schema_of xs))) (are_alike (Index i)) refl (λ d xs. one d (schema_of xs)) ds
  where
    one : (d : Definition) (os : Schema) → length (filter_map as_index (object_of d ∷ os)) ≡ cond (are_alike (Index i) d) (1 + length (filter_map as_index os)) (length (filter_map as_index os))
    one (Table u) os = refl
    one (Index j) os = omega arith
    one (View v) os = refl

views_counted : (v : ViewDef) (ds : Definitions) → length (filter_map as_view (schema_of ds)) ≡ how_many_alike (View v) ds
views_counted v ds = is_count_by (λ xs. length (filter_map as_view (schema_of xs))) (are_alike (View v)) refl (λ d xs. one d (schema_of xs)) ds
  where
    one : (d : Definition) (os : Schema) → length (filter_map as_view (object_of d ∷ os)) ≡ cond (are_alike (View v) d) (1 + length (filter_map as_view os)) (length (filter_map as_view os))
    one (Table u) os = refl
    one (Index i) os = refl
    one (View w) os = omega arith

one_more : {Y : Type 0} (f : Object → Option Y) (os : Schema) (o : Object) (y : Y) → f o ≡ Some y → length (filter_map f (os ++ o ∷ [])) ≡ length (filter_map f os) + 1
one_more f os o y e =
    let whole = ap length (filter_map-append f os (o ∷ [])) in
    let both = length-append (filter_map f os) (filter_map f (o ∷ [])) in
    let last : length (filter_map f (o ∷ [])) ≡ 1 = ap (λ x. length (cons_option x [])) e in
    omega (arith, whole, both, last)

has_place : (d : Definition) (ds : Definitions) → IsLimited (schema_of ds ++ object_of d ∷ []) → how_many_alike d ds < MOST_OBJECTS
has_place (Table t) ds limited = let more = one_more as_table (schema_of ds) (object_of (Table t)) t refl in let same = tables_counted t ds in let most = limited.tables in omega (arith, more, same, most)
has_place (Index i) ds limited = let more = one_more as_index (schema_of ds) (object_of (Index i)) i refl in let same = indexes_counted i ds in let most = limited.indexes in omega (arith, more, same, most)
has_place (View v) ds limited = let more = one_more as_view (schema_of ds) (object_of (View v)) (view_tree v) refl in let same = views_counted v ds in let most = limited.views in omega (arith, more, same, most)

pub can_add : (ds : Definitions) (objects : Schema) (d : Definition) → schema_of ds ≡ objects → number_of d ≡ suc (length ds) → schema.named objects (schema.name_of (object_of d)) ≡ None → IsLimited (objects ++ object_of d ∷ []) → CanAdd ds d
can_add ds objects d is number name limited = record {
  number = omega (arith, number);
  name = no_name ds (name_of d) (ap (λ os. schema.named os (name_of d)) is ∙ (ap (schema.named objects) (sym (same_name d)) ∙ name));
  room = has_place d ds (subst (λ os. IsLimited (os ++ object_of d ∷ [])) (sym is) limited);
}
