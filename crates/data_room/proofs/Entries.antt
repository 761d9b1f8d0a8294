-- Indexes can hold the entries of rows of tables within the limits.
use Rattle.std.specs.Prelude.{◌≡◌, ℕ, zero, suc, ◌<◌, ◌≤◌, cond, true, false, List, [], ◌∷◌, ◌++◌, length, Option, None, Some, IfSome}
use Rattle.std.specs.List.{AllByRecursion}
use mathlib.Core.Path.{ap, subst, ◌∙◌}
use Rattle.std.proofs.Common.{arith}
use Rattle.std.proofs.lemmas.Option.{slice_get_within}
use Rattle.iv_types.specs.Maps.{CanHold, last_index}
use Rattle.iv_types.specs.Definitions.{Definitions, AreNumbered, numbered as defined_at}
use Rattle.iv_types.specs.Encoding.{FitAll, kinds_of, key_bytes, row_bytes}
use Rattle.iv_types.specs.declared.catalog.Definition.{Definition}
use Rattle.iv_types.specs.declared.catalog.Definition.TheVariants.{Table, Index, View}
use Rattle.iv_types.specs.declared.catalog.IndexDef.{IndexDef}
use Rattle.iv_types.specs.declared.catalog.TableDef.{TableDef}
use Rattle.iv_types.specs.declared.lock.IndexEntry.{IndexEntry}
use Rattle.iv_types.specs.declared.value.Value.{Value}
use Rattle.iv_meaning.specs.Objects.{schema_of}
use Rattle.iv_meaning.specs.Schema as schema
use Rattle.iv_meaning.specs.Schema.{Schema, Object, items_at, indexes_of, numbered, kinds_of_table, primary_of}
use Rattle.iv_meaning.specs.Shape.{width, key_width}
use Rattle.iv_meaning.specs.View.{index_key}
use Rattle.query_laws.specs.Limited.{IsLimited}
use Rattle.query_laws.proofs.LimitedLemmas.{numbers_law}
use Rattle.query_laws.proofs.Widths.{width_law}
use Rattle.table_store.specs.Stored.{table_of, index_of, as_index, IsIndexOf, StandsUnder}
use Rattle.table_store.specs.Changes.{CanHoldEach, own_entries, entry_in, has_key}
use Rattle.table_store.proofs.Fresh.{in_schema}
use Rattle.table_store.proofs.IndexKeys.{items_fit}
use Rattle.table_store.proofs.TableIndexes.{each_flat, indexes_are}
use Rattle.data_store.proofs.Finding.{object_at}

-- a number of an object is at most 192
pub few_numbers : (objects : Schema) (n : ℕ) (o : Object) → IsLimited objects → numbered objects n ≡ Some o → n ≤ last_index
few_numbers objects zero o limited e = omega arith
few_numbers objects (suc n) o limited e = let lt : n < length objects = slice_get_within objects n o e in let most : length objects ≤ 192 = numbers_law.1 objects limited in omega (arith, lt, most)

is_index : (o : Option Definition) (i : IndexDef) → as_index o ≡ Some i → o ≡ Some (Index i)
is_index None i e = absurd cc
is_index (Some (Index j)) i e = let same : j ≡ i = cc in ap (λ x. Some (Index x)) same
is_index (Some (Table t)) i e = absurd cc
is_index (Some (View v)) i e = absurd cc

-- an index that CREATE INDEX made, in the schema
pub index_in_schema : (ds : Definitions) (n : ℕ) (i : IndexDef) → index_of ds n ≡ Some i → numbered (schema_of ds) n ≡ Some (schema.index i)
index_in_schema ds n i e = object_at ds n (Index i) (is_index (defined_at ds n) i e)

module _ (ds : Definitions) (are : AreNumbered ds) (limited : IsLimited (schema_of ds)) (t : TableDef) (is : table_of ds t.number ≡ Some t) where
  its_object : numbered (schema_of ds) t.number ≡ Some (schema.table t)
  its_object = in_schema ds t.number t is

  primary_holds : (key : List ℕ) (row : List Value) → StandsUnder t key row → CanHold t.number key (row_bytes (kinds_of t) row)
  primary_holds key row stands =
      let narrow = limited.narrow t.number (schema.table t) its_object in
      let bytes = (width_law (items_at (kinds_of t) t.primary) (items_at row t.primary) (items_fit (kinds_of t) row t.primary stands.0)).1 in
      let long : length key ≡ length (key_bytes (items_at (kinds_of t) t.primary) (items_at row t.primary)) = ap length stands.1 in
      let wide = (width_law (kinds_of t) row stands.0).0 in
      let one = narrow.0 in
      let other = narrow.1 in
      record { of_index = few_numbers (schema_of ds) t.number (schema.table t) limited its_object; of_key = omega (arith, bytes, long, one); of_value = omega (arith, wide, other) }

  index_holds : (i : IndexDef) (row : List Value) → IsIndexOf ds t i → FitAll (kinds_of t) row → CanHold i.number (index_key t i row) []
  index_holds i row of fits =
      let its : numbered (schema_of ds) i.number ≡ Some (schema.index i) = index_in_schema ds i.number i of.is in
      let narrow = limited.narrow i.number (schema.index i) its in
      let same : numbered (schema_of ds) i.table ≡ Some (schema.table t) = ap (numbered (schema_of ds)) of.of_table ∙ its_object in
      let here = subst (λ o. width key_width (items_at (kinds_of_table o) (i.columns ++ primary_of o)) ≤ 1024) same narrow in
      let bytes = (width_law (items_at (kinds_of t) (i.columns ++ t.primary)) (items_at row (i.columns ++ t.primary)) (items_fit (kinds_of t) row (i.columns ++ t.primary) fits)).1 in
      record { of_index = few_numbers (schema_of ds) i.number (schema.index i) limited its; of_key = omega (arith, bytes, here); of_value = omega arith }

  pub each_held : (key : List ℕ) (one other : Option (List Value)) → IfSome one (StandsUnder t key) → CanHoldEach (own_entries ds t key one other)
  each_held key None other h = tt
  each_held key (Some row) other h = (
    primary_holds key row h,
    each_flat (IsIndexOf ds t) (λ (e : IndexEntry). CanHold e.index e.key e.value) (entry_in t row other)
        (λ i of. elim (has_key t i other (index_key t i row)) as (λ b. AllByRecursion (λ (e : IndexEntry). CanHold e.index e.key e.value) (cond b [] (record { index = i.number; key = index_key t i row; value = [] } ∷ []))) [
          | true ↦ tt
          | false ↦ (index_holds i row of h.0, tt)
        ]) (indexes_of (schema_of ds) t.number) (indexes_are ds t are).all,
  )
