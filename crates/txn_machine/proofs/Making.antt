-- What a definition leaves of the views that were there.
use Rattle.std.specs.Prelude.{◌≡◌, ℕ, zero, suc, List, [], ◌∷◌, ◌++◌, map, filter, pos, ◌+ℤ◌, slice_get, Option, Some, None}
use Rattle.std.specs.List.{AllByRecursion, flat_map, filter_map}
use Rattle.std.specs.Option.{option_map_or, option_to_list}
use mathlib.Core.Path.{refl, ap, ◌∙◌}
use Rattle.std.proofs.Common.{arith, append-nil}
use Rattle.std.proofs.lemmas.Int.{ints}
use Rattle.std.proofs.lemmas.Grind.{flat_map-append}
use Rattle.std.proofs.lemmas.List.Elements.{filter_map-append, recursion_from_All}
use Rattle.std.proofs.lemmas.Option.{none-some}
use Rattle.iv_types.specs.declared.value.Kind.{Kind}
use Rattle.iv_types.specs.declared.catalog.Second.{Second}
use Rattle.iv_types.specs.Encoding.{key_bytes}
use Rattle.table_laws.specs.Place.{Place}
use Rattle.iv_meaning.specs.Schema.{Schema, Object, table, index, view, ViewTree, numbered, as_view, sources_of, kind_at, kinds_of_table, group_kinds, primary_of}
use Rattle.iv_meaning.specs.Database.{Rows, rows_of}
use Rattle.iv_meaning.specs.Values.{is_true, value_at}
use Rattle.iv_meaning.specs.Query.{combinations, conjunction, values_at}
use Rattle.iv_meaning.specs.Grouping.{number_in}
use Rattle.iv_meaning.specs.View.{conditions_of, join_conditions}
use Rattle.iv_meaning.specs.Sound.{IsTable, IsView}
use Rattle.txn_machine.specs.Deltas.{views_of, due}
use Rattle.txn_machine.specs.Fresh.{all_contributions, fresh, made_of}
use Rattle.txn_machine.specs.ViewLaws.{AreSound, IsJoin, IsJoined}
use Rattle.txn_machine.proofs.Summing.{due_append}

-- what holds of each numbered view holds of each of the views
views_from : (P : ViewTree → Type 0) (os : List Object) → ((i : ℕ) (v : ViewTree) → slice_get os i ≡ Some (view v) → P v) → AllByRecursion P (filter_map as_view os)
views_from P [] h = tt
views_from P (table t ∷ os) h = views_from P os (λ i v e. h (suc i) v e)
views_from P (index i ∷ os) h = views_from P os (λ i v e. h (suc i) v e)
views_from P (view v ∷ os) h = (h 0 v refl, views_from P os (λ i w e. h (suc i) w e))

pub each_view : (P : ViewTree → Type 0) (objects : Schema) → ((n : ℕ) (v : ViewTree) → numbered objects n ≡ Some (view v) → P v) → AllByRecursion P (views_of objects)
each_view P objects h = views_from P objects (λ i v e. h (suc i) v e)

pub flat_same : {X Y : Type 0} (f g : X → List Y) (xs : List X) → AllByRecursion (λ x. f x ≡ g x) xs → flat_map f xs ≡ flat_map g xs
flat_same f g [] h = refl
flat_same f g (x ∷ xs) h = λ i. h.0 i ++ flat_same f g xs h.1 i

pub map_same : {X Y : Type 0} (f g : X → Y) (xs : List X) → AllByRecursion (λ x. f x ≡ g x) xs → map f xs ≡ map g xs
map_same f g [] h = refl
map_same f g (x ∷ xs) h = λ i. h.0 i ∷ map_same f g xs h.1 i

get_more : {X : Type 0} (xs : List X) (y : X) (i : ℕ) (x : X) → slice_get xs i ≡ Some x → slice_get (xs ++ y ∷ []) i ≡ slice_get xs i
get_more [] y i x e = absurd (none-some x e)
get_more (z ∷ xs) y zero x e = refl
get_more (z ∷ xs) y (suc i) x e = get_more xs y i x e

pub numbered_more : (objects : Schema) (o : Object) (n : ℕ) (x : Object) → numbered objects n ≡ Some x → numbered (objects ++ o ∷ []) n ≡ numbered objects n
numbered_more objects o zero x e = refl
numbered_more objects o (suc n) x e = get_more objects o n x e

each_map : {X : Type 0} (P Q : X → Type 0) (xs : List X) → ((x : X) → P x → Q x) → AllByRecursion P xs → AllByRecursion Q xs
each_map P Q [] f h = tt
each_map P Q (x ∷ xs) f h = (f x h.0, each_map P Q xs f h.1)

module _ (objects : Schema) (o : Object) (v : ViewTree) (is : IsView objects v) (joined : IsJoined objects v) where
  abbrev more : Schema
  more = objects ++ o ∷ []

  pub kinds_stay : group_kinds more v ≡ group_kinds objects v
  kinds_stay = ap (λ (l : List (List Kind)). filter_map (kind_at l) v.group)
      (map_same (λ n. kinds_of_table (numbered more n)) (λ n. kinds_of_table (numbered objects n)) (sources_of v)
      (each_map (IsTable objects) (λ n. kinds_of_table (numbered more n) ≡ kinds_of_table (numbered objects n)) (sources_of v) (λ n t. ap kinds_of_table (numbered_more objects o n (table t.0) t.1)) (recursion_from_All (IsTable objects) (sources_of v) is.tables)))

  conditions_stay : conditions_of more v ≡ conditions_of objects v
  conditions_stay = go v.second joined
    where
      go : (s : Option Second) → elim s as (λ (x : Option Second). Type 0) [ None ↦ Unit {0} | Some second ↦ IsJoin objects v second ]
          → option_map_or (λ second. join_conditions second.joined (primary_of (numbered more second.table))) s [] ++ option_to_list v.condition
          ≡ option_map_or (λ second. join_conditions second.joined (primary_of (numbered objects second.table))) s [] ++ option_to_list v.condition
      go None j = refl
      go (Some second) j = ap (λ x. join_conditions second.joined (primary_of x) ++ option_to_list v.condition) (numbered_more objects o second.table (table j.other) j.other_is)

  stays : (rows : Rows) → all_contributions more rows v ≡ all_contributions objects rows v
  stays rows = λ i. map (λ c. record { view = v.number; group = key_bytes (kinds_stay i) (values_at v.group c); count = pos 1; sums = map (λ column. number_in (value_at c column)) v.sums })
      (filter (λ c. is_true (conjunction (conditions_stay i) c)) (combinations (map (rows_of rows) (sources_of v))))

new_views : (objects : Schema) (rows : Rows) (o : Object) → flat_map (all_contributions objects rows) (filter_map as_view (o ∷ [])) ≡ made_of objects rows o
new_views objects rows (table t) = refl
new_views objects rows (index i) = refl
new_views objects rows (view v) = append-nil (all_contributions objects rows v)

pub made_law : (objects : Schema) (rows : Rows) (o : Object) → AreSound objects rows → (p : Place) (column : ℕ)
    → fresh (objects ++ o ∷ []) rows p column ≡ fresh objects rows p column +ℤ due p column (made_of (objects ++ o ∷ []) rows o)
made_law objects rows o sound p column =
    let more : Schema = objects ++ o ∷ [] in
    let old : List ViewTree = views_of objects in
    let split : flat_map (all_contributions more rows) (views_of more) ≡ flat_map (all_contributions more rows) old ++ flat_map (all_contributions more rows) (filter_map as_view (o ∷ [])) =
    ap (flat_map (all_contributions more rows)) (filter_map-append as_view objects (o ∷ [])) ∙ flat_map-append (all_contributions more rows) old (filter_map as_view (o ∷ [])) in
    let whole : fresh more rows p column ≡ due p column (flat_map (all_contributions more rows) old) +ℤ due p column (flat_map (all_contributions more rows) (filter_map as_view (o ∷ []))) =
    ap (due p column) split ∙ due_append p column (flat_map (all_contributions more rows) old) (flat_map (all_contributions more rows) (filter_map as_view (o ∷ []))) in
    let stay : due p column (flat_map (all_contributions more rows) old) ≡ fresh objects rows p column =
    ap (due p column) (flat_same (all_contributions more rows) (all_contributions objects rows) old
    (each_view (λ v. all_contributions more rows v ≡ all_contributions objects rows v) objects (λ n v e. stays objects o v (sound.objects n (view v) e).1 (sound.joins n v e) rows))) in
    let new : due p column (flat_map (all_contributions more rows) (filter_map as_view (o ∷ []))) ≡ due p column (made_of more rows o) = ap (due p column) (new_views more rows o) in
    omega (arith, ints)
