-- Lemmas on what the limits count.
use Rattle.std.proofs.Common.{◌≡◌, ℕ, ◌+◌, Bool, false, cond, List, length, is_some, Option, Some, None, arith}
use mathlib.Core.Path.{refl, sym, ◌∙◌}
use Rattle.std.specs.List.{count_by, filter_map, cons_option}
use Rattle.std.specs.Option.{option_map_or}
use Rattle.std.proofs.lemmas.List.Recursion.{is_count_by}
use Rattle.iv_types.specs.declared.catalog.Definition.{Definition}
use Rattle.iv_types.specs.declared.catalog.Definition.TheVariants.{Table, Index, View}
use Rattle.iv_types.specs.Definitions as definitions
use Rattle.iv_meaning.specs.Schema.{Object, ViewTree, as_index, as_table, as_view}
use Rattle.iv_meaning.specs.Resolving.{how_many}
use Rattle.iv_meaning.specs.Objects.{object_of, schema_of}
use Rattle.iv_meaning.specs.Shape.{object_number, readers}
use Rattle.bind_check.specs.Counting.{count_of, is_a, reads}
use Rattle.bind_check.specs.declared.objects.ObjectKind.{ObjectKind}
use Rattle.bind_check.specs.declared.objects.ObjectKind.TheVariants as kind
use Rattle.bind_resolve.proofs.Steps.{one_more}

pub number_is : (d : Definition) → definitions.number_of d ≡ object_number (object_of d)
number_is (Table t) = refl
number_is (Index i) = refl
number_is (View v) = refl

-- ---- what passes a test

at_kept : {Y : Type 0} (o : Option Y) (ys : List Y) → length (cons_option o ys) ≡ cond (is_some o) (1 + length ys) (length ys)
at_kept None ys = refl
at_kept (Some y) ys = omega arith

kept_by : {Y : Type 0} (f : Object → Option Y) (ds : List Definition) → count_by (λ d. is_some (f (object_of d))) ds ≡ length (filter_map f (schema_of ds))
kept_by f ds = sym (is_count_by (λ xs. length (filter_map f (schema_of xs))) (λ d. is_some (f (object_of d))) refl (λ d xs. at_kept (f (object_of d)) (filter_map f (schema_of xs))) ds)

pub kept : (k : ObjectKind) (ds : List Definition) (n : ℕ) → n ≡ count_by (λ d. is_a k (object_of d)) ds → n ≡ count_of k (schema_of ds)
kept kind.Table ds n e = e ∙ kept_by as_table ds
kept kind.Index ds n e = e ∙ kept_by as_index ds
kept kind.View ds n e = e ∙ kept_by as_view ds

pub counted : {X : Type 0} (p : X → Bool) (xs : List X) (n : ℕ) → n ≡ count_by p xs → n ≡ how_many p xs
counted p xs n e = e ∙ sym (is_count_by (how_many p) p refl (λ x ys. one_more (p x) (how_many p ys)) xs)

-- ---- the views that read a table

at_view : (p : ViewTree → Bool) (o : Option ViewTree) (vs : List ViewTree) → how_many p (cons_option o vs) ≡ cond (option_map_or p o false) (1 + how_many p vs) (how_many p vs)
at_view p None vs = refl
at_view p (Some v) vs = one_more (p v) (how_many p vs)

pub readers_are : (ds : List Definition) (number : ℕ) → count_by (λ d. option_map_or (reads number) (as_view (object_of d)) false) ds ≡ readers (schema_of ds) number
readers_are ds number =
    sym (is_count_by (λ xs. readers (schema_of xs) number) (λ d. option_map_or (reads number) (as_view (object_of d)) false) refl
    (λ d xs. at_view (reads number) (as_view (object_of d)) (filter_map as_view (schema_of xs))) ds)
