-- Lemmas on lists that are seen as others.
use Rattle.std.proofs.Common.{◌≡◌, ℕ, ◌==◌, Bool, ◌&&◌, ◌||◌, List, [], ◌∷◌, length, map}
use Rattle.std.proofs.lemmas.List.{length-map}
use mathlib.Core.Path.{refl, sym, ap, ◌∙◌}
use Rattle.std.specs.List.{list_all, list_any}
use Rattle.iv_types.specs.declared.value.Kind.{Kind}
use Rattle.iv_types.specs.Trees.{perhaps_tree, tree, trees}
use Rattle.iv_types.specs.declared.bound.BoundSet.{BoundSet}
use Rattle.iv_types.specs.declared.expression.Expr.{Expr}
use Rattle.iv_meaning.specs.Bound.{set_tree}
use Rattle.iv_meaning.specs.Tests.{same_number}
use Rattle.iv_meaning.specs.Schema.{Schema, Object}
use Rattle.iv_meaning.specs.Objects.{object_of}
use Rattle.iv_meaning.specs.Shape.{repeats}
use Rattle.iv_meaning.specs.Types.{family, is_truth, condition_typed, item_typed, kinds_seen, query_typed, sources_of}
use Rattle.bind_resolve.specs.declared.resolved.ResolvedQuery.{ResolvedQuery}
use Rattle.bind_resolve.specs.Seen.{item_seen, joined_seen, query_seen}
use Rattle.bind_check.specs.Families.{query_by}

pub any_is : {X Y : Type 0} (p : Y → Bool) (f : X → Y) (xs : List X) → list_any (λ x. p (f x)) xs ≡ list_any p (map f xs)
any_is p f [] = refl
any_is p f (x ∷ xs) = ap (λ t. p (f x) || t) (any_is p f xs)

pub all_is : {X Y : Type 0} (p : Y → Bool) (f : X → Y) (xs : List X) → list_all (λ x. p (f x)) xs ≡ list_all p (map f xs)
all_is p f [] = refl
all_is p f (x ∷ xs) = ap (λ t. p (f x) && t) (all_is p f xs)

pub repeats_is : {X Y : Type 0} (same : Y → Y → Bool) (f : X → Y) (xs : List X) → repeats (λ a b. same (f a) (f b)) xs ≡ repeats same (map f xs)
repeats_is same f [] = refl
repeats_is same f (x ∷ xs) = ap (λ t. t || repeats (λ a b. same (f a) (f b)) xs) (any_is (same (f x)) f xs) ∙ ap (λ t. list_any (same (f x)) (map f xs) || t) (repeats_is same f xs)

are_long : (count : ℕ) (tuples : List (List Expr)) → list_all (λ tuple. length tuple == count) tuples ≡ list_all (λ tuple. length tuple == count) (map trees tuples)
are_long count [] = refl
are_long count (t ∷ ts) =
    ap (λ n. (n == count) && list_all (λ tuple. length tuple == count) ts) (sym (length-map t tree))
    ∙ ap (λ b. (length (trees t) == count) && b) (are_long count ts)

pub any_seen : {X Y : Type 0} (p : Y → Bool) (f : X → Y) (xs : List X) (b : Bool) → b ≡ list_any (λ x. p (f x)) xs → b ≡ list_any p (map f xs)
any_seen p f xs b e = e ∙ any_is p f xs

pub all_seen : {X Y : Type 0} (p : Y → Bool) (f : X → Y) (xs : List X) (b : Bool) → b ≡ list_all (λ x. p (f x)) xs → b ≡ list_all p (map f xs)
all_seen p f xs b e = e ∙ all_is p f xs

-- tuples of so many values
pub all_long : (count : ℕ) (tuples : List (List Expr)) (b : Bool) → b ≡ list_all (λ tuple. length tuple == count) tuples → b ≡ list_all (λ tuple. length tuple == count) (map trees tuples)
all_long count tuples b e = e ∙ are_long count tuples

-- of the relations of FROM, the first or another
pub any_source : (p : Object → Bool) (q : ResolvedQuery) (b : Bool) → b ≡ (p (object_of q.first.now) || list_any (λ j. p (object_of j.object.now)) q.joins) → b ≡ list_any p (sources_of (query_seen q))
any_source p q b e = e ∙ ap (λ t. p (object_of q.first.now) || t) (any_is (λ j. p j.object) joined_seen q.joins ∙ any_is p (λ j. j.object) (map joined_seen q.joins))

-- the columns that are set
pub set_twice : (sets : List BoundSet) → repeats same_number (map (λ a. a.column) sets) ≡ repeats (λ a b. a.column == b.column) (map set_tree sets)
set_twice sets = sym (repeats_is same_number (λ a. a.column) sets) ∙ repeats_is (λ a b. a.column == b.column) set_tree sets

-- the types of a query, whose kinds were read
pub typed_query : (q : ResolvedQuery) (objects : Schema) (kinds : List (List Kind)) → kinds ≡ kinds_seen objects (query_seen q) → query_by kinds q ≡ query_typed objects (query_seen q)
typed_query q objects kinds e =
    ap (λ ks. query_by ks q) e
    ∙ (ap (λ t. t && list_all (λ j. is_truth (family (kinds_seen objects (query_seen q)) (joined_seen j).on)) q.joins && condition_typed (kinds_seen objects (query_seen q)) (perhaps_tree q.condition))
    (all_is (λ i. item_typed (kinds_seen objects (query_seen q)) i.item) item_seen q.items)
    ∙ ap (λ t. list_all (λ i. item_typed (kinds_seen objects (query_seen q)) i.item) (map item_seen q.items) && t && condition_typed (kinds_seen objects (query_seen q)) (perhaps_tree q.condition))
    (all_is (λ j. is_truth (family (kinds_seen objects (query_seen q)) j.on)) joined_seen q.joins))
