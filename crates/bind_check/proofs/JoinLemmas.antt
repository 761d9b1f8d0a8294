-- Lemmas on the terms by which two relations are joined.
use Rattle.std.proofs.Common.{◌≡◌, ℕ, ◌+◌, ◌==◌, Bool, ◌&&◌, List, [], ◌∷◌, ◌++◌, map, Some, if◌then◌else◌}
use mathlib.Core.Path.{refl, ap, ◌∙◌}
use Rattle.std.specs.List.{list_all}
use Rattle.std.proofs.lemmas.List.{map-append}
use Rattle.std.proofs.lemmas.List.Folds.{list_all-map}
use Rattle.iv_types.specs.declared.expression.Op.TheVariants as op
use Rattle.iv_types.specs.declared.expression.ColumnAt.{ColumnAt}
use Rattle.iv_types.specs.declared.catalog.TableDef.{TableDef}
use Rattle.iv_types.specs.Syntax.{Tree, number, word, named, at, not, minus, pair}
use Rattle.iv_meaning.specs.Resolving.{how_many}
use Rattle.iv_meaning.specs.Shape.{terms, joins_by, joins_key, joins_whole_key}
use Rattle.bind_check.specs.Joining.{place_in}
use Rattle.bind_check.specs.Joining.{perhaps_joined, pairs_of, is_key, is_of_column}

-- ---- terms

pub pairs_both : (a b : Tree) → pairs_of (pair op.And a b) ≡ pairs_of a ++ pairs_of b
pairs_both a b = map-append joins_by (terms a) (terms b)

left_place : (a : ColumnAt) (y : Tree) → joins_by (pair op.Equal (at a) y) ≡ perhaps_joined (Some a) (place_in y)
left_place a (at b) = refl
left_place a (number n) = refl
left_place a (word w) = refl
left_place a (named r) = refl
left_place a (not e) = refl
left_place a (minus e) = refl
left_place a (pair o e f) = refl

equal_places : (x y : Tree) → joins_by (pair op.Equal x y) ≡ perhaps_joined (place_in x) (place_in y)
equal_places (at a) y = left_place a y
equal_places (number n) y = refl
equal_places (word w) y = refl
equal_places (named r) y = refl
equal_places (not e) y = refl
equal_places (minus e) y = refl
equal_places (pair o e f) y = refl

pub pairs_equal : (a b : Tree) → pairs_of (pair op.Equal a b) ≡ perhaps_joined (place_in a) (place_in b) ∷ []
pairs_equal a b = ap (λ p. p ∷ []) (equal_places a b)

-- ---- two tables by a whole key

list_all_same : {X : Type 0} (p q : X → Bool) → ((x : X) → p x ≡ q x) → (xs : List X) → list_all p xs ≡ list_all q xs
list_all_same p q h [] = refl
list_all_same p q h (x ∷ xs) = ap (λ t. t && list_all p xs) (h x) ∙ ap (λ t. q x && t) (list_all_same p q h xs)

counted : (t u : Bool) (m n : ℕ) → t ≡ u → m ≡ n → (if t then m + 1 else m) ≡ (if u then n + 1 else n)
counted t u m n e h = ap (λ v. if v then m + 1 else m) e ∙ ap (λ k. if u then k + 1 else k) h

how_many-map : {X Y : Type 0} (p : Y → Bool) (f : X → Y) (xs : List X) → how_many p (map f xs) ≡ how_many (λ x. p (f x)) xs
how_many-map p f [] = refl
how_many-map p f (x ∷ xs) = counted (p (f x)) (p (f x)) (how_many p (map f xs)) (how_many (λ y. p (f y)) xs) refl (how_many-map p f xs)

pub whole_key : (first second : TableDef) (t : Tree)
    → (list_all (is_key first second) (pairs_of t) && list_all (λ place. how_many (is_of_column place) (pairs_of t) == 1) second.primary) ≡ joins_whole_key first second (terms t)
whole_key first second t =
    ap (λ b. b && list_all (λ place. how_many (is_of_column place) (pairs_of t) == 1) second.primary) (list_all-map (is_key first second) joins_by (terms t))
    ∙ ap (λ b. list_all (joins_key first second) (terms t) && b)
    (list_all_same (λ place. how_many (is_of_column place) (pairs_of t) == 1) (λ place. how_many (λ e. is_of_column place (joins_by e)) (terms t) == 1)
    (λ place. ap (λ n. n == 1) (how_many-map (is_of_column place) joins_by (terms t))) second.primary)
