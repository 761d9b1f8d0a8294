-- Lemmas on results that are collected one after another, until one is refused.
use Rattle.std.specs.Prelude.{◌≡◌, ◌<◌, ◌≤◌, ◌+◌, ℕ, List, [], ◌∷◌, ◌++◌, length, drop, get_or, Option, Some, None}
use Rattle.std.specs.Option.{option_map, option_zip}
use Rattle.std.proofs.Common.{append_assoc, append-nil}
use Rattle.std.proofs.lemmas.List.{at_drop_more, at_drop_all}
use mathlib.Core.Path.{refl, sym, ap, ◌∙◌}
use Rattle.iv_types.specs.declared.value.Kind.{Kind}
use Rattle.iv_types.specs.declared.expression.Expr.{Expr}
use Rattle.iv_types.specs.Trees.{tree, trees}
use Rattle.iv_meaning.specs.Grouping.{all_of}
use Rattle.iv_meaning.specs.Values.{meaning}
use Rattle.iv_meaning.specs.Statement.{stored, tuple_values}

-- what was found, and all that is still to come
abbrev pub behind : {X : Type 0} → List X → List (Option X) → Option (List X)
behind found os = option_map (λ more. found ++ more) (all_of os)

one_more : {X : Type 0} (found : List X) (x : X) (more : Option (List X))
    → option_map (λ rest. found ++ rest) (option_map (λ p. p.0 ∷ p.1) (option_zip (Some x) more)) ≡ option_map (λ rest. (found ++ x ∷ []) ++ rest) more
one_more found x None = refl
one_more found x (Some rest) = ap Some (sym (append_assoc found (x ∷ []) rest))

pub goes_on : {X : Type 0} (found after : List X) (o : Option X) (os : List (Option X)) (x : X) → o ≡ Some x → after ≡ found ++ x ∷ []
    → behind found (o ∷ os) ≡ behind after os
goes_on found after o os x e is = ap (λ p. behind found (p ∷ os)) e ∙ (one_more found x (all_of os) ∙ ap (λ xs. behind xs os) (sym is))

pub stops : {X : Type 0} (found : List X) (o : Option X) (os : List (Option X)) → o ≡ None → behind found (o ∷ os) ≡ None
stops found o os e = ap (λ p. behind found (p ∷ os)) e

pub ends : {X : Type 0} (found : List X) → behind found [] ≡ Some found
ends found = ap Some (append-nil found)

-- ---- the values of a tuple

pub next_value : (kinds : List Kind) (tuple : List Expr) (i : ℕ) (d : Kind) (e : Expr) → i < length kinds → i < length tuple → e ≡ get_or tuple i e
    → tuple_values (drop i kinds) (trees (drop i tuple)) ≡ stored (get_or kinds i d) (meaning (tree e) []) ∷ tuple_values (drop (i + 1) kinds) (trees (drop (i + 1) tuple))
next_value kinds tuple i d e p q is =
    at_drop_more (λ ks. tuple_values ks (trees (drop i tuple))) kinds i d p
    ∙ (at_drop_more (λ es. tuple_values (get_or kinds i d ∷ drop (i + 1) kinds) (trees es)) tuple i e q
    ∙ ap (λ x. tuple_values (get_or kinds i d ∷ drop (i + 1) kinds) (trees (x ∷ drop (i + 1) tuple))) (sym is))

no_kinds : (es : List Expr) → tuple_values [] (trees es) ≡ []
no_kinds es = refl

no_tuple : (kinds : List Kind) → tuple_values kinds [] ≡ []
no_tuple [] = refl
no_tuple (k ∷ kinds) = refl

pub no_more_kinds : (kinds : List Kind) (tuple : List Expr) (i : ℕ) → length kinds ≤ i → tuple_values (drop i kinds) (trees (drop i tuple)) ≡ []
no_more_kinds kinds tuple i h = at_drop_all (λ ks. tuple_values ks (trees (drop i tuple))) kinds i h ∙ no_kinds (drop i tuple)

pub no_more_values : (kinds : List Kind) (tuple : List Expr) (i : ℕ) → length tuple ≤ i → tuple_values (drop i kinds) (trees (drop i tuple)) ≡ []
no_more_values kinds tuple i h = at_drop_all (λ es. tuple_values (drop i kinds) (trees es)) tuple i h ∙ no_tuple (drop i kinds)
