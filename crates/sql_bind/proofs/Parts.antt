-- Lemmas on parts of resolved queries that a bound one takes over.
use Rattle.std.proofs.Common.{◌≡◌, List, [], ◌∷◌, ◌++◌, map, append-nil}
use mathlib.Core.Path.{sym, ap, ◌∙◌}
use Rattle.std.proofs.lemmas.List.{map-append}
use Rattle.std.proofs.lemmas.Simd.{map-map}
use Rattle.iv_types.specs.declared.bound.BoundItem.{BoundItem}
use Rattle.iv_types.specs.declared.expression.Expr.{Expr}
use Rattle.iv_types.specs.Trees.{tree, trees}
use Rattle.iv_meaning.specs.Bound.{item_tree}
use Rattle.bind_resolve.specs.declared.resolved.Joined.{Joined}
use Rattle.bind_resolve.specs.declared.resolved.NamedItem.{NamedItem}
use Rattle.bind_resolve.specs.Seen.{item_seen, joined_seen}

-- items without their names
pub items_are : (items : List NamedItem) (found : List BoundItem) → found ≡ map (λ i. i.item) items → map item_tree found ≡ map (λ i. i.item) (map item_seen items)
items_are items found is = ap (map item_tree) is ∙ (map-map item_tree (λ i. i.item) items ∙ sym (map-map (λ i. i.item) item_seen items))

-- joins without their relations
ons_are : (joins : List Joined) (found : List Expr) → found ≡ map (λ j. j.on) joins → trees found ≡ map (λ j. j.on) (map joined_seen joins)
ons_are joins found is = ap trees is ∙ (map-map tree (λ j. j.on) joins ∙ sym (map-map (λ j. j.on) joined_seen joins))

pub ons_alone : (joins : List Joined) (found : List Expr) → found ≡ map (λ j. j.on) joins → trees found ≡ map (λ j. j.on) (map joined_seen joins) ++ []
ons_alone joins found is = ons_are joins found is ∙ sym (append-nil (map (λ j. j.on) (map joined_seen joins)))

-- and a condition behind them
pub ons_and : (joins : List Joined) (found all : List Expr) (condition : Expr) → found ≡ map (λ j. j.on) joins → all ≡ found ++ condition ∷ []
    → trees all ≡ map (λ j. j.on) (map joined_seen joins) ++ tree condition ∷ []
ons_and joins found all condition is more =
    ap trees more ∙ (map-append tree found (condition ∷ []) ∙ ap (λ ts. ts ++ tree condition ∷ []) (ons_are joins found is))
