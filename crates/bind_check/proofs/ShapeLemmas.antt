-- Lemmas on the items of a view, and on arithmetic.
use Rattle.std.proofs.Common.{◌≡◌, is_some, Bool, false, ◌&&◌, ◌||◌, List, [], ◌∷◌, map}
use mathlib.Core.Path.{refl, sym, ap, ◌∙◌}
use Rattle.iv_types.specs.declared.expression.Op.{Op}
use Rattle.iv_types.specs.declared.expression.Op.TheVariants as op
use Rattle.std.specs.List.{list_all}
use Rattle.iv_types.specs.Syntax.{Tree, pair}
use Rattle.iv_meaning.specs.Query.{BoundItem, count, sum, plain}
use Rattle.iv_meaning.specs.Resolving.{NamedItem}
use Rattle.iv_meaning.specs.Shape.{has_arithmetic, are_sums, is_count_and_sums}
use Rattle.bind_check.specs.Shapes.{is_arithmetic, is_named_count, is_named_sum}
use Rattle.bind_resolve.specs.declared.resolved.NamedItem.{NamedItem as Item}
use Rattle.bind_resolve.specs.Seen.{item_seen}

-- ---- arithmetic

pub pair_arithmetic : (op : Op) (a b : Tree) → has_arithmetic (pair op a b) ≡ (is_arithmetic op || (has_arithmetic a || has_arithmetic b))
pair_arithmetic op.And a b = refl
pair_arithmetic op.Or a b = refl
pair_arithmetic op.Equal a b = refl
pair_arithmetic op.NotEqual a b = refl
pair_arithmetic op.Less a b = refl
pair_arithmetic op.AtMost a b = refl
pair_arithmetic op.Greater a b = refl
pair_arithmetic op.AtLeast a b = refl
pair_arithmetic op.Add a b = refl
pair_arithmetic op.Subtract a b = refl
pair_arithmetic op.Multiply a b = refl

-- ---- the items of a view

sum_at : (i : NamedItem) (is : List NamedItem) → are_sums (i ∷ is) ≡ (is_named_sum i && are_sums is)
sum_at i is = elim i.item as (λ (b : BoundItem). (elim b [ sum place ↦ is_some i.name && are_sums is | count ↦ false | plain e ↦ false ])
    ≡ ((elim b [ sum place ↦ is_some i.name | count ↦ false | plain e ↦ false ]) && are_sums is)) [ sum place ↦ refl | count ↦ refl | plain e ↦ refl ]

sums_seen : (is : List Item) → list_all (λ i. is_named_sum (item_seen i)) is ≡ are_sums (map item_seen is)
sums_seen [] = refl
sums_seen (i ∷ is) = ap (λ t. is_named_sum (item_seen i) && t) (sums_seen is) ∙ sym (sum_at (item_seen i) (map item_seen is))

pub sums_are : (is : List Item) (b : Bool) → b ≡ list_all (λ i. is_named_sum (item_seen i)) is → b ≡ are_sums (map item_seen is)
sums_are is b e = e ∙ sums_seen is

pub one_count : (i : NamedItem) (is : List NamedItem) → is_count_and_sums (i ∷ is) ≡ (is_named_count i && are_sums is)
one_count i is = elim i.item as (λ (b : BoundItem). (elim b [ count ↦ is_some i.name && are_sums is | sum place ↦ false | plain e ↦ false ])
    ≡ ((elim b [ count ↦ is_some i.name | sum place ↦ false | plain e ↦ false ]) && are_sums is)) [ sum place ↦ refl | count ↦ refl | plain e ↦ refl ]
