-- No clause of `run` rests on this module: it serves contracts between crates.
--
-- What the types of expressions are.
use Rattle.std.specs.Prelude.{◌&&◌, Bool, List, Option}
use Rattle.std.specs.List.{list_all}
use Rattle.std.specs.Option.{option_map}
use Rattle.iv_types.specs.declared.value.Kind.{Kind}
use Rattle.iv_types.specs.Trees.{perhaps_tree}
use Rattle.iv_meaning.specs.Types as types
use Rattle.iv_meaning.specs.Types.{family, is_truth, condition_typed, item_typed}
use Rattle.bind_resolve.specs.declared.resolved.ResolvedQuery.{ResolvedQuery}
use Rattle.bind_resolve.specs.Seen.{item_seen, joined_seen}
use Rattle.bind_check.specs.declared.typing.Family.{Family}
use Rattle.bind_check.specs.declared.typing.Family.TheVariants as families

abbrev pub family_of : Family → types.Family
family_of families.Number = types.number
family_of families.Text = types.text
family_of families.Truth = types.truth

abbrev pub perhaps_family : Option Family → Option types.Family
perhaps_family = option_map family_of

-- it is of this family
abbrev pub is_a : Family → Option types.Family → Bool
is_a families.Number f = types.is_number f
is_a families.Text f = types.is_text f
is_a families.Truth f = types.is_truth f

-- the types of a query whose relations have columns of these kinds
abbrev pub query_by : List (List Kind) → ResolvedQuery → Bool
query_by kinds q =
    list_all (λ i. item_typed kinds (item_seen i).item) q.items
    && list_all (λ j. is_truth (family kinds (joined_seen j).on)) q.joins
    && condition_typed kinds (perhaps_tree q.condition)
