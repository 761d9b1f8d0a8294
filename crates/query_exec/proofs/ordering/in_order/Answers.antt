use Rattle.std.proofs.Common.{rules, map, List}
use mathlib.Core.Path.{ap, ◌∙◌}
use Rattle.std.proofs.lemmas.Fn.{always_returns_same}
use Rattle.iv_meaning.specs.Query.{BoundOrder, ordered}
use Rattle.iv_meaning.specs.Bound.{order_tree}
use Rattle.query_exec.proofs.Orders.{before, before_weak, ordered_by}
use Rattle.query_exec.proofs.ordering.in_order.Goals as goal

pub returns : goal.returns
returns c =
    let os : List BoundOrder = map order_tree c.args.order.now in
    c.from_vec.ensures
    ∙ (ordered_by os c.into_vec-rows.result.items c.sort_by.new.self.items
    (c.in_ok-sort_by.ensures.sorted (before os) (before_weak os) (always_returns_same _ _ _ (λ a r f' k. search rules)))
    (c.in_ok-sort_by.ensures.stable (before os) (before_weak os) (always_returns_same _ _ _ (λ a r f' k. search rules)))
    ∙ ap (ordered os) c.into_vec-rows.ensures)
