use Rattle.std.proofs.Common.{rules, ◌≡◌, IfOk}
use mathlib.Core.Path.{subst}
use Rattle.std.proofs.lemmas.Fn.{always_returns_same}
use Rattle.row_eval.proofs.Groups.{derived}
use Rattle.row_order.proofs.KeyOrders.{by_key, derived_weak, keys_sorted}
use Rattle.row_order.proofs.key_order.sorted_by.Goals as goal

pub returns : goal.returns
returns c =
    subst (λ rows. IfOk c.without_keys.result (λ sorted. sorted ≡ rows))
    (keys_sorted c.args.key.now c.args.rows c.in_ok-rows.rows.items c.sort_by.new.self.items c.in_ok-rows.ensures
    (c.in_ok-sort_by.ensures.sorted (by_key derived) derived_weak (always_returns_same _ _ _ (λ a r f' k. search rules)))
    (c.in_ok-sort_by.ensures.stable (by_key derived) derived_weak (always_returns_same _ _ _ (λ a r f' k. search rules))))
    c.without_keys.ensures
