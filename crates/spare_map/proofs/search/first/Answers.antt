use Rattle.std.proofs.Common.{rules, ◌≡◌, ◌++◌, ◌∷◌, true, false, ap, ◌∙◌}
use Rattle.std.specs.Option.{option_copied, option_map}
use Rattle.table_laws.specs.Place.{Place}
use Rattle.spare_map.specs.Trees.{items, own, place, is_from}
use Rattle.spare_map.proofs.Lists.{or_else}
use Rattle.spare_map.proofs.Around.{sorted_left, sorted_right, first_of_left, first_of_right}
use Rattle.spare_map.proofs.search.first.Goals as goal

pub loop-at-preserved-then-is_from : goal.loop-at-preserved-then-is_from
loop-at-preserved-then-is_from g c =
    let k : Place = (c.args.index, c.args.key.now) in
    let t = items c.loop-at.at.now in
    let e = c.deref-node.result.now in
    let is : items c.loop-at.at.now ≡ items e.left ++ own e ∷ items e.right = search rules in
    let passes : is_from c.args.past k (place e) ≡ true = search rules in (
      sorted_left k t (items e.left) (items e.right) (own e) is c.loop-at.invariant.0,
      c.loop-at.invariant.1 ∙ first_of_left (is_from c.args.past k) t (items e.left) (items e.right) (own e) (option_map own (option_copied c.loop-at.best)) is passes,
    )

pub loop-at-preserved : goal.loop-at-preserved
loop-at-preserved g c =
    let k : Place = (c.args.index, c.args.key.now) in
    let t = items c.loop-at.at.now in
    let e = c.deref-node.result.now in
    let is : items c.loop-at.at.now ≡ items e.left ++ own e ∷ items e.right = search rules in
    let fails : is_from c.args.past k (place e) ≡ false = search rules in (
      sorted_right k t (items e.left) (items e.right) (own e) is c.loop-at.invariant.0,
      c.loop-at.invariant.1 ∙ ap (λ x. or_else x (option_map own (option_copied c.loop-at.best))) (first_of_right c.args.past k t (items e.left) (items e.right) (own e) is c.loop-at.invariant.0 fails),
    )
