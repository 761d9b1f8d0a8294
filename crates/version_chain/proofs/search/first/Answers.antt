use Rattle.std.proofs.Common.{rules, ◌≡◌, ◌++◌, ◌∷◌, true, false, ap, ◌∙◌}
use Rattle.std.specs.Option.{option_copied, option_map}
use Rattle.version_chain.specs.Versions.{Moment, is_from}
use Rattle.version_chain.specs.Trees.{items, own}
use Rattle.spare_map.proofs.Lists.{or_else}
use Rattle.version_chain.proofs.Around.{sorted_left, sorted_right, first_of_left, first_of_right}
use Rattle.version_chain.proofs.search.first.Goals as goal

pub loop-at-preserved-then-is_from : goal.loop-at-preserved-then-is_from
loop-at-preserved-then-is_from g c =
    let m : Moment = ((c.args.index, c.args.key.now), c.args.number) in
    let t = items c.loop-at.at.now in
    let e = c.deref-node.result.now in
    let is : items c.loop-at.at.now ≡ items e.left ++ own e ∷ items e.right = search rules in
    let passes : is_from c.args.past m (own e) ≡ true = search rules in (
      sorted_left t (items e.left) (items e.right) (own e) is c.loop-at.invariant.0,
      c.loop-at.invariant.1 ∙ first_of_left t (items e.left) (items e.right) (own e) is (is_from c.args.past m) (option_map own (option_copied c.loop-at.best)) passes,
    )

pub loop-at-preserved : goal.loop-at-preserved
loop-at-preserved g c =
    let m : Moment = ((c.args.index, c.args.key.now), c.args.number) in
    let t = items c.loop-at.at.now in
    let e = c.deref-node.result.now in
    let is : items c.loop-at.at.now ≡ items e.left ++ own e ∷ items e.right = search rules in
    let fails : is_from c.args.past m (own e) ≡ false = search rules in (
      sorted_right t (items e.left) (items e.right) (own e) is c.loop-at.invariant.0,
      c.loop-at.invariant.1 ∙ ap (λ x. or_else x (option_map own (option_copied c.loop-at.best))) (first_of_right t (items e.left) (items e.right) (own e) is c.loop-at.invariant.0 c.args.past m fails),
    )
