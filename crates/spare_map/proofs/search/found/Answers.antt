use Rattle.std.proofs.Common.{rules, ◌≡◌, ◌++◌, ◌∷◌, sym, ◌∙◌, Less, Equal, Greater}
use Rattle.table_laws.specs.Place.{Place, place_cmp}
use Rattle.spare_map.specs.Trees.{items, own, place}
use Rattle.spare_map.proofs.Around.{sorted_left, sorted_right, find_left, find_right, find_here}
use Rattle.spare_map.proofs.search.found.Goals as goal

pub loop-at-preserved-in-Less : goal.loop-at-preserved-in-Less
loop-at-preserved-in-Less g c =
    let k : Place = (c.args.index, c.args.key.now) in
    let t = items c.loop-at.at.now in
    let e = c.deref-node.result.now in
    let is : items c.loop-at.at.now ≡ items e.left ++ own e ∷ items e.right = search rules in
    let order : place_cmp k (place e) ≡ Less = search rules in (
      sorted_left k t (items e.left) (items e.right) (own e) is c.loop-at.invariant.0,
      c.loop-at.invariant.1 ∙ find_left k t (items e.left) (items e.right) (own e) is c.loop-at.invariant.0 order,
    )

pub loop-at-preserved : goal.loop-at-preserved
loop-at-preserved g c =
    let k : Place = (c.args.index, c.args.key.now) in
    let t = items c.loop-at.at.now in
    let e = c.deref-node.result.now in
    let is : items c.loop-at.at.now ≡ items e.left ++ own e ∷ items e.right = search rules in
    let order : place_cmp k (place e) ≡ Greater = search rules in (
      sorted_right k t (items e.left) (items e.right) (own e) is c.loop-at.invariant.0,
      c.loop-at.invariant.1 ∙ find_right k t (items e.left) (items e.right) (own e) is c.loop-at.invariant.0 order,
    )

pub returns-in-Equal : goal.returns-in-Equal
returns-in-Equal g c =
    let k : Place = (c.args.index, c.args.key.now) in
    let t = items c.loop-at.at.now in
    let e = c.deref-node.result.now in
    let is : items c.loop-at.at.now ≡ items e.left ++ own e ∷ items e.right = search rules in
    let order : place_cmp k (place e) ≡ Equal = search rules in
    sym (c.loop-at.invariant.1 ∙ find_here k t (items e.left) (items e.right) (own e) is c.loop-at.invariant.0 order)
