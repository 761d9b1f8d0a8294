use Rattle.std.proofs.Common.{◌≡◌, ◌≤◌, ◌-◌, ◌^◌, min, ◌∙◌, sym, ap, arith}
use Rattle.iv_types.specs.Maps.{used}
use Rattle.ordered_index.specs.Tree.{Tree, map_of}
use Rattle.ordered_index.specs.Good.{tree_of}
use Rattle.ordered_index.proofs.Maps.{used_counted_all}
use Rattle.ordered_index.proofs.page_maps.PageMapsSortedMaps.used.Goals as goal

pub returns-clause-exact : goal.returns-clause-exact
returns-clause-exact c =
    let v = c.self.invariant in
    v.sum ∙ sym (used_counted_all (tree_of c.self.inside) v.forest.rising v.top) ∙ ap (λ (t : Tree). used (map_of t)) c.self.view_is

pub returns-clause-most : goal.returns-clause-most
returns-clause-most c =
    let v = c.self.invariant in
    let a = c.self.inside in
    let exact : a.used ≡ used (map_of c.args.self.now) = v.sum ∙ sym (used_counted_all (tree_of a) v.forest.rising v.top) ∙ ap (λ (t : Tree). used (map_of t)) c.self.view_is in
    let fits : a.used ≤ 2 ^ 64 - 1 = omega (arith, v.sum, v.within, v.most) in
    let same : a.used ≡ min a.used (2 ^ 64 - 1) = omega arith in
    same ∙ ap (λ n. min n (2 ^ 64 - 1)) exact
