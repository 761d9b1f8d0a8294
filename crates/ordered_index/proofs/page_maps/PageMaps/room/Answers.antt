use Rattle.std.proofs.Common.{ℕ, ◌≡◌, ◌+◌, ◌-◌, ◌*◌, ◌∙◌, ap, subst, arith}
use Rattle.iv_types.specs.Maps.{used}
use Rattle.ordered_index.specs.Flat.{counted, items}
use Rattle.ordered_index.specs.Tree.{Tree, map_of, data_limit}
use Rattle.ordered_index.specs.Good.{tree_of}
use Rattle.ordered_index.proofs.Maps.{used_counted_all}
use Rattle.ordered_index.proofs.page_maps.PageMaps.room.Goals as goal

pub returns : goal.returns
returns c =
    let v = c.self.invariant in
    let a = c.self.inside in
    let all : used (map_of (tree_of a)) ≡ counted (items a.leaves.leaves) = used_counted_all (tree_of a) v.forest.rising v.top in
    let limit : counted (items a.leaves.leaves) + ((c.pages.result - 256) * 1200 - a.used) ≡ data_limit a.leaves.pages = omega (arith, v.sum, v.within, c.pages.ensures) in
    let here : used (map_of (tree_of a)) + ((c.pages.result - 256) * 1200 - a.used) ≡ data_limit a.leaves.pages = ap (λ (n : ℕ). n + ((c.pages.result - 256) * 1200 - a.used)) all ∙ limit in
    subst (λ (t : Tree). used (map_of t) + ((c.pages.result - 256) * 1200 - a.used) ≡ data_limit t.pages) c.self.view_is here
