use Rattle.std.proofs.Common.{◌∙◌, sym, ap}
use Rattle.std.specs.FinMap as map
use Rattle.ordered_index.specs.Flat.{items}
use Rattle.ordered_index.specs.Tree.{Tree, map_of}
use Rattle.ordered_index.proofs.Maps.{get_of}
use Rattle.ordered_index.proofs.page_maps.PageMapsSortedMaps.get.Goals as goal

pub returns : goal.returns
unfolding map_of
returns c =
    c.value_of.ensures ∙ sym (get_of c.args.index c.args.key.now (items c.self.inside.leaves.leaves) c.self.invariant.forest.rising)
    ∙ ap (λ (t : Tree). map.get (map_of t c.args.index) c.args.key.now) c.self.view_is
