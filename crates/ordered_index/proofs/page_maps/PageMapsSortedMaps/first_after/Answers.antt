use Rattle.std.proofs.Common.{◌∙◌, sym, ap, List, true}
use Rattle.iv_types.specs.Maps.{Entry, first_where, entry_after}
use Rattle.ordered_index.specs.Flat.{items, passes}
use Rattle.ordered_index.specs.Tree.{Tree, map_of}
use Rattle.ordered_index.proofs.Maps.{entries_of}
use Rattle.ordered_index.proofs.page_maps.PageMapsSortedMaps.first_after.Goals as goal

pub returns : goal.returns
unfolding map_of
returns c =
    c.first_from.ensures
    ∙ sym (ap (λ (es : List Entry). first_where (passes true c.args.key.now) es) (entries_of c.args.index (items c.self.inside.leaves.leaves) c.self.invariant.forest.rising))
    ∙ ap (λ (t : Tree). entry_after (map_of t c.args.index) c.args.key.now) c.self.view_is
