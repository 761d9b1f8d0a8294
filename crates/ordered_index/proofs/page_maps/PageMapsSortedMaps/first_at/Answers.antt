use Rattle.std.proofs.Common.{◌∙◌, sym, ap, List, false}
use Rattle.iv_types.specs.Maps.{Entry, first_where, entry_at}
use Rattle.ordered_index.specs.Flat.{items, passes}
use Rattle.ordered_index.specs.Tree.{Tree, map_of}
use Rattle.ordered_index.proofs.Maps.{entries_of}
use Rattle.ordered_index.proofs.page_maps.PageMapsSortedMaps.first_at.Goals as goal

pub returns : goal.returns
unfolding map_of
returns c =
    c.first_from.ensures
    ∙ sym (ap (λ (es : List Entry). first_where (passes false c.args.key.now) es) (entries_of c.args.index (items c.self.inside.leaves.leaves) c.self.invariant.forest.rising))
    ∙ ap (λ (t : Tree). entry_at (map_of t c.args.index) c.args.key.now) c.self.view_is
