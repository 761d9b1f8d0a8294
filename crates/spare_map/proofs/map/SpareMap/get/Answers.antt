use Rattle.std.proofs.Common.{sym, ap, ◌∙◌}
use Rattle.std.specs.FinMap.{get}
use Rattle.spare_map.specs.Trees.{items}
use Rattle.spare_map.proofs.Maps.{is_got}
use Rattle.spare_map.proofs.map.SpareMap.get.Goals as goal

pub returns : goal.returns
returns g c =
    c.found.ensures ∙ (sym (is_got (items c.self.inside.root) c.self.invariant.0 (c.args.index, c.args.key.now))
    ∙ ap (λ s. get s.entries (c.args.index, c.args.key.now)) c.self.view_is)
