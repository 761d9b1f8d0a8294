use Rattle.std.proofs.Common.{sym, arith}
use Rattle.ordered_index.proofs.Maps.{grown}
use Rattle.ordered_index.proofs.page_maps.PageMapsSortedMaps.remove.Goals as goal

pub returns-clause-entry : goal.returns-clause-entry
returns-clause-entry c =
    let e = c.take.ensures in
    (grown c.take.new.self c.args.self.now c.args.index c.args.key.now e.all.0 e.is e.was (sym e.pages) e.all.1).back

pub returns-clause-others : goal.returns-clause-others
returns-clause-others c = λ i ne.
    let e = c.take.ensures in
    sym ((grown c.take.new.self c.args.self.now c.args.index c.args.key.now e.all.0 e.is e.was (sym e.pages) e.all.1).others i ne)

pub returns-clause-spare : goal.returns-clause-spare
returns-clause-spare c =
    let e = c.take.ensures in
    let g = grown c.take.new.self c.args.self.now c.args.index c.args.key.now e.all.0 e.is e.was (sym e.pages) e.all.1 in
    omega (arith, g.spare)

pub returns-clause-other_spares : goal.returns-clause-other_spares
returns-clause-other_spares c = λ i ne.
    let e = c.take.ensures in
    let g = grown c.take.new.self c.args.self.now c.args.index c.args.key.now e.all.0 e.is e.was (sym e.pages) e.all.1 in
    omega (arith, g.other_spares i ne)
