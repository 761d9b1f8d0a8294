use Rattle.core_effects.proofs.Opened.{own}
use Rattle.core_effects.proofs.Ghosted.{marked_holds}
use Rattle.core_effects.proofs.ghosting.mark_ghosted.Goals as goal

pub ghosted-requires : goal.ghosted-requires
ghosted-requires g c =
    let mine = own g.M.SortedMaps.maps g.M.SortedMaps.spare g.M.SortedMaps.limit c.args.core.now c.requires.0 c.requires.1 c.requires.2 c.args.session c.requires.3 c.requires.4 in
    (mine.txn, mine.there, tt)

pub returns-clause-holds : goal.returns-clause-holds
returns-clause-holds g c = λ s l texts h o. marked_holds g.M.SortedMaps.maps g.M.SortedMaps.spare g.M.SortedMaps.limit c.args.core.now s l texts c.args.session h o c.ghosted.new.self c.book_law.ensures c.ghosted.ensures
