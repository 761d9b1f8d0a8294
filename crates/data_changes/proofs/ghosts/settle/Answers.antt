use Rattle.data_changes.proofs.GhostMoves.{settled_held}
use Rattle.data_changes.proofs.ghosts.settle.Goals as goal

pub returns-clause-settled : goal.returns-clause-settled
returns-clause-settled g c = λ x held. settled_held c.args.store.now.catalog (g.M.SortedMaps.maps c.args.store.now.tables) c.args.store.now.views c.settle.new.self c.args.session x c.settle.ensures.kept c.settle.ensures.listed held
