use Rattle.core_pays.proofs.Firsts.{has_wants}
use Rattle.core_pays.proofs.Held.{wait_told}
use Rattle.core_pays.proofs.holding.wait_first.Goals as goal

pub take-wants-requires-clause-some : goal.take-wants-requires-clause-some
take-wants-requires-clause-some g c = has_wants g.M.SortedMaps.maps g.M.SortedMaps.spare g.M.SortedMaps.limit c.args.core.now c.requires.0 c.args.session c.requires.2 c.requires.1

pub returns : goal.returns
returns g c = λ s o h waits lacks.
    wait_told g.M.SortedMaps.maps g.M.SortedMaps.spare g.M.SortedMaps.limit c.args.core.now s c.args.session h o lacks c.take-wants.result c.take-wants.new.self c.take-wants.ensures.own c.take-wants.ensures.others c.wait.new.self c.args.sessions c.wait.ensures waits
