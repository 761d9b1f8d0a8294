use Rattle.core_pays.proofs.Firsts.{has_wants}
use Rattle.core_pays.proofs.Held.{can_add, is_free, take_holding}
use Rattle.core_pays.proofs.holding.take_first.Goals as goal

pub take-wants-requires-clause-some : goal.take-wants-requires-clause-some
take-wants-requires-clause-some g c = has_wants g.M.SortedMaps.maps g.M.SortedMaps.spare g.M.SortedMaps.limit c.args.core.now c.requires.0 c.args.session c.requires.2 c.requires.1

pub grant-requires-clause-free : goal.grant-requires-clause-free
grant-requires-clause-free g c =
    is_free g.M.SortedMaps.maps g.M.SortedMaps.spare g.M.SortedMaps.limit c.args.core.now c.requires.0 c.args.session c.requires.2 c.requires.1 c.requires.3 c.take-wants.result c.take-wants.new.self c.take-wants.ensures.own c.take-wants.ensures.others c.requires.4

pub grant-requires-clause-reserved : goal.grant-requires-clause-reserved
grant-requires-clause-reserved g c =
    can_add g.M.SortedMaps.maps g.M.SortedMaps.spare g.M.SortedMaps.limit c.args.core.now c.requires.0 c.args.session c.requires.2 c.requires.1 c.requires.3 c.take-wants.result c.take-wants.new.self c.take-wants.ensures.own c.take-wants.ensures.others

pub returns : goal.returns
returns g c = λ s o h lacks free.
    take_holding g.M.SortedMaps.maps g.M.SortedMaps.spare g.M.SortedMaps.limit c.args.core.now s c.args.session h o lacks c.take-wants.result c.take-wants.new.self c.take-wants.ensures.own c.take-wants.ensures.others c.grant.new.self c.grant.ensures free
