use Rattle.std.proofs.Common.{refl}
use Rattle.core_effects.proofs.Taken.{taken_holds, none_rooms}
use Rattle.core_effects.proofs.taking.take.Goals as goal

pub returns-clause-holds : goal.returns-clause-holds
returns-clause-holds g c = λ s l texts a h o none.
    let core = c.args.core.now in
    taken_holds g.M.SortedMaps.maps g.M.SortedMaps.spare g.M.SortedMaps.limit core s l texts c.args.session h o a c.args.wants c.grant.new.self core.wants c.grant.ensures
    (none_rooms g.M.SortedMaps.maps g.M.SortedMaps.spare g.M.SortedMaps.limit core s l texts c.args.session h o a c.args.wants c.grant.new.self core.wants c.grant.ensures refl none)
