use Rattle.std.proofs.Common.{◌+◌, refl, ap}
use Rattle.core_state.proofs.Closed.{fault_closed}
use Rattle.core_state.proofs.state.CoreState.fail_step.Goals as goal

pub returns : goal.returns
returns g c = λ s a may is f.
    fault_closed g.M.SortedMaps.maps g.M.SortedMaps.spare g.M.SortedMaps.limit c.args.self.now s c.args.session a may c.requires.session f (c.args.self.now.steps + 1) (c.args.self.now.next + c.args.waiting) c.fail.new.self _ refl
    (ap (λ k. c.args.self.now.next + k) is) c.fail.ensures.own c.fail.ensures.others refl
