use Rattle.core_state.proofs.Closed.{stop_told}
use Rattle.core_state.proofs.state.CoreState.tell_of_stop.Goals as goal

pub returns : goal.returns
returns g c = λ s stop a may h stopped. stop_told g.M.SortedMaps.maps g.M.SortedMaps.spare g.M.SortedMaps.limit c.args.self.now s c.args.session a stop c.tell_of_stop.new.self may c.requires h stopped c.tell_of_stop.ensures.own c.tell_of_stop.ensures.others
