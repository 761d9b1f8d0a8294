use Rattle.std.proofs.Common.{◌∷◌, ap, ◌∙◌}
use Rattle.core_state.proofs.Opened.{begins}
use Rattle.core_state.proofs.state.CoreState.open_step.Goals as goal

pub returns-then-session-gt0 : goal.returns-then-session-gt0
returns-then-session-gt0 g c = λ s h runs. begins g.M.SortedMaps.maps g.M.SortedMaps.spare g.M.SortedMaps.limit c.args.self.now c.cancel-wants.new.self c.put_back.new.self s c.args.session c.cancel-wants.ensures.cancelled
    (λ more e. c.put_back.ensures.back more e ∙ ap (λ w. w ∷ more) c.cancel-wants.ensures.wants) c.put_back.ensures.there c.put_back.ensures.others h runs
