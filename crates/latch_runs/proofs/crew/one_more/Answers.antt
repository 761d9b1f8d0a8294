use Rattle.std.proofs.Common.{ap, ◌∙◌}
use Rattle.turn_latch.specs.Words.{latch_of, knows}
use Rattle.latch_runs.proofs.OneMore.{crew_push}
use Rattle.latch_runs.proofs.crew.one_more.Goals as goal

pub returns-clause-crew : goal.returns-clause-crew
returns-clause-crew c = crew_push (latch_of c.args.latch.now) (knows c.args.first.now).made (knows c.split-seat.new.first).made c.args.seats.now.items c.push.new.self.items c.try_turn.new.seat c.requires.crew
    (c.try_turn.ensures.latch ∙ (c.split-seat.ensures.latch.1 ∙ c.requires.latch))
    (ap (λ v. v.number) c.in-Ok-Ok.ensures.turn.knows ∙ ap (λ v. v.number) c.split-seat.ensures.new)
    (ap (λ v. v.made) c.split-seat.ensures.first)
    c.in_ok-push.ensures.items
