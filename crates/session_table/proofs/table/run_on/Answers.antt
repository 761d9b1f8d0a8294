use Rattle.std.proofs.Common.{◌∙◌}
use Rattle.std.proofs.lemmas.Result.{on_ok_weaker, on_err_weaker}
use Rattle.session_table.proofs.Seating.{own_needs, line_done}
use Rattle.session_table.proofs.Losing.{lost_so, retry_lost}
use Rattle.session_table.proofs.table.run_on.Goals as goal

pub returns-in_err-own_part-clause-lost : goal.returns-in_err-own_part-clause-lost
returns-in_err-own_part-clause-lost g c = lost_so c.from_residual.result c.in_err-own_part.ensures.lost

pub retry-requires-clause-engine : goal.retry-requires-clause-engine
retry-requires-clause-engine g c = own_needs c.args.request c.args.slots.now c.own_part.new.slots c.args.text.now.items c.own_part.new.text.items c.requires.engine c.in_ok-own_part.ensures.did

pub returns-clause-ran : goal.returns-clause-ran
returns-clause-ran g c = on_ok_weaker c.retry.result (λ retried. line_done (g.S.Stepper.stands c.args.engine.now) c.args.request c.args.slots.now c.own_part.new.slots c.retry.new.slots c.args.text.now.items c.own_part.new.text.items c.retry.new.text.items
    (c.own_part.auto.slots ∙ c.requires.count) c.in_ok-own_part.ensures.did retried) c.retry.ensures.retried

pub returns-clause-lost : goal.returns-clause-lost
returns-clause-lost g c = on_err_weaker c.retry.result (retry_lost (g.S.Stepper.stands c.args.engine.now) c.args.request c.args.slots.now c.own_part.new.slots c.args.text.now.items c.own_part.new.text.items c.in_ok-own_part.ensures.did) c.retry.ensures.lost
