use Rattle.std.proofs.Common.{sym}
use Rattle.std.proofs.lemmas.Result.{IfOk-weaker}
use Rattle.row_replay.proofs.replay.set_row.Goals as goal

pub returns-clause-stands : goal.returns-clause-stands
returns-clause-stands g c = IfOk-weaker c.exchange.result _ _ (λ stands told yes x held. let both = told yes x held in (sym both.0, both.1)) c.exchange.ensures.stands
