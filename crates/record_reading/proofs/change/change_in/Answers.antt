use Rattle.std.proofs.lemmas.Result.{IfOk-weaker}
use Rattle.record_reading.proofs.Changing.{none_weaker}
use Rattle.record_reading.proofs.change.change_in.Goals as goal

pub returns-clause-none : goal.returns-clause-none
returns-clause-none c =
    IfOk-weaker c.change_between.result _ _ (none_weaker _ _ (λ none d h. none d.before d.after h.was h.becomes)) c.change_between.ensures.none
