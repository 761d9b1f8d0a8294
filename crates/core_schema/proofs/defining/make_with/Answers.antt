use Rattle.std.proofs.lemmas.Result.{IfOk-weaker}
use Rattle.core_schema.proofs.Roomier.{on_err_of}
use Rattle.core_schema.proofs.defining.make_with.Goals as goal

pub returns-in_err-text-clause-err : goal.returns-in_err-text-clause-err
returns-in_err-text-clause-err g c = on_err_of c.from_residual.result (λ s h. h)

pub enter_fitting-requires-after_bounds : goal.enter_fitting-requires-after_bounds
enter_fitting-requires-after_bounds g c κs within =
    let b = c.requires.2 in
    (c.requires.0, _, c.requires.1, record { may = b.may; first_are = b.first_are; text_is = c.in_ok-text.ensures }, c.requires.3)

pub returns-clause-did : goal.returns-clause-did
returns-clause-did g c = IfOk-weaker c.enter_fitting.result _ _ (λ said did s b. did s _ (record { may = b.may; first_are = b.first_are; text_is = c.in_ok-text.ensures })) c.enter_fitting.ensures.did
