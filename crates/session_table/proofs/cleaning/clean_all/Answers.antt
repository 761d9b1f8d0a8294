use Rattle.std.proofs.Common.{◌<◌, arith}
use Rattle.std.proofs.lemmas.Result.{err_from_is_err_and}
use Rattle.txn_machine.specs.State.{most_steps}
use Rattle.session_table.proofs.Removing.{known_needs, known_more, known_all, known_fails, known_never}
use Rattle.session_table.proofs.cleaning.clean_all.Goals as goal

pub clean_one-requires : goal.clean_one-requires
clean_one-requires g c = known_needs (g.S.Stepper.stands c.args.engine.now) c.loop-removed.removed c.requires c.loop-removed.invariant

pub returns-in_err-clean_one : goal.returns-in_err-clean_one
returns-in_err-clean_one g c =
    let p = err_from_is_err_and c.from_residual.result c.from_residual.ensures.1 in
    rw (p.1, p.2) (known_fails (g.S.Stepper.stands c.args.engine.now) c.loop-removed.removed c.loop-removed.invariant c.in_err-clean_one.field-0.0 c.in_err-clean_one.ensures)

pub returns-then-not-branch : goal.returns-then-not-branch
returns-then-not-branch g c =
    known_all (g.S.Stepper.stands c.args.engine.now) c.loop-removed.removed c.loop-removed.invariant c.in_ok-clean_one.field-0 c.if-not-branch.true c.in_ok-clean_one.ensures

pub loop-removed-preserved : goal.loop-removed-preserved
loop-removed-preserved g c =
    known_more (g.S.Stepper.stands c.args.engine.now) c.loop-removed.removed c.loop-removed.invariant c.in_ok-clean_one.field-0 c.if-not-branch.false c.in_ok-clean_one.ensures

pub returns : goal.returns
returns g c =
    let over : most_steps < c.loop-removed.removed = omega arith in
    λ s st r. absurd (known_never (g.S.Stepper.stands c.args.engine.now) c.loop-removed.removed over c.requires c.loop-removed.invariant)
