use Rattle.std.proofs.Common.{refl}
use Rattle.txn_book.specs.Acts as book
use Rattle.session_table.proofs.Ending.{step_does, end_needs, end_told}
use Rattle.session_table.proofs.leaving.end.Goals as goal

pub do_step-requires : goal.do_step-requires
do_step-requires g c = end_needs c.args.session c.requires.session _ refl refl c.requires.engine

pub returns : goal.returns
returns g c = end_told c.args.session c.requires.session (g.S.Stepper.stands c.args.engine.now) (book.answer_of c.do_step.result)
    (λ s st may. step_does c.args.session c.requires.session s _ c.do_step.result refl (c.do_step.ensures.moves s.state st may))
