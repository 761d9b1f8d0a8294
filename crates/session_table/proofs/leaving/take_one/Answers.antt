use Rattle.std.proofs.Common.{refl}
use Rattle.txn_book.specs.Acts as book
use Rattle.session_table.proofs.Ending.{step_does, undo_needs, undo_fits, undo_took}
use Rattle.session_table.proofs.leaving.take_one.Goals as goal

pub do_step-requires : goal.do_step-requires
do_step-requires g c = undo_needs c.args.session c.requires.session _ refl refl c.requires.engine

pub undone-requires : goal.undone-requires
undone-requires g c = undo_fits c.args.session c.requires.session (book.answer_of c.do_step.result) c.requires.engine
    (λ s st may. step_does c.args.session c.requires.session s _ c.do_step.result refl (c.do_step.ensures.moves s.state st may))

pub returns : goal.returns
returns g c = undo_took c.args.session c.requires.session (g.S.Stepper.stands c.args.engine.now) c.undone.result (book.answer_of c.do_step.result) c.undone.ensures
    (λ s st may. step_does c.args.session c.requires.session s _ c.do_step.result refl (c.do_step.ensures.moves s.state st may))
