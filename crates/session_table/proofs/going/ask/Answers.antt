use Rattle.session_table.proofs.Stepping.{may_step}
use Rattle.session_table.proofs.Asking.{ask_needs, ask_answers}
use Rattle.session_table.proofs.going.ask.Goals as goal

pub step-requires-in-Some : goal.step-requires-in-Some
step-requires-in-Some g c = ask_needs c.args.session.now c.in-Some.step.now c.in-Some.ensures.act c.in-Some.ensures.session c.requires.engine

pub returns : goal.returns
returns g c = λ s st go. ask_answers c.args.session.now s c.in-Some.step.now c.step-in-Some.result c.in-Some.ensures.act c.in-Some.ensures.session
    (c.step-in-Some.ensures.moves s.state st (may_step c.args.session.now s c.in-Some.step.now go c.in-Some.ensures.act c.in-Some.ensures.session))
