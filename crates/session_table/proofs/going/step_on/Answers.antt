use Rattle.txn_book.specs.Acts as book
use Rattle.session_table.proofs.Asking.{next_answered, next_room, step_waits, step_goes}
use Rattle.session_table.proofs.going.step_on.Goals as goal

pub next-requires-clause-answered : goal.next-requires-clause-answered
next-requires-clause-answered g c = next_answered c.args.session.now (book.answer_of c.ask-answer.result) c.in-Ok.answer c.in-Ok.ensures c.requires.engine c.ask-answer.ensures

pub next-requires-clause-room : goal.next-requires-clause-room
next-requires-clause-room g c = next_room c.args.session.now c.requires.engine

pub returns-in-Err-clause-stepped : goal.returns-in-Err-clause-stepped
returns-in-Err-clause-stepped g c = λ s st go. step_waits s c.args.session.now (book.answer_of c.ask-answer.result) c.in-Err.sessions go c.in-Err.ensures (c.ask-answer.ensures s st go)

pub returns-in-Ok-clause-stepped : goal.returns-in-Ok-clause-stepped
returns-in-Ok-clause-stepped g c = λ s st go. step_goes s c.args.session.now c.next.new.self (book.answer_of c.ask-answer.result) c.in-Ok.answer go c.in-Ok.ensures c.next.ensures.comes
    c.next.ensures.within c.next.ensures.refused (c.ask-answer.ensures s st go)
