use Rattle.std.proofs.Common.{refl}
use Rattle.txn_book.specs.Acts as book
use Rattle.session_table.proofs.Removing.{may_ask, own_needs, own_answers}
use Rattle.session_table.proofs.cleaning.own_step.Goals as goal

pub do_step-requires : goal.do_step-requires
do_step-requires g c = own_needs _ refl c.requires.act c.requires.engine

pub returns : goal.returns
returns g c = λ s st. own_answers s _ c.do_step.result refl (c.do_step.ensures.moves s.state st (may_ask s.state (book.act_of c.args.act) c.requires.act))
