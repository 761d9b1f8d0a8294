use Rattle.std.proofs.Common.{refl, subst}
use Rattle.line_requests.specs.Requests.{read_of}
use Rattle.session_table.specs.Slots.{FitsLine}
use Rattle.session_table.proofs.Giving.{began_gave, began_fits, busy_gave}
use Rattle.session_table.proofs.lines.give.Goals as goal

pub begin-requires : goal.begin-requires
begin-requires c = subst (λ l. FitsLine l c.args.slot.now.session) c.in-Idle.is c.requires.fits

pub returns-in-Idle-clause-gave : goal.returns-in-Idle-clause-gave
returns-in-Idle-clause-gave c = began_gave c.args.slot.now (record c.args.slot.now { session = c.begin.new.session }) (read_of c.args.read) c.begin.result c.in-Idle.is refl c.begin.ensures.began

pub returns-in-Idle-clause-fits : goal.returns-in-Idle-clause-fits
returns-in-Idle-clause-fits c = began_fits c.args.slot.now (record c.args.slot.now { session = c.begin.new.session }) (read_of c.args.read) c.begin.result c.in-Idle.is refl c.begin.ensures.began

pub returns-in_default-clause-gave : goal.returns-in_default-clause-gave
returns-in_default-clause-gave c = busy_gave c.args.slot.now (read_of c.args.read) c.in_default.not-Idle
