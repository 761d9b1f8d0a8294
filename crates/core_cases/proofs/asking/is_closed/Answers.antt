use mathlib.Core.Path.{sym}
use Rattle.core_cases.proofs.Opened.{closed}
use Rattle.core_cases.proofs.asking.is_closed.Goals as goal

pub returns-clause-closed : goal.returns-clause-closed
returns-clause-closed c = λ s h. closed c.args.core.now s h c.args.session c.in_ok-is_session.ensures (sym c.in-None.ensures)
