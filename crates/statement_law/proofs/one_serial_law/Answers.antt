use Rattle.statement_law.proofs.OneSession.{one_serial_law}
use Rattle.statement_law.proofs.one_serial_law.Goals as goal

pub returns : goal.returns
returns c = one_serial_law
