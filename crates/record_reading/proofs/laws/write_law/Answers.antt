use Rattle.record_reading.proofs.Spelling.{write_law}
use Rattle.record_reading.proofs.laws.write_law.Goals as goal

pub returns : goal.returns
returns c = write_law
