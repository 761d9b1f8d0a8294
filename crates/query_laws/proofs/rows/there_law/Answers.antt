use Rattle.query_laws.proofs.TableRows.{there}
use Rattle.query_laws.proofs.rows.there_law.Goals as goal

pub returns : goal.returns
returns c = there
