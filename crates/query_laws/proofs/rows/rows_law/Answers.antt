use Rattle.query_laws.proofs.TableRows.{rows_law}
use Rattle.query_laws.proofs.rows.rows_law.Goals as goal

pub returns : goal.returns
returns c = rows_law
