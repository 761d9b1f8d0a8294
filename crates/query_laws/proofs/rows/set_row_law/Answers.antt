use Rattle.query_laws.proofs.TableRows.{set_row_law}
use Rattle.query_laws.proofs.rows.set_row_law.Goals as goal

pub returns : goal.returns
returns c = set_row_law
