use Rattle.query_laws.proofs.TableRows.{other_rows}
use Rattle.query_laws.proofs.rows.other_rows_law.Goals as goal

pub returns : goal.returns
returns c = other_rows
