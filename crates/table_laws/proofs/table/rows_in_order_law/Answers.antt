use Rattle.table_laws.proofs.Tables.{rows_where_sorted}
use Rattle.table_laws.proofs.table.rows_in_order_law.Goals as goal

pub returns : goal.returns
returns g c = λ R test table. rows_where_sorted test table
