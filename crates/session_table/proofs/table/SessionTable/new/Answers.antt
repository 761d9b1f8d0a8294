use Rattle.session_table.proofs.Opening.{is_table, table_new, go_first}
use Rattle.session_table.proofs.table.SessionTable.new.Goals as goal

pub invariant_of-result : goal.invariant_of-result
invariant_of-result c = is_table c.in_ok-slots.slots.items c.in_ok-slots.ensures.count c.in_ok-slots.ensures.new

pub returns-clause-table : goal.returns-clause-table
returns-clause-table c = table_new c.in_ok-slots.slots.items c.in_ok-slots.ensures.new

pub returns-clause-go : goal.returns-clause-go
returns-clause-go c = go_first c.in_ok-slots.slots.items c.in_ok-slots.ensures.count c.in_ok-slots.ensures.new
