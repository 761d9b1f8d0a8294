use Rattle.std.proofs.Common.{sym}
use Rattle.table_store.proofs.Maps.{read_here, none_here}
use Rattle.table_store.proofs.entry_list.entry.Goals as goal

pub returns-in-Some : goal.returns-in-Some
returns-in-Some c =
    let found = c.in-Some.ensures.lookup in
    sym (read_here c.args.entries.now c.args.at _ _ _ found.3.0 found.1 c.as_slice.ensures c.as_slice-in-Some.ensures)

pub returns-in-None : goal.returns-in-None
returns-in-None c = let none = c.in-None.ensures.lookup in sym (none_here c.args.entries.now c.args.at none.3)
