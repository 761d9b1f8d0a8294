use Rattle.table_store.proofs.Maps.{made_none}
use Rattle.table_store.proofs.entry_list.EntryList.new.Goals as goal

pub returns : goal.returns
returns c = made_none _ c.new.ensures.items
