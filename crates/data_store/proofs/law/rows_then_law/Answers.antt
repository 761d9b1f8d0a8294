use Rattle.data_store.proofs.Laws as laws
use Rattle.data_store.proofs.law.rows_then_law.Goals as goal

pub returns : goal.returns
returns c = laws.rows_then
