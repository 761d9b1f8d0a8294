use Rattle.data_store.proofs.Laws as laws
use Rattle.data_store.proofs.law.peeked_law.Goals as goal

pub returns : goal.returns
returns c = laws.peeked_then
