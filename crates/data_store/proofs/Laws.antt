-- The laws of a store that has the past of a state of the machine.
use Rattle.data_store.specs.Laws.{RowsThenLaw, PeekedLaw}
use Rattle.data_store.proofs.RowsThen.{were_rows}
use Rattle.data_store.proofs.ViewsThen.{view_then}
use Rattle.data_store.proofs.Peeked.{were_all, can_peek, peeked_by}

pub rows_then : RowsThenLaw
rows_then ds maps state s r held rows deltas pending past t is number marked low high = were_rows ds maps state s r held rows deltas pending past t is number marked low high

pub peeked_then : PeekedLaw
peeked_then ds maps state s r held rows deltas pending past i o snap = (
  view_then s r rows deltas pending past i o snap,
  were_all ds maps state s r held rows deltas pending past i o snap,
  λ index may. can_peek ds maps state s r held rows deltas pending past i o snap index may,
  λ index interval answered may found. peeked_by ds maps state s r held rows deltas pending past i o snap index interval answered may found,
)
