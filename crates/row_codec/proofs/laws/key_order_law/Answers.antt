use Rattle.row_codec.proofs.KeyOrders.{key_order}
use Rattle.row_codec.proofs.laws.key_order_law.Goals as goal

pub returns : goal.returns
returns c = key_order
