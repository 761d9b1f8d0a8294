use Rattle.txn_machine.proofs.ShopOpening.{shop_opened}
use Rattle.txn_machine.proofs.example.shop_opened.Goals as goal

pub returns : goal.returns
returns c = shop_opened
