use Rattle.std.proofs.Common.{◌+◌, ◌-◌, arith}
use Rattle.ordered_index.proofs.Loose.{widen}
use Rattle.ordered_index.proofs.changing.remove_and_settle.Goals as goal

pub settle_about-requires-clause-loose : goal.settle_about-requires-clause-loose
settle_about-requires-clause-loose c = widen _ (c.remove_item-k.result.0 - 1) (c.remove_item-k.result.0 + 1) (c.remove_item-k.result.0 - 2) (c.remove_item-k.result.0 + 2) (c.remove_item-k.ensures.loose c.requires.tight) (omega arith) (omega arith)
