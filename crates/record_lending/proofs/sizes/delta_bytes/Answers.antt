use Rattle.std.proofs.Common.{[]}
use Rattle.txn_machine.specs.Records.{Delta}
use Rattle.record_lending.proofs.sizes.delta_bytes.Goals as goal

pub returns : goal.returns
returns c = c.record_bytes.ensures.counted [] (Delta 0 c.args.delta.now) (c.delta_of.ensures [])
