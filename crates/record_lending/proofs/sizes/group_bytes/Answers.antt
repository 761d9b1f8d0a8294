use Rattle.std.proofs.Common.{[]}
use Rattle.txn_machine.specs.Records.{Clean}
use Rattle.record_lending.proofs.sizes.group_bytes.Goals as goal

pub returns : goal.returns
returns c = c.record_bytes.ensures.counted [] (Clean (c.args.view, c.args.group.now)) (c.clean_of.ensures [])
