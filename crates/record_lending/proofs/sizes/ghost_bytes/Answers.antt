use Rattle.std.proofs.Common.{[]}
use Rattle.txn_machine.specs.Deltas.{place_of}
use Rattle.txn_machine.specs.Records.{Ghost}
use Rattle.record_lending.proofs.sizes.ghost_bytes.Goals as goal

pub returns : goal.returns
returns c = c.record_bytes.ensures.counted [] (Ghost (place_of c.args.delta.now)) (c.ghost_of.ensures [])
