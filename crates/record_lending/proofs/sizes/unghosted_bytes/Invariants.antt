use Rattle.std.proofs.Common.{◌≡◌, ◌+◌, ◌^◌, ◌<◌, false, drop}
use Rattle.txn_machine.specs.Counts.{told_need}
use Rattle.txn_machine.specs.Log.{owed_bytes}
use Rattle.record_lending.proofs.sizes.unghosted_bytes.Given as goal

abbrev pub invariant-loop-delta : goal.invariant-loop-delta
invariant-loop-delta l = record {
  fits : l.bytes < 2 ^ 64;
  told : told_need (l.bytes + owed_bytes false (drop l.delta-index l.owed)) ≡ told_need (owed_bytes false l.owed);
}
