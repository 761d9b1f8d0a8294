use Rattle.std.proofs.Common.{◌≡◌, ◌+◌, ◌-◌, ◌^◌, ◌<◌, min, false, drop}
use Rattle.txn_machine.specs.Log.{owed_bytes}
use Rattle.data_store.proofs.deltas.reserved.Given as goal

abbrev pub invariant-loop-delta : goal.invariant-loop-delta
invariant-loop-delta l = record {
  fits : l.size < 2 ^ 64;
  told : min (l.size + owed_bytes false (drop l.delta-index l.owed)) (2 ^ 64 - 1) ≡ min (owed_bytes false l.owed) (2 ^ 64 - 1);
}
