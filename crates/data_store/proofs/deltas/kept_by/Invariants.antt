use Rattle.std.proofs.Common.{◌≡◌, ◌+◌, ◌-◌, ◌^◌, ◌<◌, min, map, drop}
use Rattle.std.specs.List.{sum}
use Rattle.txn_machine.specs.Counts.{delta_size}
use Rattle.data_store.proofs.deltas.kept_by.Given as goal

abbrev pub invariant-loop-delta : goal.invariant-loop-delta
invariant-loop-delta l = record {
  fits : l.size < 2 ^ 64;
  told : min (l.size + sum (map delta_size (drop l.delta-index l.owed))) (2 ^ 64 - 1) ≡ min (sum (map delta_size l.owed)) (2 ^ 64 - 1);
}
