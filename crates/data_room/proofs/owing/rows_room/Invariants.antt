use Rattle.std.proofs.Common.{◌≡◌, ◌+◌, ◌-◌, ◌^◌, ◌<◌, min, map, drop}
use Rattle.std.specs.List.{sum}
use Rattle.txn_machine.specs.Log.{delta_entry}
use Rattle.data_room.proofs.owing.rows_room.Given as goal

abbrev pub invariant-loop-delta : goal.invariant-loop-delta
invariant-loop-delta l = record {
  fits : l.size < 2 ^ 64;
  told : min (l.size + sum (map delta_entry (drop l.delta-index l.owed))) (2 ^ 64 - 1) ≡ min (sum (map delta_entry l.owed)) (2 ^ 64 - 1);
}
