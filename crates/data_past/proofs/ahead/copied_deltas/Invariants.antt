use Rattle.std.proofs.Common.{◌≡◌, ◌++◌, drop}
use Rattle.data_past.proofs.ahead.copied_deltas.Given as goal

abbrev pub invariant-loop-delta : goal.invariant-loop-delta
invariant-loop-delta l = l.copies.items ++ drop l.delta-index l.deltas ≡ l.deltas
