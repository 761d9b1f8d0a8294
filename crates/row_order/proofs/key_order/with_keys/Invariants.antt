use Rattle.std.proofs.Common.{◌≡◌, map}
use Rattle.row_order.specs.Keys.{keyed}
use Rattle.row_order.proofs.key_order.with_keys.Given as goal

abbrev pub invariant-loop-row : goal.invariant-loop-row
invariant-loop-row l = l.found.items ≡ map (keyed l.key) l.yielded
