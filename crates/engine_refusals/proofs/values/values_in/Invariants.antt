use Rattle.std.proofs.Common.{◌≡◌, ◌++◌, drop}
use Rattle.statement_law.specs.Telling.{values_in}
use Rattle.engine_refusals.proofs.values.values_in.Given as goal

abbrev pub invariant-loop-kind : goal.invariant-loop-kind
invariant-loop-kind l = l.values.items ++ values_in (drop l.kind-index l.kinds) l.rest ≡ values_in l.kinds l.bytes
