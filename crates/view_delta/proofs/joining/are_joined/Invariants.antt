use Rattle.std.proofs.Common.{◌↔◌, drop}
use Rattle.std.specs.List.{AllByRecursion}
use Rattle.iv_meaning.specs.Objects.{schema_of}
use Rattle.txn_machine.specs.Deltas.{views_of}
use Rattle.txn_machine.specs.ViewLaws.{IsJoined}
use Rattle.view_delta.proofs.joining.are_joined.Given as goal

abbrev pub invariant-loop-definition : goal.invariant-loop-definition
invariant-loop-definition l =
    AllByRecursion (IsJoined (schema_of l.catalog)) (views_of (schema_of (drop l.definition-index l.definition-items)))
    ↔ AllByRecursion (IsJoined (schema_of l.catalog)) (views_of (schema_of l.definition-items))
