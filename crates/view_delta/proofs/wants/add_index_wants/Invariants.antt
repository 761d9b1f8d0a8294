use Rattle.std.proofs.Common.{◌≡◌, ◌++◌, drop}
use Rattle.iv_meaning.specs.Objects.{schema_of}
use Rattle.view_delta.specs.Wants.{index_wants}
use Rattle.view_delta.proofs.wants.add_index_wants.Given as goal

abbrev pub invariant-loop-definition : goal.invariant-loop-definition
invariant-loop-definition l =
    l.wants ++ index_wants (schema_of (drop l.definition-index l.definition-items)) l.table l.row ≡ l.initial.wants ++ index_wants (schema_of l.definition-items) l.table l.row
