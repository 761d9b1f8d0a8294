use Rattle.std.proofs.Common.{◌≡◌}
use Rattle.txn_log.specs.Stored.{first_parts}
use Rattle.definition_parts.specs.Parts.{entries_from}
use Rattle.definition_parts.proofs.parts.parts_of.Given as goal

abbrev pub invariant-loop-part : goal.invariant-loop-part
invariant-loop-part l = l.parts ≡ entries_from l.number 0 (first_parts l.part l.text)
