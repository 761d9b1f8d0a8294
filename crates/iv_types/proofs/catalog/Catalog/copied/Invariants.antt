use Rattle.std.proofs.Common.{take}
use Rattle.iv_types.specs.Definitions.{AreCopies}
use Rattle.iv_types.proofs.catalog.Catalog.copied.Given as goal

abbrev pub invariant-loop-definition : goal.invariant-loop-definition
invariant-loop-definition l = AreCopies l.copy (take l.definition-index l.definition-items)
