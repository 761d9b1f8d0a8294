use Rattle.std.specs.FinMap.{entries}
use Rattle.iv_meaning.specs.Objects.{schema_of}
use Rattle.image_entries.proofs.Walks.{place_of}
use Rattle.image_rows.proofs.Walking.{IsTelling, left}
use Rattle.image_rows.proofs.check.least_failing.Given as goal

abbrev pub invariant-loop-next : goal.invariant-loop-next
invariant-loop-next l = IsTelling (schema_of l.catalog) l.entries.entries l.least (place_of l.next)

abbrev pub decreases-loop-next : goal.decreases-loop-next
decreases-loop-next l = left (entries l.entries.entries) (place_of l.next)
