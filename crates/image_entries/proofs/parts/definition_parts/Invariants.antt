use Rattle.std.proofs.Common.{length}
use Rattle.std.specs.FinMap.{entries}
use Rattle.image_entries.proofs.Walks.{IsTaking, todo, place_of}
use Rattle.image_entries.proofs.parts.definition_parts.Given as goal

abbrev pub invariant-loop-next : goal.invariant-loop-next
invariant-loop-next l = IsTaking l.entries.entries l.parts.items (place_of l.next)

abbrev pub decreases-loop-next : goal.decreases-loop-next
decreases-loop-next l = length (todo (entries l.entries.entries) (place_of l.next))
