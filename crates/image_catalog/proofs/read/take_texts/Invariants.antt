use Rattle.std.proofs.Common.{length, ◌-◌, ◌≤◌}
use Rattle.iv_meaning.specs.Objects.{schema_of}
use Rattle.image_entries.specs.Parts.{parts_found}
use Rattle.image_catalog.proofs.Telling.{IsRead}
use Rattle.image_catalog.proofs.read.take_texts.Given as goal

abbrev pub invariant-loop-at : goal.invariant-loop-at
invariant-loop-at l = IsRead (parts_found l.parts) l.at (schema_of l.catalog) × (l.at ≤ length l.parts)

abbrev pub decreases-loop-at : goal.decreases-loop-at
decreases-loop-at l = length l.parts - l.at
