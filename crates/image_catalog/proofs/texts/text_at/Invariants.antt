use Rattle.image_entries.specs.Parts.{parts_found}
use Rattle.image_catalog.proofs.Joining.{IsJoined}
use Rattle.image_catalog.proofs.texts.text_at.Given as goal

abbrev pub invariant-loop-end : goal.invariant-loop-end
invariant-loop-end l = IsJoined l.first l.end (parts_found l.parts) l.page l.bytes.items
