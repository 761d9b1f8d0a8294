use Rattle.std.proofs.Common.{sym, ◌∙◌}
use mathlib.Core.Path.{refl}
use Rattle.std.specs.Int.{w128}
use Rattle.std.proofs.lemmas.Int.{to_z-of_z}
use Rattle.ghost_rows.specs.Numbers.{numbers_bytes}
use Rattle.row_codec.proofs.Numbers.{signed_split}
use Rattle.ghost_rows.proofs.view_rows.ViewRows.count_of.Goals as goal

pub returns-in-None-clause-closed : goal.returns-in-None-clause-closed
returns-in-None-clause-closed c = λ none n ns f b.
    to_z-of_z w128 c.front.result.0 c.front.ensures.fits ∙ (signed_split w128 refl c.front.result.0 n c.front.result.1.now (numbers_bytes ns) c.front.ensures.fits f (sym c.front.ensures.bytes ∙ b)).0
