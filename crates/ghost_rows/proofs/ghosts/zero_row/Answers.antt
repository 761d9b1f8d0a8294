use Rattle.std.proofs.Common.{◌∙◌, ap}
use Rattle.ghost_rows.specs.Numbers.{numbers_bytes}
use Rattle.ghost_rows.proofs.GhostLemmas.{zeros_are}
use Rattle.ghost_rows.proofs.ghosts.zero_row.Goals as goal

pub returns : goal.returns
returns c = c.in_ok-bytes.ensures ∙ ap numbers_bytes (c.deref.ensures.value ∙ (c.in_ok-numbers.ensures ∙ zeros_are c.args.many))
