use mathlib.Core.Path.{ap, ◌∙◌}
use Rattle.iv_meaning.specs.Resolving.{is_among}
use Rattle.bind_resolve.specs.Seen.{names_in}
use Rattle.bind_resolve.proofs.SortedLemmas.{found_by}
use Rattle.bind_resolve.proofs.names.is_among.Goals as goal

pub returns : goal.returns
returns c = c.contains.ensures ∙ (found_by c.as_slice.result.now c.args.names.now.keys ∙ ap (λ n. is_among (names_in c.args.names.now.keys) n) c.as_slice.ensures)
