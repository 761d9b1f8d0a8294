use Rattle.std.proofs.Common.{◌∷◌}
use mathlib.Core.Path.{ap, ◌∙◌}
use Rattle.iv_meaning.specs.Resolving.{is_among}
use Rattle.bind_resolve.specs.Seen.{names_in}
use Rattle.bind_resolve.proofs.SortedLemmas.{added}
use Rattle.bind_resolve.proofs.names.new_name.Goals as goal

pub returns-clause-joined : goal.returns-clause-joined
returns-clause-joined c name =
    ap (λ ks. is_among (names_in ks) name) c.in_ok-insert.ensures.keys
    ∙ (added c.args.others.now.keys c.as_slice.result name ∙ ap (λ n. is_among (n ∷ names_in c.args.others.now.keys) name) c.as_slice.ensures)
