use Rattle.std.proofs.Common.{◌∷◌, ◌++◌, []}
use Rattle.std.proofs.lemmas.List.{map-append}
use mathlib.Core.Path.{sym, ◌∙◌}
use Rattle.data_defining.specs.Defining.{view_entry}
use Rattle.data_defining.proofs.first.view_entries.Goals as goal

pub loop-row-preserved : goal.loop-row-preserved
loop-row-preserved c =
    c.in_ok-push.ensures.ok ∙ ((λ i. c.loop-row.invariant i ++ c.in_ok-view_entry.ensures i ∷ []) ∙ sym (map-append (view_entry c.args.number) c.loop-row.yielded (c.in-Some.row ∷ [])))
