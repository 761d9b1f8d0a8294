use Rattle.std.proofs.Common.{sym, ap, ◌∙◌, List, ℕ}
use Rattle.std.specs.FinMap.{get}
use Rattle.ghost_rows.proofs.StateLemmas.{value_length}
use Rattle.ghost_rows.proofs.view_rows.moved_value.Goals as goal

pub put_moved-requires-clause-stored : goal.put_moved-requires-clause-stored
put_moved-requires-clause-stored g c =
    value_length _ c.in-Some.stored.now c.requires.stored.0 c.width.result
    (c.in-Some.ensures ∙ ap (λ (k : List ℕ). get (g.M.SortedMaps.maps c.args.maps.now c.args.delta.now.view) k) c.as_slice.ensures)
    c.requires.stored.1 (c.requires.stored.2 ∙ sym c.width.ensures)
