use Rattle.std.specs.Prelude.{[], ◌∷◌}
use Rattle.std.specs.Int.{w128}
use Rattle.std.proofs.lemmas.Int.{to_z-of_z}
use Rattle.table_store.specs.Lists.{map_at}
use Rattle.ghost_rows.proofs.Staging.{begun_with, same_row}
use Rattle.lock_cases.proofs.pay_steps.with_row.Goals as goal

pub returns : goal.returns
returns c = begun_with c.in_ok-new.field-0 (map_at c.in_ok-maps.maps) (1, 7 ∷ []) c.args.count c.args.sum c.requires.count c.requires.sum c.in_ok-new.ensures.rows
    (same_row (map_at c.in_ok-maps.maps 1) (7 ∷ []) _ _ c.args.count c.args.sum (to_z-of_z w128 c.args.count c.requires.count.0) (to_z-of_z w128 c.args.sum c.requires.sum.0) c.in_ok-maps.ensures)
