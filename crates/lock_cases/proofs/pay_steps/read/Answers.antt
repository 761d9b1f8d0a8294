use Rattle.std.specs.Prelude.{[], ◌∷◌}
use Rattle.std.specs.Int.{w128}
use Rattle.std.proofs.lemmas.Int.{to_z-of_z}
use Rattle.table_store.specs.Lists.{map_at}
use Rattle.ghost_rows.proofs.Staging.{one_row, same_row}
use Rattle.lock_cases.proofs.pay_steps.read.Goals as goal

pub read-requires-after_bounds : goal.read-requires-after_bounds
read-requires-after_bounds c κs = one_row (map_at c.in_ok-maps.maps 1) (7 ∷ []) c.args.count c.args.sum c.requires.count c.requires.sum
    (same_row (map_at c.in_ok-maps.maps 1) (7 ∷ []) _ _ c.args.count c.args.sum (to_z-of_z w128 c.args.count c.requires.count.0) (to_z-of_z w128 c.args.sum c.requires.sum.0) c.in_ok-maps.ensures)
