use Rattle.std.specs.Prelude.{[], ◌∷◌}
use Rattle.table_store.specs.Lists.{map_at}
use Rattle.ghost_rows.proofs.Staging.{begun_without}
use Rattle.lock_cases.proofs.pay_steps.without_row.Goals as goal

pub returns-clause-kept : goal.returns-clause-kept
returns-clause-kept c = begun_without c.in_ok-new.field-0 (map_at c.in_ok-maps.maps) (1, 7 ∷ []) c.in_ok-new.ensures.rows (c.in_ok-maps.ensures 1)
