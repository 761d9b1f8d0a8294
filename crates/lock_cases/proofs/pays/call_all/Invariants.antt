use Rattle.std.specs.Prelude.{[], ◌∷◌}
use Rattle.table_store.specs.Lists.{map_at}
use Rattle.ghost_rows.specs.Kept.{Pays}
use Rattle.ghost_rows.specs.State.{AreKept}
use Rattle.lock_cases.proofs.pays.call_all.Given as goal

abbrev pub invariant-loop-asked : goal.invariant-loop-asked
invariant-loop-asked l = (pays : Pays) × AreKept l.rows (map_at l.maps) (1, 7 ∷ []) 2 pays
