use Rattle.std.specs.Prelude.{[], ◌∷◌}
use Rattle.table_store.specs.Lists.{map_at}
use Rattle.ghost_rows.specs.Kept.{with_pays}
use Rattle.lock_cases.proofs.pays.settle.Goals as goal

pub returns : goal.returns
returns c = record {
  kept = (with_pays c.requires.kept.0 c.in_ok-session.session [], c.settle.ensures.kept (map_at c.args.maps.now) (1, 7 ∷ []) 1 c.requires.kept.0 c.requires.kept.1);
}
