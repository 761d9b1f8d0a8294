use Rattle.std.specs.Prelude.{[], ◌∷◌, pos}
use Rattle.table_store.specs.Lists.{map_at}
use Rattle.escrow_bounds.proofs.KeepLemmas.{huge_zero}
use Rattle.ghost_rows.proofs.Staging.{begun_with}
use Rattle.lock_bench.proofs.pays.begin.Goals as goal

pub returns : goal.returns
returns c = begun_with c.in_ok-new.field-0 (map_at c.in_ok-maps.maps) (1, 7 ∷ []) (pos 0) (pos 0) huge_zero huge_zero c.in_ok-new.ensures.rows c.in_ok-maps.ensures
