use Rattle.std.proofs.Common.{◌≡◌, List, ◌++◌, length, Some}
use Rattle.std.specs.FinMap.{get, entries}
use Rattle.iv_types.specs.Maps.{Entry}
use Rattle.iv_meaning.specs.Database.{Row}
use Rattle.txn_machine.specs.Stored.{ViewRows}
use Rattle.table_store.specs.Stored.{between}
use Rattle.table_store.proofs.Walks.{todo, low_part, place}
use Rattle.data_store.specs.Shown.{Shows}
use Rattle.data_store.specs.ViewPast.{WereViewRows, past_entries}
use Rattle.data_store.proofs.store.DataStore.rows_shown_at.Given as goal

abbrev pub invariant-loop-next : goal.invariant-loop-next
invariant-loop-next g l =
    let S = g.M.SortedMaps in
    let m = S.maps l.maps l.view in
    record {
      held : (e : Entry) → place l.next ≡ Some e → get m e.0 ≡ Some e.1;
      told : (past : ViewRows) → WereViewRows l.number l.self.delta_versions.versions l.self.views (S.maps l.self.tables) l.view past → (rest : List Row)
          → Shows l.kinds (past_entries past l.view (low_part l.interval.high (todo (entries m) (place l.next)))) rest → Shows l.kinds (past_entries past l.view (between l.interval (entries m))) (l.rows ++ rest);
    }

abbrev pub decreases-loop-next : goal.decreases-loop-next
decreases-loop-next g l = length (todo (entries (g.M.SortedMaps.maps l.maps l.view)) (place l.next))
