-- Those so far were replayed.
use Rattle.std.specs.Prelude.{◌≡◌, List, [], drop}
use Rattle.txn_log.specs.Replay.{Deed, Pages}
use Rattle.txn_log.specs.Refused.{Placed}
use Rattle.record_replay.specs.Past.{carrying}
use Rattle.record_replay.specs.Standing.{HasReplayed}
use Rattle.log_replay.specs.Through.{CarryTo}
use Rattle.log_replay.proofs.Going.{CarriesOn}
use Rattle.log_replay.proofs.each.carry_each.Given as goal

abbrev pub invariant-loop-scanned : goal.invariant-loop-scanned
invariant-loop-scanned g l = record {
  on : (p : Pages) → HasReplayed g.M.SortedMaps.maps g.M.SortedMaps.limit l.fn.replay (carrying p [] [])
      → (all : List Placed) → CarryTo l.area p.db.schema [] l.records all → CarriesOn g.M.SortedMaps.maps g.M.SortedMaps.limit l.replay l.area p (drop l.scanned-index l.records) all;
  some : (p : Pages) × (first : List Placed) × (ds : List Deed) × HasReplayed g.M.SortedMaps.maps g.M.SortedMaps.limit l.replay (carrying p first ds);
  texts : g.M.SortedMaps.maps l.replay.store.tables 0 ≡ g.M.SortedMaps.maps l.fn.replay.store.tables 0;
  commits : l.replay.commits ≡ l.fn.replay.commits;
  rest : l.replay.store ≡ record l.fn.replay.store { catalog = l.replay.store.catalog; tables = l.replay.store.tables; views = l.replay.store.views };
}
