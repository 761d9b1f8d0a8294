-- Those so far were replayed.
use Rattle.std.specs.Prelude.{◌≡◌, ◌+◌, ◌≤◌, List, [], drop}
use Rattle.iv_types.specs.Maps.{map_size}
use Rattle.txn_log.specs.Replay.{Deed, Pages}
use Rattle.txn_log.specs.Refused.{Placed}
use Rattle.record_replay.specs.Past.{Past, carrying}
use Rattle.record_replay.specs.Standing.{HasReplayed}
use Rattle.record_replay.specs.Texts.{texts_entries}
use Rattle.log_replay.specs.Through.{GoTo}
use Rattle.log_replay.proofs.Going.{GoesOn}
use Rattle.log_replay.proofs.each.follow_each.Given as goal

abbrev pub invariant-loop-scanned : goal.invariant-loop-scanned
invariant-loop-scanned g l = record {
  on : (p : Pages) (first : List Placed) (ds : List Deed) → HasReplayed g.M.SortedMaps.maps g.M.SortedMaps.limit l.fn.replay (carrying p first ds)
      → (all : List Placed) → GoTo l.area p.db.schema [] l.records all → GoesOn g.M.SortedMaps.maps g.M.SortedMaps.limit l.replay l.area p first ds (drop l.scanned-index l.records) all;
  some : (x : Past) × HasReplayed g.M.SortedMaps.maps g.M.SortedMaps.limit l.replay x;
  texts : map_size (g.M.SortedMaps.maps l.replay.store.tables 0) + texts_entries (drop l.scanned-index l.records) ≤ map_size (g.M.SortedMaps.maps l.fn.replay.store.tables 0) + texts_entries l.records;
  commits : l.replay.commits ≤ l.fn.replay.commits + l.scanned-index;
  rest : l.replay.store ≡ record l.fn.replay.store { catalog = l.replay.store.catalog; tables = l.replay.store.tables; views = l.replay.store.views };
}
