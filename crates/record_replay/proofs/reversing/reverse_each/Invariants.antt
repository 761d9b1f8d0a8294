-- What is answered of the records that are left is answered of all.
use Rattle.std.specs.Prelude.{◌≡◌, List}
use Rattle.std.specs.BTreeMap.{btree_map_len}
use Rattle.txn_log.specs.Replay.{Stored}
use Rattle.txn_log.specs.Refused.{Placed}
use Rattle.record_replay.specs.Reversing.{CanReverse}
use Rattle.record_replay.proofs.Orders.{GoesOn}
use Rattle.record_replay.proofs.reversing.reverse_each.Given as goal

abbrev pub invariant-loop-own : goal.invariant-loop-own
invariant-loop-own g l = record {
  goes_on : (rs : List Placed) (s : Stored) → CanReverse g.M.SortedMaps.maps g.M.SortedMaps.limit l.fn.store l.fn.left rs s
      → GoesOn g.M.SortedMaps.maps g.M.SortedMaps.limit l.store l.left rs s;
  texts : g.M.SortedMaps.maps l.store.tables 0 ≡ g.M.SortedMaps.maps l.fn.store.tables 0;
  rest : l.store ≡ record l.fn.store { tables = l.store.tables; views = l.store.views };
}

abbrev pub decreases-loop-own : goal.decreases-loop-own
decreases-loop-own g l = btree_map_len l.left.records
