use Rattle.std.proofs.Common.{◌≡◌, ◌≤◌, ◌<◌, ℕ, List, take}
use Rattle.std.specs.List.{Contains}
use Rattle.iv_types.specs.declared.lock.GroupDelta.{GroupDelta}
use Rattle.ghost_rows.specs.State.{HasSeat, room_of}
use Rattle.txn_machine.specs.Deltas.{place_of}
use Rattle.txn_machine.specs.Log.{Log}
use Rattle.txn_machine.specs.Store.{Store}
use Rattle.core_state.specs.Stands.{Holds, Texts}
use Rattle.core_changes.specs.Room.{AreDeltas}
use Rattle.core_changes.proofs.room.reserve_pays.Given as goal

abbrev pub invariant-loop-delta : goal.invariant-loop-delta
invariant-loop-delta g l = record {
  seats : (d : GroupDelta) → Contains (take l.delta-index l.owed) d → HasSeat l.core.store.views (place_of d) l.session;
  room : 0 < l.delta-index → l.room ≤ room_of l.core.store.views l.session;
  rooms : (s : ℕ) → room_of l.fn.core.store.views s ≤ room_of l.core.store.views s;
  holds : (s : Store) (log : Log) (texts : Texts) → AreDeltas s l.owed → Holds g.M.SortedMaps.maps g.M.SortedMaps.spare g.M.SortedMaps.limit l.fn.core s log texts → Holds g.M.SortedMaps.maps g.M.SortedMaps.spare g.M.SortedMaps.limit l.core s log texts;
  rest : l.core ≡ record l.fn.core { store = record l.fn.core.store { views = l.core.store.views } };
}
