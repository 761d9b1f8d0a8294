use Rattle.std.specs.Prelude.{◌≡◌, ◌≤◌, [], ◌∷◌}
use Rattle.table_store.specs.Lists.{map_at}
use Rattle.ghost_rows.specs.Kept.{Pays}
use Rattle.ghost_rows.specs.State.{AreKept, room_of}
use Rattle.lock_cases.proofs.pays.others_pay.Given as goal

abbrev pub invariant-loop-other : goal.invariant-loop-other
invariant-loop-other l = record {
  kept : (pays : Pays) → AreKept l.initial.rows (map_at l.initial.maps) (1, 7 ∷ []) 2 pays → (after : Pays) × AreKept l.rows (map_at l.maps) (1, 7 ∷ []) 2 after × (after l.session ≡ pays l.session);
  room : room_of l.initial.rows l.session ≤ room_of l.rows l.session;
}
