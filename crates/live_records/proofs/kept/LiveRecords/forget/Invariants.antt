-- Records of others are kept.
use Rattle.std.proofs.Common.{◌≡◌, ℕ}
use Rattle.std.specs.BTreeMap.{btree_map_len}
use Rattle.live_records.specs.Live.{kept_at}
use Rattle.live_records.proofs.kept.LiveRecords.forget.Given as goal

abbrev pub invariant-loop-record : goal.invariant-loop-record
invariant-loop-record l = record {
  others : (t number : ℕ) → (t ≡ l.transaction → ⊥) → kept_at l.self t number ≡ kept_at l.fn.self t number;
  ended : l.self.ended ≡ l.fn.self.ended;
}

abbrev pub decreases-loop-record : goal.decreases-loop-record
decreases-loop-record l = btree_map_len l.self.records
