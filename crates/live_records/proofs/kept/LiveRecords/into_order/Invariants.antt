-- Each record is among those that are left or in order, and none else is.
use Rattle.std.proofs.Common.{◌≡◌, ℕ, ◌⊎◌, Some}
use Rattle.std.specs.Ordering.{nat_cmp}
use Rattle.std.specs.BTreeMap as tree
use Rattle.std.specs.BTreeMap.{btree_map_len}
use Rattle.live_records.specs.declared.record.LiveRecord.{LiveRecord}
use Rattle.live_records.specs.Keyed.{key_cmp}
use Rattle.live_records.proofs.kept.LiveRecords.into_order.Given as goal

abbrev pub invariant-loop-record : goal.invariant-loop-record
invariant-loop-record l = record {
  each : (t n : ℕ) (r : LiveRecord) → tree.get key_cmp l.fn.self.records (t, n) ≡ Some r → (tree.get key_cmp l.left (t, n) ≡ Some r) ⊎ (tree.get nat_cmp l.all n ≡ Some r);
  left : (t n : ℕ) (r : LiveRecord) → tree.get key_cmp l.left (t, n) ≡ Some r → tree.get key_cmp l.fn.self.records (t, n) ≡ Some r;
  all : (n : ℕ) (r : LiveRecord) → tree.get nat_cmp l.all n ≡ Some r → tree.get key_cmp l.fn.self.records (r.transaction, n) ≡ Some r;
}

abbrev pub decreases-loop-record : goal.decreases-loop-record
decreases-loop-record l = btree_map_len l.left
