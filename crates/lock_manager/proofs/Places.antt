-- Locks in order, and the place at which one is put.
use Rattle.std.proofs.Common.{◌≡◌, ℕ, zero, suc, ◌<◌, ◌≤◌, Bool, true, false, List, [], ◌∷◌, ◌++◌, length, sym, ap, ◌∙◌, arith}
use Rattle.std.specs.Prelude.{slice_index_or, nat_eq, IsTrue}
use Rattle.std.specs.Cmp.Lexicographic.{pointwise, bytes_decides}
use Rattle.std.proofs.lemmas.List.{same_from_push}
use Rattle.std.specs.Ordering.{is_lt}
use Rattle.std.specs.List.{insert}
use Rattle.std.specs.List.Sorted.{IsPartitionPoint, IsPartitionedBy}
use Rattle.iv_types.specs.declared.lock.Want.{Want}
use Rattle.lock_manager.specs.Order.{place_of, is_before, StandFrom, AreInOrder, IsCount}
use Rattle.lock_manager.proofs.Keys.{by_bytes, less_true, not_itself, not_both, below_from, at_most_from}

-- ---- in order

pub stand_at : (place : List ℕ) (locks : List Want) (k : ℕ) (d : Want) → StandFrom place locks → k < length locks → is_before place (slice_index_or locks k d) ≡ false
stand_at place [] k d h lt = absurd (omega arith)
stand_at place (lock ∷ locks) zero d h lt = h.0
stand_at place (lock ∷ locks) (suc k) d h lt = stand_at place locks k d h.1 (omega arith)

stand_later : (early late : List ℕ) (locks : List Want) → is_lt (by_bytes late early) ≡ false → StandFrom late locks → StandFrom early locks
stand_later early late [] le h = tt
stand_later early late (lock ∷ locks) le h = (at_most_from early late (place_of lock) le h.0, stand_later early late locks le h.1)

-- of two locks the later does not stand before the other
pub rises : (locks : List Want) (i j : ℕ) (d : Want) → AreInOrder locks → i ≤ j → j < length locks → is_before (place_of (slice_index_or locks i d)) (slice_index_or locks j d) ≡ false
rises [] i j d h le lt = absurd (omega arith)
rises (lock ∷ locks) zero zero d h le lt = not_itself (place_of lock)
rises (lock ∷ locks) zero (suc j) d h le lt = stand_at (place_of lock) locks j d h.0 (omega arith)
rises (lock ∷ locks) (suc i) zero d h le lt = absurd (omega arith)
rises (lock ∷ locks) (suc i) (suc j) d h le lt = rises locks i j d h.1 (omega arith) (omega arith)

pub parted : (place : List ℕ) (locks : List Want) → AreInOrder locks → IsPartitionedBy (is_before place) locks
parted place locks h i j d le lt p =
    ap is_lt (below_from (place_of (slice_index_or locks i d)) (place_of (slice_index_or locks j d)) place (rises locks i j d h le lt) (less_true _ p))

-- ---- counts

pub count_from : (place : List ℕ) (locks : List Want) (n : ℕ) → n ≤ length locks
    → IsPartitionPoint (λ (w : Want). is_before place w ≡ true) (λ (w : Want). is_before place w ≡ false) locks n → IsCount place locks n
count_from place [] zero le point = tt
count_from place [] (suc n) le point = absurd (omega arith)
count_from place (lock ∷ locks) zero le point = point.1 0 lock (omega arith) (omega arith)
count_from place (lock ∷ locks) (suc n) le point = (
  point.0 0 lock (omega arith) (omega arith),
  count_from place locks n (omega arith) (λ k d l h. point.0 (suc k) d (omega arith) (omega arith), λ k d l h. point.1 (suc k) d (omega arith) (omega arith)),
)

pub count_within : (place : List ℕ) (locks : List Want) (n : ℕ) → IsCount place locks n → n ≤ length locks
count_within place [] zero h = omega arith
count_within place [] (suc n) h = absurd h
count_within place (lock ∷ locks) zero h = omega arith
count_within place (lock ∷ locks) (suc n) h = let rest = count_within place locks n h.1 in omega arith

pub counted_at : (place : List ℕ) (locks : List Want) (n k : ℕ) (d : Want) → IsCount place locks n → k < n → is_before place (slice_index_or locks k d) ≡ true
counted_at place [] zero k d h lt = absurd (omega arith)
counted_at place [] (suc n) k d h lt = absurd h
counted_at place (lock ∷ locks) zero k d h lt = absurd (omega arith)
counted_at place (lock ∷ locks) (suc n) zero d h lt = h.0
counted_at place (lock ∷ locks) (suc n) (suc k) d h lt = counted_at place locks n k d h.1 (omega arith)

-- ---- one lock more

stand_inserted : (place : List ℕ) (lock : Want) (locks : List Want) (n : ℕ) → StandFrom place locks → is_before place lock ≡ false → StandFrom place (insert locks n lock)
stand_inserted place lock locks zero h b = (b, h)
stand_inserted place lock [] (suc n) h b = (b, tt)
stand_inserted place lock (other ∷ locks) (suc n) h b = (h.0, stand_inserted place lock locks n h.1 b)

pub inserted_in_order : (lock : Want) (locks : List Want) (n : ℕ) → AreInOrder locks → IsCount (place_of lock) locks n → AreInOrder (insert locks n lock)
inserted_in_order lock [] zero h c = (tt, tt)
inserted_in_order lock [] (suc n) h c = absurd c
inserted_in_order lock (other ∷ locks) zero h c = ((c, stand_later (place_of lock) (place_of other) locks c h.0), h)
inserted_in_order lock (other ∷ locks) (suc n) h c = (
  stand_inserted (place_of other) lock locks n h.0 (not_both (place_of other) (place_of lock) (less_true _ c.0)),
  inserted_in_order lock locks n h.1 c.1,
)

-- the bytes of the high end of a point
pub point_by : (high front low : List ℕ) (last : ℕ) (b : Bool) → high ≡ front ++ last ∷ [] → last ≡ 0 → b ≡ pointwise nat_eq front low
    → (IsTrue b → high ≡ low ++ 0 ∷ []) × (high ≡ low ++ 0 ∷ [] → IsTrue b)
point_by high front low last b parts zero_last test = (
  λ t. parts ∙ (λ i. (bytes_decides front low).0 (sym test ∙ t) i ++ zero_last i ∷ []),
  λ e. test ∙ (bytes_decides front low).1 (same_from_push front low last 0 (sym parts ∙ e)).0,
)
