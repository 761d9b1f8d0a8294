-- No clause of `run` rests on this module: it serves contracts between crates.
--
-- Locks in the order of their indexes, and in an index of their low ends.
use Rattle.std.specs.Prelude.{◌≡◌, ℕ, zero, suc, ◌<◌, nat_lt, Bool, true, false, not, List, [], ◌∷◌, ◌++◌, Option, Some, None, length, slice_index_or, refl}
use Rattle.std.specs.Ordering.{nat_cmp, is_lt, is_gt}
use Rattle.std.specs.Cmp.Lexicographic.{slice_cmp}
use Rattle.std.specs.Coded.{Coded, coded_ℕ, coded_list, coded×, code_by}
use Rattle.iv_types.specs.declared.value.Interval.{Interval}
use Rattle.iv_types.specs.declared.lock.Want.{Want}
use Rattle.iv_types.specs.contracts.lock.Want as want

-- the interval is that of one key
abbrev pub IsPoint : Interval → Type 0
IsPoint interval = interval.high ≡ Some (interval.low ++ 0 ∷ [])

-- none of the first locks is such a one, so many of them
abbrev pub HasNoneBefore : (Want → Type 0) → List Want → ℕ → Type 0
HasNoneBefore P locks n = (k : ℕ) (d : Want) → k < n → k < length locks → ¬ P (slice_index_or locks k d)

-- ---- the order

-- where a lock stands: its index and then its low end, in lexicographic order
abbrev pub place_of : Want → List ℕ
place_of lock = lock.index ∷ lock.interval.low

abbrev pub is_before : List ℕ → Want → Bool
is_before place lock = is_lt (slice_cmp nat_cmp (place_of lock) place)

abbrev pub is_after : List ℕ → Want → Bool
is_after place lock = is_gt (slice_cmp nat_cmp (place_of lock) place)

-- a lock from this low end of this index on has no key before that high end of that index
abbrev pub is_past : ℕ → List ℕ → ℕ → Option (List ℕ) → Bool
is_past index low i (Some high) = not (is_lt (slice_cmp nat_cmp (index ∷ low) (i ∷ high)))
is_past index low i None = nat_lt i index

-- none of these stands before this place
abbrev pub StandFrom : List ℕ → List Want → Type 0
StandFrom place [] = Unit {0}
StandFrom place (lock ∷ locks) = (is_before place lock ≡ false) × StandFrom place locks

abbrev pub AreInOrder : List Want → Type 0
AreInOrder [] = Unit {0}
AreInOrder (lock ∷ locks) = StandFrom (place_of lock) locks × AreInOrder locks

-- so many stand before the place
abbrev pub IsCount : List ℕ → List Want → ℕ → Type 0
IsCount place [] zero = Unit {0}
IsCount place [] (suc n) = ⊥
IsCount place (lock ∷ locks) zero = is_before place lock ≡ false
IsCount place (lock ∷ locks) (suc n) = (is_before place lock ≡ true) × IsCount place locks n

-- ---- locks in memory

-- the locks of a session, and for how many more there is room
pub record HeldLocks : Type 0 where
  pub locks : List Want
  pub spare : ℕ

abbrev pub coded_held : Coded HeldLocks
coded_held = code_by (List Want × ℕ) (coded× (coded_list want.the_row.coded) coded_ℕ) (λ k. (k.locks, k.spare)) (λ p. record { locks = p.0; spare = p.1 }) (λ _. refl)
