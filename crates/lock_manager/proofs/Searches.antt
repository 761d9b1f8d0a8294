-- What a search in order from a place finds.
use Rattle.std.proofs.Common.{◌≡◌, ◌≢◌, ℕ, ◌+◌, ◌<◌, ◌≤◌, Bool, true, false, List, [], ◌∷◌, ◌++◌, length, get_or, Option, Some, None, refl, sym, ap, subst, ◌∙◌, arith, inl, inr, Less, Greater}
use Rattle.std.specs.Prelude.{◌↔◌, IsTrue, slice_index_or, IfSome}
use Rattle.std.proofs.lemmas.List.Elements.{Contains-append_right, Contains-append_cases}
use Rattle.std.proofs.lemmas.Bool.{cases_lt, not-true}
use Rattle.std.proofs.lemmas.List.{get_or_default}
use Rattle.std.specs.Ordering.{is_lt, ordering_reverse}
use Rattle.std.specs.List.{Contains}
use Rattle.std.proofs.lemmas.Cmp.{nat_list_cmp_total}
use Rattle.iv_types.specs.declared.value.Interval.{Interval}
use Rattle.iv_types.specs.declared.lock.LockMode.{LockMode}
use Rattle.iv_types.specs.declared.lock.Want.{Want}
use Rattle.iv_types.specs.Intervals.{LiesIn, IsBelow, IsAtMost}
use Rattle.txn_machine.specs.Locks.{Conflict}
use Rattle.row_codec.proofs.RangeLaws.{alone}
use Rattle.lock_manager.specs.Order.{place_of, is_before, is_after, is_past, AreInOrder, IsCount, IsPoint, HasNoneBefore}
use Rattle.lock_manager.specs.Table.{HasSome, Covers}
use Rattle.lock_manager.proofs.Keys.{by_bytes, true_false, less_true, greater_true, not_itself, below_from, below_up_to, at_most_from, at_most_false, same_index, index_at_most, below_nothing}
use Rattle.lock_manager.proofs.Places.{rises, counted_at}
use Rattle.iv_types.proofs.Fitting.{lies_is}

-- ---- any locks

module _ (P : Want → Type 0) where
  pub none_at_all : (locks : List Want) (n : ℕ) → HasNoneBefore P locks n → length locks ≤ n → ¬ HasSome P locks
  none_at_all locks n h le (lock, (k, lt, is), p) = h k lock (omega arith) lt (subst P (sym is) p)

  pub none_more : (locks : List Want) (n : ℕ) (x : Want) → HasNoneBefore P locks n → x ≡ get_or locks n x → ¬ P x → HasNoneBefore P locks (n + 1)
  none_more locks n x h is fails k d lt within p = elim (cases_lt k n) [
    | inl less ↦ h k d less within p
    | inr le ↦
        let e : k ≡ n = omega arith in
        let at : n < length locks = omega arith in
        fails (subst P (ap (λ j. slice_index_or locks j d) e ∙ (get_or_default locks n d x at ∙ sym is)) p)
  ]

  -- no lock that is not before this one is such a one
  pub none_from : (locks : List Want) (n : ℕ) (x : Want) → AreInOrder locks → HasNoneBefore P locks n → n < length locks → x ≡ get_or locks n x
      → ((lock : Want) → is_before (place_of x) lock ≡ false → ¬ P lock) → ¬ HasSome P locks
  none_from locks n x order h at is stop (lock, (k, lt, e), p) = elim (cases_lt k n) [
    | inl less ↦ h k lock less lt (subst P (sym e) p)
    | inr le ↦
        let here : slice_index_or locks n x ≡ x = sym is in
        let there : slice_index_or locks k x ≡ lock = get_or_default locks k x lock lt ∙ e in
        let up : is_before (place_of (slice_index_or locks n x)) (slice_index_or locks k x) ≡ false = rises locks n k x order le lt in
        stop lock (subst (λ (w : Want). is_before (place_of w) lock ≡ false) here (subst (λ (w : Want). is_before (place_of (slice_index_or locks n x)) w ≡ false) there up)) p
  ]

  pub some_at : (locks : List Want) (n : ℕ) (x : Want) → n < length locks → x ≡ get_or locks n x → P x → HasSome P locks
  some_at locks n x at is p = (x, (n, at, sym is), p)

  -- what stands before a place is passed over
  pub none_counted : (place : List ℕ) (locks : List Want) (n : ℕ) → IsCount place locks n
      → ((k : ℕ) (d : Want) → k < length locks → is_before place (slice_index_or locks k d) ≡ true → ¬ P (slice_index_or locks k d)) → HasNoneBefore P locks n
  none_counted place locks n c h k d lt within = h k d within (counted_at place locks n k d c lt)

-- ---- on one index

-- what a lock's place says of its low end
on_index : (lock : Want) (index : ℕ) (key : List ℕ) → lock.index ≡ index → by_bytes (place_of lock) (index ∷ key) ≡ by_bytes lock.interval.low key
on_index lock index key e = ap (λ (i : ℕ). by_bytes (i ∷ lock.interval.low) (index ∷ key)) e ∙ same_index index lock.interval.low key

pub not_before_index : (lock : Want) (index : ℕ) → lock.index ≡ index → is_before (index ∷ []) lock ≡ true → ⊥
not_before_index lock index e b = true_false (sym b ∙ (ap is_lt (on_index lock index [] e) ∙ below_nothing lock.interval.low))

pub low_before : (lock : Want) (index : ℕ) (key : List ℕ) → lock.index ≡ index → is_before (index ∷ key) lock ≡ true → by_bytes lock.interval.low key ≡ Less
low_before lock index key e b = sym (on_index lock index key e) ∙ less_true _ b

low_not_before : (lock : Want) (index : ℕ) (key : List ℕ) → lock.index ≡ index → is_before (index ∷ key) lock ≡ false → is_lt (by_bytes lock.interval.low key) ≡ false
low_not_before lock index key e b = sym (ap is_lt (on_index lock index key e)) ∙ b

pub only_key : (interval : Interval) (key : List ℕ) → IsPoint interval → LiesIn key interval → key ≡ interval.low
only_key interval key p lies =
    (alone interval.low key).0 (subst (λ (high : Option (List ℕ)). LiesIn key (record { low = interval.low; high = high })) p lies)

-- ---- conflicts

-- a key at or behind the low end, and before the high end that is not behind it
no_key : (key low high : List ℕ) → IsAtMost low key → IsBelow key high → is_lt (by_bytes low high) ≡ false → ⊥
no_key key low high from to past = true_false (sym (ap is_lt (below_from low key high (at_most_false low key from) to)) ∙ past)

past_end : (high : Option (List ℕ)) (want x lock : Want) → want.interval.high ≡ high → is_past x.index x.interval.low want.index high ≡ true → is_before (place_of x) lock ≡ false → ¬ Conflict lock want
past_end None want x lock is past up c =
    let lt : want.index < x.index = search (arith, past) in
    let le : x.index ≤ lock.index = index_at_most x.index lock.index x.interval.low lock.interval.low up in
    omega (arith, lt, le, c.one_index)
past_end (Some high) want x lock is past up c =
    let x_past : is_before (want.index ∷ high) x ≡ false = not-true _ past in
    let lock_past : is_before (want.index ∷ high) lock ≡ false = at_most_from (want.index ∷ high) (place_of x) (place_of lock) x_past up in
    let key = c.common_key in
    no_key key.0 lock.interval.low high (lies_is key.0 lock.interval key.1).0 (subst (λ (h : Option (List ℕ)). IfSome h (λ end. IsBelow key.0 end)) is (lies_is key.0 want.interval key.2).1) (low_not_before lock want.index high c.one_index lock_past)

pub past_conflict : (want x lock : Want) → is_past x.index x.interval.low want.index want.interval.high ≡ true → is_before (place_of x) lock ≡ false → ¬ Conflict lock want
past_conflict want x lock past up = past_end want.interval.high want x lock refl past up

pub point_conflict : (want lock : Want) → IsPoint lock.interval → is_before (want.index ∷ want.interval.low) lock ≡ true → ¬ Conflict lock want
point_conflict want lock p before c =
    let key = c.common_key in
    let is : key.0 ≡ lock.interval.low = only_key lock.interval key.0 p key.1 in
    no_key key.0 want.interval.low want.interval.low (lies_is key.0 want.interval key.2).0
    (subst (λ (k : List ℕ). IsBelow k want.interval.low) (sym is) (low_before lock want.index want.interval.low c.one_index before)) (not_itself want.interval.low)

pub range_conflicts : (want : Want) (locks : List Want) (n : ℕ) → IsCount (want.index ∷ []) locks n → HasNoneBefore (λ lock. Conflict lock want) locks n
range_conflicts want locks n c = none_counted (λ lock. Conflict lock want) (want.index ∷ []) locks n c (λ k d lt before conflict. not_before_index (slice_index_or locks k d) want.index conflict.one_index before)

-- ---- keys

module _ (index : ℕ) (key : List ℕ) (mode : LockMode) where
  pub after_covers : (x lock : Want) → is_after (index ∷ key) x ≡ true → is_before (place_of x) lock ≡ false → ¬ Covers index key mode lock
  after_covers x lock after up c =
      let x_after : by_bytes (index ∷ key) (place_of x) ≡ Less = nat_list_cmp_total.antisymm (index ∷ key) (place_of x) ∙ ap ordering_reverse (greater_true _ after) in
      let lock_after : by_bytes (index ∷ key) (place_of lock) ≡ Less = below_up_to (index ∷ key) (place_of x) (place_of lock) x_after up in
      let back : by_bytes (place_of lock) (index ∷ key) ≡ Greater = nat_list_cmp_total.antisymm (place_of lock) (index ∷ key) ∙ ap ordering_reverse lock_after in
      (lies_is key lock.interval c.has_key).0 (sym (on_index lock index key c.on_index) ∙ back)

  pub ranges_covering : (locks : List Want) (n : ℕ) → IsCount (index ∷ []) locks n → HasNoneBefore (Covers index key mode) locks n
  ranges_covering locks n c = none_counted (Covers index key mode) (index ∷ []) locks n c (λ k d lt before covers. not_before_index (slice_index_or locks k d) index covers.on_index before)

-- ---- the same lock

pub same_want : (a b : Want) → a.index ≡ b.index → a.interval.low ≡ b.interval.low → a.interval.high ≡ b.interval.high → a.mode ≡ b.mode → a ≡ b
same_want a b index low high mode = λ i. record { index = index i; interval = record { low = low i; high = high i }; mode = mode i }

module _ (want : Want) where
  pub after_same : (x lock : Want) → is_after (place_of want) x ≡ true → is_before (place_of x) lock ≡ false → lock ≢ want
  after_same x lock after up e =
      let x_after : by_bytes (place_of want) (place_of x) ≡ Less = nat_list_cmp_total.antisymm (place_of want) (place_of x) ∙ ap ordering_reverse (greater_true _ after) in
      let lock_after : by_bytes (place_of want) (place_of lock) ≡ Less = below_up_to (place_of want) (place_of x) (place_of lock) x_after up in
      true_false (sym (ap is_lt lock_after) ∙ (ap (λ (w : Want). is_lt (by_bytes (place_of want) (place_of w))) e ∙ not_itself (place_of want)))

  pub none_the_same : (locks : List Want) (n : ℕ) → IsCount (place_of want) locks n → HasNoneBefore (λ lock. lock ≡ want) locks n
  none_the_same locks n c = none_counted (λ lock. lock ≡ want) (place_of want) locks n c (λ k d lt before e.
      true_false (sym before ∙ (ap (λ (w : Want). is_before (place_of want) w) e ∙ not_itself (place_of want))))

  pub same_held : (locks : List Want) → HasSome (λ lock. lock ≡ want) locks → Contains locks want
  same_held locks h = subst (Contains locks) h.2 h.1

-- ---- two lists

pub either_right : (P : Want → Type 0) (as_ bs all : List Want) (x y : Bool) → as_ ++ bs ≡ all → (IsTrue x ↔ HasSome P as_) → x ≡ false → (IsTrue y ↔ HasSome P bs) → (IsTrue y ↔ HasSome P all)
either_right P as_ bs all x y e left none right = (
  λ t. let (lock, held, p) = right.0 t in (lock, subst (λ (l : List Want). Contains l lock) e (Contains-append_right as_ bs lock held), p),
  λ (lock, held, p). elim (Contains-append_cases as_ bs lock (subst (λ (l : List Want). Contains l lock) (sym e) held)) [
    | inl there ↦ let t : x ≡ true = left.1 (lock, there, p) in true_false (sym t ∙ none)
    | inr there ↦ right.1 (lock, there, p)
  ],
)
