-- What is left of several transactions can be reversed record by record, the latest first: each reversed change's row is the one
-- that it left, each reversed delta's row is there, and each number on the way is in range.
use Rattle.std.specs.Prelude.{◌≡◌, ◌≢◌, ℕ, true, false, cond, List, [], ◌∷◌, ℤ, pos, ◌+ℤ◌, ◌-ℤ◌, neg_ℤ, ◌≤ℤ◌, Option, Some, IsSome}
use Rattle.std.specs.FinMap.{get}
use mathlib.Core.Path.{refl, sym, ap, subst, ◌∙◌}
use mathlib.Core.Logic.{inl, inr}
use Rattle.std.proofs.Common.{arith}
use Rattle.std.proofs.lemmas.Int.{ints}
use Rattle.iv_types.specs.declared.lock.GroupDelta.{GroupDelta}
use Rattle.iv_types.specs.Encoding.{IsHuge}
use Rattle.table_laws.specs.Place.{Place}
use Rattle.table_laws.specs.Kept.{IsSession, AreTrue, Touches, redo}
use Rattle.table_laws.proofs.Tables.{same_key, other_key}
use Rattle.table_laws.proofs.Place.{place_cmp_total, place_cmp-IsAntisymmetric}
use Rattle.iv_meaning.specs.Database.{Row, Rows}
use Rattle.iv_meaning.specs.Escrow.{over_sessions, paid, lo, hi}
use Rattle.std.specs.Option.{unwrap_or}
use Rattle.txn_machine.specs.Deltas.{RowChange, negated, is_for, worth, place_of, columns_of}
use Rattle.txn_machine.specs.Stored.{ViewRows, plus, add_to, stored_number}
use Rattle.txn_machine.proofs.Agreeing.{by_place, written_at, written_other}
use Rattle.txn_machine.proofs.Bounds.{over_same, over_at_most, signs, lo_more, hi_more, huge_inside}
use Rattle.txn_machine.proofs.Columns.{adds, adds-negated, stored_add}
use Rattle.txn_log.specs.Replay.{What, Wrote, Added, Deed, own, amount_of, amounts, rows_without, view_without}
use Rattle.txn_log.specs.Fitting.{BackFits, AllBack}
use Rattle.txn_log.specs.Meaning.{row_after, row_carried}
use Rattle.txn_log.proofs.Finding.{by_number}
use Rattle.txn_log.proofs.Owning.{own_this, own_other}
use Rattle.txn_log.proofs.Reversing.{change_in, changes_of, own_tail, sums_of_own}

pub number_without : (w : What) (view : ViewRows) (p : Place) (column : ℕ) → stored_number (view_without w view) p column ≡ stored_number view p column -ℤ amount_of p column w
number_without (Wrote c) view p column = omega (arith, ints)
number_without (Added d) view p column =
    let one : stored_number (view_without (Added d) view) p column ≡ stored_number view p column +ℤ adds p column (negated d) = stored_add view (negated d) p column in
    let turned : adds p column (negated d) ≡ neg_ℤ (adds p column d) = adds-negated p column d in
    let same : amount_of p column (Added d) ≡ adds p column d = refl in
    omega (arith, ints)

-- the changes of one transaction
abbrev changes_in : ℕ → List Deed → List RowChange
changes_in t xs = changes_of (own t xs)

in_this : (t : ℕ) (x : Deed) (xs : List Deed) → x.transaction ≡ t → changes_in t (x ∷ xs) ≡ change_in x.what (changes_in t xs)
in_this t x xs e = ap changes_of (own_this t x xs e)

in_other : (t : ℕ) (x : Deed) (xs : List Deed) → x.transaction ≢ t → changes_in t (x ∷ xs) ≡ changes_in t xs
in_other t x xs n = ap changes_of (own_other t x xs n)

more_touched : (w : What) (q : Place) (cs : List RowChange) → Touches q cs → Touches q (change_in w cs)
more_touched (Wrote c) q cs u = inr u
more_touched (Added d) q cs u = u

tail_touched : (q : Place) (t : ℕ) (x : Deed) (xs : List Deed) → Touches q (changes_in t xs) → Touches q (changes_in t (x ∷ xs))
tail_touched q t x xs u = by_number x.transaction t
    (λ e. subst (Touches q) (sym (in_this t x xs e)) (more_touched x.what q (changes_in t xs) u))
    (λ n. subst (Touches q) (sym (in_other t x xs n)) u)

-- ---- view rows

abbrev pub HasRow : ViewRows → What → Type 0
HasRow view (Wrote c) = Unit {0}
HasRow view (Added d) = IsSome (get view (place_of d))

abbrev pub AllPresent : ViewRows → List Deed → Type 0
AllPresent view [] = Unit {0}
AllPresent view (x ∷ xs) = HasRow view x.what × AllPresent view xs

stays_some : (view : ViewRows) (d : GroupDelta) (p : Place) → IsSome (get view p) → IsSome (get (add_to view d) p)
stays_some view d p h =
    let row : Option (List ℤ) = Some (plus (unwrap_or (get view (place_of d)) []) (columns_of d)) in
    by_place p (place_of d)
    (λ e. subst IsSome {x = row} (sym (written_at view (place_of d) row p e)) refl)
    (λ n. subst IsSome (sym (written_other view (place_of d) row p n)) h)

has_still : (v w : What) (view : ViewRows) → HasRow view v → HasRow (view_without w view) v
has_still v (Wrote c) view h = h
has_still (Wrote b) (Added d) view h = tt
has_still (Added e) (Added d) view h = stays_some view (negated d) (place_of e) h

present_still : (w : What) (view : ViewRows) (xs : List Deed) → AllPresent view xs → AllPresent (view_without w view) xs
present_still w view [] h = tt
present_still w view (x ∷ xs) h = (has_still x.what w view h.0, present_still w view xs h.1)

-- with what came before it, each number is in range
abbrev pub AllRanged : (Place → ℕ → ℤ) → List Deed → Type 0
AllRanged value [] = Unit {0}
AllRanged value (x ∷ xs) = ((p : Place) (column : ℕ) → IsHuge (value p column +ℤ amounts p column xs)) × AllRanged value xs

module _ (base : Rows) (value : Place → ℕ → ℤ) where
  pub record CanBack (xs : List Deed) (rows : Rows) (view : ViewRows) : Type 0 where
    pub told : (t : ℕ) → AreTrue base (changes_in t xs)
    pub apart : (t u : ℕ) → t ≢ u → (q : Place) → Touches q (changes_in t xs) → Touches q (changes_in u xs) → ⊥
    pub there : (t : ℕ) (q : Place) → Touches q (changes_in t xs) → get rows q ≡ get (redo (changes_in t xs) base) q
    pub present : AllPresent view xs
    pub numbers : (p : Place) (column : ℕ) → stored_number view p column ≡ value p column +ℤ amounts p column xs
    pub ranges : AllRanged value xs

  true_rest : (w : What) (cs : List RowChange) → AreTrue base (change_in w cs) → AreTrue base cs
  true_rest (Wrote c) cs h = h.1
  true_rest (Added d) cs h = h

  -- the first of these
  fits_first : (w : What) (cs : List RowChange) (rows : Rows) (view : ViewRows) (left : Place → ℕ → ℤ)
      → ((q : Place) → Touches q (change_in w cs) → get rows q ≡ get (redo (change_in w cs) base) q) → HasRow view w
      → ((p : Place) (column : ℕ) → stored_number view p column ≡ left p column +ℤ amount_of p column w) → ((p : Place) (column : ℕ) → IsHuge (left p column))
      → BackFits rows view w
  fits_first (Wrote c) cs rows view left there has numbers range = there c.key (inl refl) ∙ written_at (redo cs base) c.key c.after c.key refl
  fits_first (Added d) cs rows view left there has numbers range = (
    has,
    λ column.
        let was : stored_number view (place_of d) column ≡ left (place_of d) column +ℤ amount_of (place_of d) column (Added d) = numbers (place_of d) column in
        let now_is : stored_number (view_without (Added d) view) (place_of d) column ≡ stored_number view (place_of d) column -ℤ amount_of (place_of d) column (Added d) =
        number_without (Added d) view (place_of d) column in
        subst IsHuge (omega (arith, ints)) (range (place_of d) column),
  )

  -- rows under the keys of the others
  there_same : (w : What) (q : Place) (cs : List RowChange) (rows : Rows) → AreTrue base (change_in w cs) → get rows q ≡ get (redo (change_in w cs) base) q
      → get (rows_without w rows) q ≡ get (redo cs base) q
  there_same (Wrote c) q cs rows told h = by_place q c.key
      (λ e. written_at rows c.key c.before q e ∙ (told.0 ∙ ap (get (redo cs base)) (sym e)))
      (λ n. written_other rows c.key c.before q n ∙ (h ∙ written_other (redo cs base) c.key c.after q n))
  there_same (Added d) q cs rows told h = h

  there_apart : (w : What) (q : Place) (cs : List RowChange) (rows : Rows) → (Touches q (change_in w []) → ⊥) → get rows q ≡ get (redo cs base) q
      → get (rows_without w rows) q ≡ get (redo cs base) q
  there_apart (Wrote c) q cs rows away h = written_other rows c.key c.before q (λ e. away (inl e)) ∙ h
  there_apart (Added d) q cs rows away h = h

  first_touched : (w : What) (q : Place) (cs : List RowChange) → Touches q (change_in w []) → Touches q (change_in w cs)
  first_touched (Wrote c) q cs (inl e) = inl e
  first_touched (Wrote c) q cs (inr u) = absurd u
  first_touched (Added d) q cs u = absurd u

  back_next : (x : Deed) (xs : List Deed) (rows : Rows) (view : ViewRows) → CanBack (x ∷ xs) rows view
      → CanBack xs (rows_without x.what rows) (view_without x.what view)
  back_next x xs rows view can = record {
    told = λ t. by_number x.transaction t
        (λ e. true_rest x.what (changes_in t xs) (subst (λ cs. AreTrue base cs) (in_this t x xs e) (can.told t)))
        (λ n. subst (λ cs. AreTrue base cs) (in_other t x xs n) (can.told t));
    apart = λ t u n q a b. can.apart t u n q (tail_touched q t x xs a) (tail_touched q u x xs b);
    there = λ t q u. by_number x.transaction t
        (λ e. there_same x.what q (changes_in t xs) rows (subst (λ cs. AreTrue base cs) (in_this t x xs e) (can.told t))
        (subst (λ cs. get rows q ≡ get (redo cs base) q) (in_this t x xs e) (can.there t q (tail_touched q t x xs u))))
        (λ n. there_apart x.what q (changes_in t xs) rows
        (λ f. can.apart x.transaction t n q (subst (Touches q) (sym (in_this x.transaction x xs refl)) (first_touched x.what q (changes_in x.transaction xs) f)) (tail_touched q t x xs u))
        (subst (λ cs. get rows q ≡ get (redo cs base) q) (in_other t x xs n) (can.there t q (tail_touched q t x xs u))));
    present = present_still x.what view xs can.present.1;
    numbers = λ p column.
        let was : stored_number view p column ≡ value p column +ℤ (amounts p column xs +ℤ amount_of p column x.what) = can.numbers p column in
        let now_is : stored_number (view_without x.what view) p column ≡ stored_number view p column -ℤ amount_of p column x.what = number_without x.what view p column in
        omega (arith, ints);
    ranges = can.ranges.1;
  }

  pub all_back : (xs : List Deed) (rows : Rows) (view : ViewRows) → CanBack xs rows view → AllBack xs rows view
  all_back [] rows view can = tt
  all_back (x ∷ xs) rows view can = (
    fits_first x.what (changes_in x.transaction xs) rows view (λ p column. value p column +ℤ amounts p column xs)
        (λ q u. subst (λ cs. get rows q ≡ get (redo cs base) q) (in_this x.transaction x xs refl) (can.there x.transaction q (subst (Touches q) (sym (in_this x.transaction x xs refl)) u)))
        can.present.0
        (λ p column. let was : stored_number view p column ≡ value p column +ℤ (amounts p column xs +ℤ amount_of p column x.what) = can.numbers p column in omega (arith, ints))
        can.ranges.0,
    all_back xs (rows_without x.what rows) (view_without x.what view) (back_next x xs rows view can),
  )

-- ---- ranges

abbrev pub inc_with : Place → ℕ → What → List ℤ → List ℤ
inc_with p column (Wrote c) ds = ds
inc_with p column (Added d) ds = cond (is_for p d) (worth column d ∷ ds) ds

abbrev pub incs : Place → ℕ → List Deed → List ℤ
incs p column [] = []
incs p column (x ∷ xs) = inc_with p column x.what (incs p column xs)

paid_inc : (p : Place) (column : ℕ) (w : What) (ds : List ℤ) → paid (inc_with p column w ds) ≡ paid ds +ℤ amount_of p column w
paid_inc p column (Wrote c) ds = omega (arith, ints)
paid_inc p column (Added d) ds = elim (is_for p d) as (λ b. paid (cond b (worth column d ∷ ds) ds) ≡ paid ds +ℤ cond b (worth column d) (pos 0)) [
  | true ↦ refl
  | false ↦ omega (arith, ints)
]

paid_incs : (p : Place) (column : ℕ) (xs : List Deed) → paid (incs p column xs) ≡ amounts p column xs
paid_incs p column [] = refl
paid_incs p column (x ∷ xs) = paid_inc p column x.what (incs p column xs) ∙ ap (λ z. z +ℤ amount_of p column x.what) (paid_incs p column xs)

lo_inc : (p : Place) (column : ℕ) (w : What) (ds : List ℤ) → lo (inc_with p column w ds) ≤ℤ lo ds
lo_inc p column (Wrote c) ds = omega (arith, ints)
lo_inc p column (Added d) ds = elim (is_for p d) as (λ b. lo (cond b (worth column d ∷ ds) ds) ≤ℤ lo ds) [ true ↦ lo_more (worth column d) ds | false ↦ omega (arith, ints) ]

hi_inc : (p : Place) (column : ℕ) (w : What) (ds : List ℤ) → hi ds ≤ℤ hi (inc_with p column w ds)
hi_inc p column (Wrote c) ds = omega (arith, ints)
hi_inc p column (Added d) ds = elim (is_for p d) as (λ b. hi ds ≤ℤ hi (cond b (worth column d ∷ ds) ds)) [ true ↦ hi_more (worth column d) ds | false ↦ omega (arith, ints) ]

-- the bounds of one transaction hold of what is left of it
abbrev pub IsOfStep : (ℕ → ℕ) → List Deed → List Deed → Type 0
IsOfStep ids live xs = (p : Place) (column i : ℕ)
    → (lo (incs p column (own (ids i) live)) ≤ℤ lo (incs p column (own (ids i) xs))) × (hi (incs p column (own (ids i) xs)) ≤ℤ hi (incs p column (own (ids i) live)))

within_rest : (ids : ℕ → ℕ) (live : List Deed) (x : Deed) (xs : List Deed) → IsOfStep ids live (x ∷ xs) → IsOfStep ids live xs
within_rest ids live x xs h p column i =
    let was = h p column i in
    by_number x.transaction (ids i)
    (λ e.
    let same : incs p column (own (ids i) (x ∷ xs)) ≡ inc_with p column x.what (incs p column (own (ids i) xs)) = ap (incs p column) (own_this (ids i) x xs e) in
    let low : lo (incs p column (own (ids i) live)) ≤ℤ lo (inc_with p column x.what (incs p column (own (ids i) xs))) =
    subst (λ ds. lo (incs p column (own (ids i) live)) ≤ℤ lo ds) same was.0 in
    let high : hi (inc_with p column x.what (incs p column (own (ids i) xs))) ≤ℤ hi (incs p column (own (ids i) live)) =
    subst (λ ds. hi ds ≤ℤ hi (incs p column (own (ids i) live))) same was.1 in
    let lower = lo_inc p column x.what (incs p column (own (ids i) xs)) in
    let higher = hi_inc p column x.what (incs p column (own (ids i) xs)) in
    (omega (arith, ints, low, lower), omega (arith, ints, high, higher)))
    (λ n. subst (λ (ys : List Deed). (lo (incs p column (own (ids i) live)) ≤ℤ lo (incs p column ys)) × (hi (incs p column ys) ≤ℤ hi (incs p column (own (ids i) live))))
    (own_other (ids i) x xs n) was)

-- each record is of one of the sessions
pub record AreOwned (ids : ℕ → ℕ) (xs : List Deed) : Type 0 where
  pub one : (s t : ℕ) → IsSession 64 s → IsSession 64 t → s ≢ t → ids s ≡ ids t → own (ids s) xs ≡ []
  pub none : (t : ℕ) → ((s : ℕ) → IsSession 64 s → ids s ≡ t → ⊥) → own t xs ≡ []

owned_rest : (ids : ℕ → ℕ) (x : Deed) (xs : List Deed) → AreOwned ids (x ∷ xs) → AreOwned ids xs
owned_rest ids x xs h = record {
  one = λ s t k l d e. own_tail (ids s) x xs (h.one s t k l d e);
  none = λ t nobody. own_tail t x xs (h.none t nobody);
}

pub ranged : (ids : ℕ → ℕ) (live : List Deed) (value : Place → ℕ → ℤ)
    → ((p : Place) (column : ℕ) → IsHuge (value p column +ℤ over_sessions (λ i. lo (incs p column (own (ids i) live)))))
    → ((p : Place) (column : ℕ) → IsHuge (value p column +ℤ over_sessions (λ i. hi (incs p column (own (ids i) live)))))
    → (xs : List Deed) → IsOfStep ids live xs → AreOwned ids xs → AllRanged value xs
ranged ids live value low high [] within owned = tt
ranged ids live value low high (x ∷ xs) within owned =
    let rest : IsOfStep ids live xs = within_rest ids live x xs within in
    let mine : AreOwned ids xs = owned_rest ids x xs owned in (
      λ p column.
          let sums : over_sessions (λ i. amounts p column (own (ids i) xs)) ≡ amounts p column xs = sums_of_own ids p column xs mine.one mine.none in
          let paid_is : over_sessions (λ i. paid (incs p column (own (ids i) xs))) ≡ over_sessions (λ i. amounts p column (own (ids i) xs)) =
          over_same (λ i. paid (incs p column (own (ids i) xs))) (λ i. amounts p column (own (ids i) xs)) (λ i is. paid_incs p column (own (ids i) xs)) in
          let least : over_sessions (λ i. lo (incs p column (own (ids i) live))) ≤ℤ over_sessions (λ i. paid (incs p column (own (ids i) xs))) =
          over_at_most (λ i. lo (incs p column (own (ids i) live))) (λ i. paid (incs p column (own (ids i) xs)))
          (λ i. let a = (rest p column i).0 in let b = (signs (incs p column (own (ids i) xs))).1 in omega (arith, ints, a, b)) in
          let most_ : over_sessions (λ i. paid (incs p column (own (ids i) xs))) ≤ℤ over_sessions (λ i. hi (incs p column (own (ids i) live))) =
          over_at_most (λ i. paid (incs p column (own (ids i) xs))) (λ i. hi (incs p column (own (ids i) live)))
          (λ i. let a = (rest p column i).1 in let b = (signs (incs p column (own (ids i) xs))).3 in omega (arith, ints, a, b)) in
          huge_inside (value p column +ℤ over_sessions (λ i. lo (incs p column (own (ids i) live)))) (value p column +ℤ amounts p column xs)
          (value p column +ℤ over_sessions (λ i. hi (incs p column (own (ids i) live)))) (low p column)
          (omega (arith, ints, sums, paid_is, least)) (omega (arith, ints, sums, paid_is, most_)) (high p column),
      ranged ids live value low high xs rest mine,
    )

-- ---- carried records

after_at : (c : RowChange) (q : Place) (row : Option Row) → q ≡ c.key → row_after q (Wrote c) row ≡ c.after
after_at c q row e = ap (λ b. cond b c.after row) (same_key place_cmp_total place_cmp-IsAntisymmetric q c.key e)

after_other : (c : RowChange) (q : Place) (row : Option Row) → q ≢ c.key → row_after q (Wrote c) row ≡ row
after_other c q row n = ap (λ b. cond b c.after row) (other_key place_cmp_total place_cmp-IsAntisymmetric q c.key n)

-- the record is of another key, or of this one
abbrev q_free : What → Place → Type 0
q_free (Wrote c) q = q ≢ c.key
q_free (Added d) q = Unit {0}

abbrev q_at : What → Place → Type 0
q_at (Wrote c) q = q ≡ c.key
q_at (Added d) q = ⊥

module _ (base : Rows) where
  agree_first : (w : What) (q : Place) (cs : List RowChange) (row rest : Option Row)
      → (Touches q (change_in w cs) → row ≡ get (redo (change_in w cs) base) q) → rest ≡ row → row_after q w rest ≡ row
  agree_first (Wrote c) q cs row rest there e = by_place q c.key
      (λ i. after_at c q rest i ∙ sym (there (inl i) ∙ written_at (redo cs base) c.key c.after q i))
      (λ n. after_other c q rest n ∙ e)
  agree_first (Added d) q cs row rest there e = e

  agree_rest : (w : What) (q : Place) (cs : List RowChange) (row : Option Row) → q_free w q
      → (Touches q (change_in w cs) → row ≡ get (redo (change_in w cs) base) q) → Touches q cs → row ≡ get (redo cs base) q
  agree_rest (Wrote c) q cs row away there u = there (inr u) ∙ written_other (redo cs base) c.key c.after q away
  agree_rest (Added d) q cs row away there u = there u

  -- where what each transaction left of a row is the row, so is what the last carried record left
  pub carried_agree : (xs : List Deed) (q : Place) (row : Option Row)
      → ((t : ℕ) → Touches q (changes_in t xs) → row ≡ get (redo (changes_in t xs) base) q) → row_carried q row xs ≡ row
  carried_agree [] q row there = refl
  carried_agree (x ∷ xs) q row there =
      let here : Touches q (change_in x.what (changes_in x.transaction xs)) → row ≡ get (redo (change_in x.what (changes_in x.transaction xs)) base) q =
      λ u. subst (λ cs. row ≡ get (redo cs base) q) (in_this x.transaction x xs refl) (there x.transaction (subst (Touches q) (sym (in_this x.transaction x xs refl)) u)) in
      by_what x.what q
      (λ away. agree_first x.what q (changes_in x.transaction xs) row (row_carried q row xs) here
      (carried_agree xs q row (λ t u. by_number x.transaction t
      (λ e. agree_rest x.what q (changes_in t xs) row away
      (λ v. subst (λ cs. row ≡ get (redo cs base) q) (in_this t x xs e) (there t (subst (Touches q) (sym (in_this t x xs e)) v))) u)
      (λ n. subst (λ cs. row ≡ get (redo cs base) q) (in_other t x xs n) (there t (subst (Touches q) (sym (in_other t x xs n)) u))))))
      (λ at. agree_at x.what q (changes_in x.transaction xs) row (row_carried q row xs) at here)
    where
      by_what : {P : Type 0} (w : What) (q : Place) → (q_free w q → P) → (q_at w q → P) → P
      by_what (Wrote c) q f g = by_place q c.key g f
      by_what (Added d) q f g = f tt

      agree_at : (w : What) (q : Place) (cs : List RowChange) (row rest : Option Row) → q_at w q
          → (Touches q (change_in w cs) → row ≡ get (redo (change_in w cs) base) q) → row_after q w rest ≡ row
      agree_at (Wrote c) q cs row rest at there = after_at c q rest at ∙ sym (there (inl at) ∙ written_at (redo cs base) c.key c.after q at)
      agree_at (Added d) q cs row rest at there = absurd at
