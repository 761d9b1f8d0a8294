-- What losers kept taken back, in the order of the log, leaves what was committed.
use Rattle.std.specs.Prelude.{◌≡◌, ◌≢◌, ℕ, zero, suc, ◌≤◌, ◌+ℤ◌, List, [], ◌∷◌, length}
use Rattle.std.specs.FinMap.{get}
use mathlib.Core.Path.{refl, sym, ap, subst, ◌∙◌}
use mathlib.Core.Logic.{inl, inr}
use Rattle.std.proofs.Common.{arith}
use Rattle.std.proofs.lemmas.Int.{ints}
use Rattle.table_laws.specs.Table.{write}
use Rattle.table_laws.specs.Sums.{sum_to}
use Rattle.table_laws.specs.Place.{Place}
use Rattle.table_laws.proofs.Place.{place_cmp_total, place_cmp-IsAntisymmetric}
use Rattle.table_laws.specs.Kept.{IsSession, IsStored, AreTrue, Touches, redo, take_back}
use Rattle.table_laws.proofs.Sums.{sum_to_zero, sum_to_same, sum_to_but_one}
use Rattle.table_laws.proofs.Tables.{same_table, get-write_at}
use Rattle.table_laws.proofs.Kept.{by_touch, back_untouched, redo_untouched}
use Rattle.iv_meaning.specs.Database.{Rows}
use Rattle.iv_meaning.specs.Escrow.{over_sessions}
use Rattle.txn_machine.specs.Deltas.{RowChange}
use Rattle.txn_log.specs.Replay.{What, Wrote, Added, Deed, amount_of, amounts, rows_without, all_rows_back}
use Rattle.txn_log.specs.Replay.{own}
use Rattle.txn_log.specs.Moments.{Txn, AreCarried}
use Rattle.txn_log.proofs.Finding.{by_number}
use Rattle.txn_log.proofs.Owning.{own_this, own_other, AreApart}

-- ---- the changes of rows among records

abbrev pub change_in : What → List RowChange → List RowChange
change_in (Wrote c) cs = c ∷ cs
change_in (Added d) cs = cs

abbrev pub changes_of : List Deed → List RowChange
changes_of [] = []
changes_of (x ∷ xs) = change_in x.what (changes_of xs)

-- ---- a session has the transaction, or none has

pub by_owner : {P : Type 0} (ids : ℕ → ℕ) (t n : ℕ) → ((s : ℕ) → IsSession n s → ids s ≡ t → P) → (((s : ℕ) → IsSession n s → ids s ≡ t → ⊥) → P) → P
by_owner ids t zero f g = g (λ s k e. let l = k.0 in let h = k.1 in omega arith)
by_owner ids t (suc n) f g = by_number (ids (suc n)) t
    (λ e. f (suc n) (omega arith, omega arith) e)
    (λ d. by_owner ids t n
    (λ s k e. f s (k.0, (let h = k.1 in omega arith)) e)
    (λ none. g (λ s k e. by_number s (suc n)
    (λ i. d (ap ids (sym i) ∙ e))
    (λ m. none s (k.0, (let h = k.1 in omega arith)) e))))

pub not_nothing : (x : Deed) (xs : List Deed) → x ∷ xs ≡ [] → ⊥
not_nothing x xs e = let lengths : suc (length xs) ≡ 0 = ap length e in omega arith

pub own_tail : (t : ℕ) (x : Deed) (xs : List Deed) → own t (x ∷ xs) ≡ [] → own t xs ≡ []
own_tail t x xs h = by_number x.transaction t
    (λ e. absurd (not_nothing x (own t xs) (sym (own_this t x xs e) ∙ h)))
    (λ n. sym (own_other t x xs n) ∙ h)

-- ---- rows

one_back : (w : What) (xs : List Deed) (rows : Rows)
    → ((m : Rows) → all_rows_back xs m ≡ take_back (changes_of xs) m)
    → all_rows_back xs (rows_without w rows) ≡ take_back (change_in w (changes_of xs)) rows
one_back (Wrote c) xs rows rest = rest (write rows c.key c.before)
one_back (Added d) xs rows rest = rest rows

back_is : (xs : List Deed) (rows : Rows) → all_rows_back xs rows ≡ take_back (changes_of xs) rows
back_is [] rows = refl
back_is (x ∷ xs) rows = one_back x.what xs rows (λ m. back_is xs m)

true_tail : (w : What) (base : Rows) (cs : List RowChange) → AreTrue base (change_in w cs) → AreTrue base cs
true_tail (Wrote c) base cs h = h.1
true_tail (Added d) base cs h = h

touches_in : (w : What) (q : Place) (cs ds : List RowChange) → (Touches q cs → Touches q ds) → Touches q (change_in w cs) → Touches q (change_in w ds)
touches_in (Wrote c) q cs ds f (inl e) = inl e
touches_in (Wrote c) q cs ds f (inr u) = inr (f u)
touches_in (Added d) q cs ds f u = f u

touches_more : (w : What) (q : Place) (cs : List RowChange) → Touches q cs → Touches q (change_in w cs)
touches_more (Wrote c) q cs u = inr u
touches_more (Added d) q cs u = u

-- what one transaction touches is touched
touches_own : (q : Place) (t : ℕ) (xs : List Deed) → Touches q (changes_of (own t xs)) → Touches q (changes_of xs)
touches_own q t [] u = u
touches_own q t (x ∷ xs) u = by_number x.transaction t
    (λ e. touches_in x.what q (changes_of (own t xs)) (changes_of xs) (λ v. touches_own q t xs v)
    (subst (λ ys. Touches q (changes_of ys)) (own_this t x xs e) u))
    (λ n. touches_more x.what q (changes_of xs) (touches_own q t xs (subst (λ ys. Touches q (changes_of ys)) (own_other t x xs n) u)))

touched_step : (w : What) (q : Place) (t : ℕ) (xs : List Deed) (rows base : Rows) → AreTrue base (change_in w (changes_of (own t xs)))
    → ((m : Rows) → Touches q (changes_of xs) → get (take_back (changes_of xs) m) q ≡ get base q)
    → Touches q (change_in w (changes_of xs)) → get (take_back (change_in w (changes_of xs)) rows) q ≡ get base q
touched_step (Wrote c) q t xs rows base told rest u = by_touch place_cmp_total place_cmp-IsAntisymmetric q (changes_of xs)
    (λ v. rest (write rows c.key c.before) v)
    (λ n.
    let e : q ≡ c.key = elim u [ inl e ↦ e | inr v ↦ absurd (n v) ] in
    back_untouched place_cmp_total place_cmp-IsAntisymmetric q (changes_of xs) (write rows c.key c.before) n
    ∙ (get-write_at place_cmp_total place_cmp-IsAntisymmetric rows c.key c.before q e
    ∙ (told.0 ∙ (ap (get (redo (changes_of (own t xs)) base)) (sym e)
    ∙ redo_untouched place_cmp_total place_cmp-IsAntisymmetric q (changes_of (own t xs)) base (λ v. n (touches_own q t xs v))))))
touched_step (Added d) q t xs rows base told rest u = rest rows u

-- A key that is touched comes back to what stood there in the base, whatever rows one begins with: each transaction's changes
-- were told what they found there, and no order between transactions matters.
touched_back : (q : Place) (xs : List Deed) (rows base : Rows) → ((t : ℕ) → AreTrue base (changes_of (own t xs)))
    → Touches q (changes_of xs) → get (take_back (changes_of xs) rows) q ≡ get base q
touched_back q [] rows base told u = absurd u
touched_back q (x ∷ xs) rows base told u =
    touched_step x.what q x.transaction xs rows base
    (subst (λ ys. AreTrue base (changes_of ys)) (own_this x.transaction x xs refl) (told x.transaction))
    (λ m v. touched_back q xs m base (λ t. by_number x.transaction t
    (λ e. true_tail x.what base (changes_of (own t xs)) (subst (λ ys. AreTrue base (changes_of ys)) (own_this t x xs e) (told t)))
    (λ n. subst (λ ys. AreTrue base (changes_of ys)) (own_other t x xs n) (told t))) v)
    u

pub rows_reversed : (txn_of : ℕ → Txn) (live : List Deed) (kept : ℕ → List RowChange) (base rows : Rows) → AreCarried txn_of live
    → ((s : ℕ) → IsSession 64 s → changes_of (txn_of s).kept ≡ kept s)
    → IsStored 64 kept base rows → all_rows_back live rows ≡ base
rows_reversed txn_of live kept base rows carried same stored =
    let is_own : (s : ℕ) → IsSession 64 s → changes_of (own (txn_of s).id live) ≡ kept s = λ s k. ap changes_of (carried.each s k) ∙ same s k in
    let told : (t : ℕ) → AreTrue base (changes_of (own t live)) = λ t. by_owner (λ s. (txn_of s).id) t 64
    (λ s k e. subst (λ a. AreTrue base (changes_of (own a live))) e (subst (λ cs. AreTrue base cs) (sym (is_own s k)) (stored.told s k)))
    (λ none. subst (λ ys. AreTrue base (changes_of ys)) (sym (carried.others t none)) tt) in
    back_is live rows ∙ same_table place_cmp_total place_cmp-IsAntisymmetric _ _ (λ q.
    by_touch place_cmp_total place_cmp-IsAntisymmetric q (changes_of live)
    (λ u. touched_back q live rows base told u)
    (λ n. back_untouched place_cmp_total place_cmp-IsAntisymmetric q (changes_of live) rows n
    ∙ stored.others q (λ s k u. n (touches_own q (txn_of s).id live (subst (λ cs. Touches q cs) (sym (is_own s k)) u)))))

-- ---- totals

owned_sum : (ids : ℕ → ℕ) (p : Place) (g n : ℕ) (xs : List Deed)
    → ((s t : ℕ) → IsSession n s → IsSession n t → s ≢ t → ids s ≡ ids t → own (ids s) xs ≡ [])
    → ((t : ℕ) → ((s : ℕ) → IsSession n s → ids s ≡ t → ⊥) → own t xs ≡ [])
    → sum_to n (λ s. amounts p g (own (ids s) xs)) ≡ amounts p g xs
owned_sum ids p g n [] apart rest = sum_to_zero n (λ s. amounts p g []) (λ s l h. refl)
owned_sum ids p g n (x ∷ xs) apart rest =
    let before : sum_to n (λ s. amounts p g (own (ids s) xs)) ≡ amounts p g xs = owned_sum ids p g n xs
    (λ s t k l d e. own_tail (ids s) x xs (apart s t k l d e))
    (λ t none. own_tail t x xs (rest t none)) in
    by_owner ids x.transaction n
    (λ s k e.
    let same : (t : ℕ) → 1 ≤ t → t ≤ n → t ≢ s → amounts p g (own (ids t) (x ∷ xs)) ≡ amounts p g (own (ids t) xs) =
    λ t l h d. ap (amounts p g) (own_other (ids t) x xs (λ i.
    not_nothing x (own (ids t) xs) (sym (own_this (ids t) x xs i) ∙ apart t s (l, h) k d (sym i ∙ sym e)))) in
    let sums : sum_to n (λ t. amounts p g (own (ids t) (x ∷ xs))) +ℤ amounts p g (own (ids s) xs) ≡ sum_to n (λ t. amounts p g (own (ids t) xs)) +ℤ amounts p g (own (ids s) (x ∷ xs)) =
    sum_to_but_one n (λ t. amounts p g (own (ids t) xs)) (λ t. amounts p g (own (ids t) (x ∷ xs))) s k.0 k.1 same in
    let this : amounts p g (own (ids s) (x ∷ xs)) ≡ amounts p g (own (ids s) xs) +ℤ amount_of p g x.what = ap (amounts p g) (own_this (ids s) x xs (sym e)) in
    omega (arith, ints))
    (λ none. absurd (not_nothing x (own x.transaction xs) (sym (own_this x.transaction x xs refl) ∙ rest x.transaction none)))

pub sums_of_own : (ids : ℕ → ℕ) (p : Place) (g : ℕ) (xs : List Deed)
    → ((s t : ℕ) → IsSession 64 s → IsSession 64 t → s ≢ t → ids s ≡ ids t → own (ids s) xs ≡ [])
    → ((t : ℕ) → ((s : ℕ) → IsSession 64 s → ids s ≡ t → ⊥) → own t xs ≡ [])
    → over_sessions (λ s. amounts p g (own (ids s) xs)) ≡ amounts p g xs
unfolding over_sessions
sums_of_own ids p g xs apart rest = owned_sum ids p g 64 xs apart rest

pub sums_reversed : (txn_of : ℕ → Txn) (live : List Deed) (begun next : ℕ) → AreCarried txn_of live → AreApart txn_of begun next
    → (p : Place) (g : ℕ) → over_sessions (λ s. amounts p g (txn_of s).kept) ≡ amounts p g live
unfolding over_sessions
sums_reversed txn_of live begun next carried apart p g =
    sum_to_same 64 (λ s. amounts p g (txn_of s).kept) (λ s. amounts p g (own (txn_of s).id live)) (λ s l h. ap (amounts p g) (sym (carried.each s (l, h))))
    ∙ owned_sum (λ s. (txn_of s).id) p g 64 live
    (λ s t k l d e. by_number (txn_of s).id 0
    (λ z. ap (λ a. own a live) z ∙ carried.of_none)
    (λ z. absurd (apart.apart s t k l d (omega arith) e)))
    carried.others
