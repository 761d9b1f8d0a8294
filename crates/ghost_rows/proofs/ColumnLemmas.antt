-- What calls on a column do to the account that it stands for.
use Rattle.std.specs.Prelude.{◌≡◌, ◌≢◌, ℕ, ◌==◌, ℤ, pos, neg_ℤ, ◌+ℤ◌, ◌≤ℤ◌, Bool, true, false, cond, List, [], ◌∷◌}
use mathlib.Core.Path.{refl, sym, ap, subst, ◌∙◌}
use Rattle.std.proofs.Common.{arith}
use Rattle.std.proofs.lemmas.Int.{ints}
use Rattle.iv_types.specs.declared.lock.GroupDelta.{GroupDelta}
use Rattle.iv_types.specs.declared.lock.Prefix.{Prefix}
use Rattle.iv_types.specs.Encoding.{IsHuge}
use Rattle.txn_machine.specs.Deltas.{worth}
use Rattle.iv_meaning.specs.Escrow as meaning
use Rattle.iv_meaning.specs.Escrow.{Account, IsSession, inf, sup, value, paid, with_kept, prefix_of, IsLeftOf, Undo, Commit, over_sessions}
use Rattle.escrow_bounds.specs.Column as column
use Rattle.escrow_bounds.specs.Column.{Column, Stands, part, with_part, added, settled, untouched}
use Rattle.escrow_bounds.proofs.PartLemmas.{self_tie, untied}
use Rattle.escrow_bounds.proofs.SumLemmas.{sessions-change, sessions-zero, sessions-le}
use Rattle.escrow_bounds.proofs.KeepLemmas.{follows-with_part, follows-added, follows-settled, allowed_account, huge_inside, prefix_signs, stands_untouched}
use Rattle.escrow_bounds.proofs.LawLemmas.{lies_between, ending_narrows}
use Rattle.ghost_rows.specs.Rows.{Widens}
use Rattle.ghost_rows.specs.Kept.{Pays, no_pays, with_pays, increments, account, ColumnStands}

by_test : {A B : Type 0} (f : A → B) (b : Bool) (x y : A) → f (cond b x y) ≡ cond b (f x) (f y)
by_test f true x y = refl
by_test f false x y = refl

-- the account with the pays of a session set
pub account_with : (k : ℤ) (at : ℕ) (pays : Pays) (s : ℕ) (ds : List GroupDelta) → account k at (with_pays pays s ds) ≡ with_kept (account k at pays) s (increments at ds)
account_with k at pays s ds = λ i. record { committed = k; kept = λ q. by_test (increments at) (q == s) ds (pays q) i }

module _ (a : Account) (s : ℕ) (session : IsSession s) (ds : List ℤ) where
  here : (with_kept a s ds).kept s ≡ ds
  here = ap (λ b. cond b ds (a.kept s)) (self_tie s)

  elsewhere : (q : ℕ) → q ≢ s → (with_kept a s ds).kept q ≡ a.kept q
  elsewhere q n = ap (λ b. cond b ds (a.kept q)) (untied q s n)

  pub value_with : value (with_kept a s ds) +ℤ paid (a.kept s) ≡ value a +ℤ paid ds
  value_with =
      let sums : over_sessions (λ q. paid ((with_kept a s ds).kept q)) +ℤ paid (a.kept s) ≡ over_sessions (λ q. paid (a.kept q)) +ℤ paid ds =
      sessions-change s (λ q. paid (a.kept q)) (λ q. paid ((with_kept a s ds).kept q)) session (λ q n. ap paid (elsewhere q n))
      ∙ ap (λ p. over_sessions (λ q. paid (a.kept q)) +ℤ p) (ap paid here) in
      omega (arith, ints, sums)

-- nothing taken back
itself : (a : Account) → IsLeftOf a a
itself a = record { committed = refl; undone = λ s. []; kept = λ s. refl }

pub between : (a : Account) → (inf a ≤ℤ value a) × (value a ≤ℤ sup a)
between a = lies_between a a (itself a)

-- no wider bounds are in the range too
narrow : (a b : Account) → IsHuge (inf a) → IsHuge (sup a) → inf a ≤ℤ inf b → sup b ≤ℤ sup a → IsHuge (inf b) × IsHuge (sup b)
narrow a b i u l h =
    let m = between b in
    let to_sup : inf b ≤ℤ sup a = omega (arith, ints, m.0, m.1, h) in
    let from_inf : inf a ≤ℤ sup b = omega (arith, ints, m.0, m.1, l) in
    (huge_inside (inf a) (inf b) (sup a) i l to_sup u, huge_inside (inf a) (sup b) (sup a) i from_inf h u)

-- the stored number is in the range
pub number_huge : (c : Column) (at : ℕ) (n : ℤ) (pays : Pays) → ColumnStands c at n pays → IsHuge n
number_huge c at n pays st =
    let m = between (account c.committed at pays) in
    subst IsHuge st.value_is (huge_inside (inf (account c.committed at pays)) (value (account c.committed at pays)) (sup (account c.committed at pays)) st.inf_huge m.0 m.1 st.sup_huge)

-- ---- the calls

plus : (v p q n w : ℤ) → v +ℤ p ≡ n +ℤ q → q ≡ p +ℤ w → v ≡ n +ℤ w
plus v p q n w a b = omega (arith, ints)

minus : (v p q n w : ℤ) → v +ℤ p ≡ n +ℤ q → p ≡ q +ℤ w → v ≡ n +ℤ neg_ℤ w
minus v p q n w a b = omega (arith, ints)

pub paid_column : (c : Column) (at : ℕ) (n : ℤ) (pays : Pays) (s : ℕ) (d : GroupDelta) → IsSession s → ColumnStands c at n pays → column.IsAllowed c s (worth at d)
    → ColumnStands (added c s (worth at d)) at (n +ℤ worth at d) (with_pays pays s (d ∷ pays s))
paid_column c at n pays s d session st allowed =
    let a : Account = account c.committed at pays in
    let same : account c.committed at (with_pays pays s (d ∷ pays s)) ≡ with_kept a s (increments at (d ∷ pays s)) = account_with c.committed at pays s (d ∷ pays s) in
    let by_account = (allowed_account c s (worth at d) a st.stands).0 allowed in
    record {
      stands = subst (Stands (added c s (worth at d))) (sym same) (follows-added c s (worth at d) a st.stands);
      value_is = ap value same ∙ plus (value (with_kept a s (increments at (d ∷ pays s)))) (paid (a.kept s)) (paid (increments at (d ∷ pays s))) n (worth at d)
          (value_with a s session (increments at (d ∷ pays s)) ∙ ap (λ z. z +ℤ paid (increments at (d ∷ pays s))) st.value_is) refl;
      inf_huge = subst (λ b. IsHuge (inf b)) (sym same) by_account.inf;
      sup_huge = subst (λ b. IsHuge (sup b)) (sym same) by_account.sup;
    }

pub taken_column : (c : Column) (at : ℕ) (n : ℤ) (pays : Pays) (s : ℕ) (d : GroupDelta) (earlier : List GroupDelta) (p : Prefix) → IsSession s → ColumnStands c at n pays
    → pays s ≡ d ∷ earlier → p ≡ prefix_of (increments at earlier) → ColumnStands (with_part c s p) at (n +ℤ neg_ℤ (worth at d)) (with_pays pays s earlier)
taken_column c at n pays s d earlier p session st latest is =
    let a : Account = account c.committed at pays in
    let left : Account = with_kept a s (increments at earlier) in
    let same : account c.committed at (with_pays pays s earlier) ≡ left = account_with c.committed at pays s earlier in
    let kept : a.kept s ≡ worth at d ∷ increments at earlier = ap (increments at) latest in
    let narrows = subst (λ (ds : List ℤ). (inf a ≤ℤ inf (with_kept a s (meaning.earlier ds))) × (sup (with_kept a s (meaning.earlier ds)) ≤ℤ sup a)) kept (ending_narrows a (Undo s) session) in
    let huge = narrow a left st.inf_huge st.sup_huge narrows.0 narrows.1 in
    record {
      stands = subst (Stands (with_part c s p)) (sym same) (follows-with_part c s p (increments at earlier) is a st.stands);
      value_is = ap value same ∙ minus (value left) (paid (a.kept s)) (paid (increments at earlier)) n (worth at d)
          (value_with a s session (increments at earlier) ∙ ap (λ z. z +ℤ paid (increments at earlier)) st.value_is) (ap paid kept);
      inf_huge = subst (λ b. IsHuge (inf b)) (sym same) huge.0;
      sup_huge = subst (λ b. IsHuge (sup b)) (sym same) huge.1;
    }

pub settled_column : (c : Column) (at : ℕ) (n : ℤ) (pays : Pays) (s : ℕ) → IsSession s → ColumnStands c at n pays → ColumnStands (settled c s) at n (with_pays pays s [])
settled_column c at n pays s session st =
    let a : Account = account c.committed at pays in
    let end : Account = meaning.settled a s in
    let sum : (settled c s).committed ≡ end.committed = ap (λ (p : Prefix). c.committed +ℤ p.sum) (st.stands.parts s) in
    let same : account (settled c s).committed at (with_pays pays s []) ≡ end =
    account_with (settled c s).committed at pays s [] ∙ ap (λ k. record { committed = k; kept = (with_kept a s []).kept }) sum in
    let narrows = ending_narrows a (Commit s) session in
    let huge = narrow a end st.inf_huge st.sup_huge narrows.0 narrows.1 in
    let worth_it : value end ≡ value a = same_value (value (with_kept a s [])) (paid (a.kept s)) (value a) (over_sessions (λ q. paid ((with_kept a s []).kept q))) a.committed refl (value_with a s session []) in
    record {
      stands = subst (Stands (settled c s)) (sym same) (follows-settled c s a st.stands);
      value_is = ap value same ∙ (worth_it ∙ st.value_is);
      inf_huge = subst (λ b. IsHuge (inf b)) (sym same) huge.0;
      sup_huge = subst (λ b. IsHuge (sup b)) (sym same) huge.1;
    }
  where
    same_value : (v p w rest k : ℤ) → v ≡ k +ℤ rest → v +ℤ p ≡ w +ℤ pos 0 → (k +ℤ p) +ℤ rest ≡ w
    same_value v p w rest k a b = omega (arith, ints)

pub widened_column : (c d : Column) (at : ℕ) (n : ℤ) (pays : Pays) → Widens c d → ColumnStands c at n pays → ColumnStands d at n pays
widened_column c d at n pays w st =
    let same : account c.committed at pays ≡ account d.committed at pays = ap (λ k. account k at pays) (sym w.committed) in
    record {
      stands = record { committed = refl; parts = λ s. w.parts s ∙ st.stands.parts s };
      value_is = sym (ap value same) ∙ st.value_is;
      inf_huge = subst (λ b. IsHuge (inf b)) same st.inf_huge;
      sup_huge = subst (λ b. IsHuge (sup b)) same st.sup_huge;
    }

plus_zero : (n z : ℤ) → z ≡ pos 0 → n +ℤ z ≡ n
plus_zero n z e = omega (arith, ints)

pub new_column : (n : ℤ) (at : ℕ) → IsHuge n → ColumnStands (untouched n) at n no_pays
new_column n at h = record {
  stands = stands_untouched n;
  value_is = plus_zero n _ sessions-zero;
  inf_huge = subst IsHuge (sym (plus_zero n _ sessions-zero)) h;
  sup_huge = subst IsHuge (sym (plus_zero n _ sessions-zero)) h;
}

below_zero : (ds : List ℤ) → (meaning.lo ds ≤ℤ pos 0) × (pos 0 ≤ℤ meaning.hi ds)
below_zero ds = let p = prefix_signs ds in (p.0, p.2)

-- so is the committed value
pub committed_huge : (c : Column) (at : ℕ) (n : ℤ) (pays : Pays) → ColumnStands c at n pays → IsHuge c.committed
committed_huge c at n pays st =
    let a : Account = account c.committed at pays in
    let low : over_sessions (λ s. meaning.lo (a.kept s)) ≤ℤ over_sessions (λ s. pos 0) = sessions-le (λ s. meaning.lo (a.kept s)) (λ s. pos 0) (λ s. (below_zero (a.kept s)).0) in
    let high : over_sessions (λ s. pos 0) ≤ℤ over_sessions (λ s. meaning.hi (a.kept s)) = sessions-le (λ s. pos 0) (λ s. meaning.hi (a.kept s)) (λ s. (below_zero (a.kept s)).1) in
    huge_inside (inf a) c.committed (sup a) st.inf_huge (at_least c.committed _ _ low sessions-zero) (at_most c.committed _ _ high sessions-zero) st.sup_huge
  where
    at_least : (k l z : ℤ) → l ≤ℤ z → z ≡ pos 0 → (k +ℤ l) ≤ℤ k
    at_least k l z a b = omega (arith, ints)

    at_most : (k h z : ℤ) → z ≤ℤ h → z ≡ pos 0 → k ≤ℤ (k +ℤ h)
    at_most k h z a b = omega (arith, ints)

pub no_pays_value : (n : ℤ) → value (account n 0 no_pays) ≡ n
no_pays_value n = plus_zero n _ sessions-zero
