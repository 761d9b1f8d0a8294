-- What the log has of each transaction, after each act.
use Rattle.std.specs.Prelude.{◌≡◌, ◌≢◌, ℕ, ◌+◌, ◌<◌, ◌≤◌, ◌==◌, Bool, true, false, not, ◌&&◌, List, [], ◌∷◌, Some}
use mathlib.Core.Path.{refl, sym, ap, subst, ◌∙◌}
use Rattle.std.proofs.Common.{arith, eq-eqb}
use Rattle.std.proofs.lemmas.Bool.{ne_eqb, and_left, and_right, and_from}
use Rattle.iv_meaning.specs.Escrow.{IsSession}
use Rattle.txn_machine.specs.Locks.{with_one}
use Rattle.txn_machine.proofs.Basics.{one_same, one_other}
use Rattle.table_laws.proofs.Tables.{by_bool}
use Rattle.txn_log.specs.Replay.{Deed, Undo, spares, keep_where, find}
use Rattle.txn_log.specs.Replay.{own}
use Rattle.txn_log.specs.Moments.{Txn, AreCarried}
use Rattle.txn_log.proofs.Memory.{no_txn}
use Rattle.txn_log.proofs.Finding.{by_number, keep_true, keep_false, keep_both, find_this, find_kept}

-- ---- the transaction of one session replaced

pub open_at : (txn_of : ℕ → Txn) (s : ℕ) (o : Txn) (t : ℕ) → t ≡ s → with_one txn_of s o t ≡ o
open_at txn_of s o t e = one_same txn_of s o t e

pub open_not : (txn_of : ℕ → Txn) (s : ℕ) (o : Txn) (t : ℕ) → t ≢ s → with_one txn_of s o t ≡ txn_of t
open_not txn_of s o t n = one_other txn_of s o t n

-- what holds of the new transaction and of each other one holds of each
pub set_each : (P : ℕ → Txn → Type 0) (txn_of : ℕ → Txn) (s : ℕ) (o : Txn) → P s o → ((t : ℕ) → t ≢ s → P t (txn_of t))
    → (t : ℕ) → P t (with_one txn_of s o t)
set_each P txn_of s o this other t = by_number t s
    (λ e. subst (P t) (sym (open_at txn_of s o t e)) (subst (λ u. P u o) (sym e) this))
    (λ n. subst (P t) (sym (open_not txn_of s o t n)) (other t n))

pub same_id : (txn_of : ℕ → Txn) (s : ℕ) (o : Txn) → o.id ≡ (txn_of s).id → (t : ℕ) → (with_one txn_of s o t).id ≡ (txn_of t).id
same_id txn_of s o e t = set_each (λ u p. p.id ≡ (txn_of u).id) txn_of s o e (λ u n. refl) t

-- ---- the records of one transaction

pub own_this : (t : ℕ) (x : Deed) (xs : List Deed) → x.transaction ≡ t → own t (x ∷ xs) ≡ x ∷ own t xs
own_this t x xs e = keep_true (λ u n. t == u) x xs (eq-eqb t x.transaction (sym e))

pub own_other : (t : ℕ) (x : Deed) (xs : List Deed) → x.transaction ≢ t → own t (x ∷ xs) ≡ own t xs
own_other t x xs n = keep_false (λ u n. t == u) x xs (ne_eqb t x.transaction (λ e. n (sym e)))

pub own_kept : (f : ℕ → ℕ → Bool) (u : ℕ) → ((n : ℕ) → f u n ≡ true) → (xs : List Deed) → own u (keep_where f xs) ≡ own u xs
own_kept f u h [] = refl
own_kept f u h (x ∷ xs) =
    let rest : own u (keep_where f xs) ≡ own u xs = own_kept f u h xs in
    by_number x.transaction u
    (λ e.
    let b : f x.transaction x.number ≡ true = ap (λ a. f a x.number) e ∙ h x.number in
    ap (own u) (keep_true f x xs b) ∙ (own_this u x (keep_where f xs) e ∙ (ap (λ (ys : List Deed). x ∷ ys) rest ∙ sym (own_this u x xs e))))
    (λ n. by_bool (f x.transaction x.number)
    (λ b. ap (own u) (keep_true f x xs b) ∙ (own_other u x (keep_where f xs) n ∙ (rest ∙ sym (own_other u x xs n))))
    (λ b. ap (own u) (keep_false f x xs b) ∙ (rest ∙ sym (own_other u x xs n))))

pub own_gone : (f : ℕ → ℕ → Bool) (u : ℕ) → ((n : ℕ) → f u n ≡ false) → (xs : List Deed) → own u (keep_where f xs) ≡ []
own_gone f u h [] = refl
own_gone f u h (x ∷ xs) =
    let rest : own u (keep_where f xs) ≡ [] = own_gone f u h xs in
    by_number x.transaction u
    (λ e. ap (own u) (keep_false f x xs (ap (λ a. f a x.number) e ∙ h x.number)) ∙ rest)
    (λ n. by_bool (f x.transaction x.number)
    (λ b. ap (own u) (keep_true f x xs b) ∙ (own_other u x (keep_where f xs) n ∙ rest))
    (λ b. ap (own u) (keep_false f x xs b) ∙ rest))

and_swap : (a b : Bool) → (a && b) ≡ (b && a)
and_swap true true = refl
and_swap true false = refl
and_swap false true = refl
and_swap false false = refl

pub own_swap : (f : ℕ → ℕ → Bool) (u : ℕ) (xs : List Deed) → own u (keep_where f xs) ≡ keep_where f (own u xs)
own_swap f u xs =
    sym (keep_both (λ v n. u == v) f xs)
    ∙ (ap (λ (g : ℕ → ℕ → Bool). keep_where g xs) (λ i v n. and_swap (u == v) (f v n) i) ∙ keep_both f (λ v n. u == v) xs)

-- these are of one transaction, with numbers that fall from below n
abbrev pub IsKept : ℕ → ℕ → List Deed → Type 0
IsKept t n [] = Unit {0}
IsKept t n (x ∷ xs) = (x.transaction ≡ t) × (x.number < n) × IsKept t x.number xs

pub kept_weaker : (t m n : ℕ) (xs : List Deed) → m ≤ n → IsKept t m xs → IsKept t n xs
kept_weaker t m n [] h k = tt
kept_weaker t m n (x ∷ xs) h k = (k.0, (let l = k.1 in omega arith), k.2)

keep_low : (k t m : ℕ) (xs : List Deed) → IsKept t m xs → keep_where (spares (Undo k t m)) xs ≡ xs
keep_low k t m [] h = refl
keep_low k t m (x ∷ xs) h =
    let low : x.number < m = h.1 in
    let apart : ((t == x.transaction) && (m == x.number)) ≡ false = and_right (t == x.transaction) (m == x.number) (ne_eqb m x.number (λ e. omega arith)) in
    keep_true (spares (Undo k t m)) x xs (ap not apart)
    ∙ ap (λ (ys : List Deed). x ∷ ys) (keep_low k t m xs (kept_weaker t x.number m xs (omega arith) h.2))

-- the latest kept record of a transaction is found by its number
pub find_latest : (t : ℕ) (x : Deed) (ks live : List Deed) → x.transaction ≡ t → own t live ≡ x ∷ ks → find t x.number live ≡ Some x
find_latest t x ks live e is =
    sym (find_kept (λ u n. t == u) t x.number (eq-eqb t t refl) live)
    ∙ (ap (find t x.number) is ∙ find_this t x.number x ks (sym e) refl)

-- ---- after each act

-- the numbers of transactions, apart and in range, and the numbers of their kept records
pub record AreApart (txn_of : ℕ → Txn) (begun next : ℕ) : Type 0 where
  pub in_range : (s : ℕ) → IsSession s → (txn_of s).id ≤ begun
  pub apart : (s t : ℕ) → IsSession s → IsSession t → s ≢ t → 1 ≤ (txn_of s).id → (txn_of s).id ≢ (txn_of t).id
  pub kept : (s : ℕ) → IsSession s → IsKept (txn_of s).id next (txn_of s).kept

pub apart_set : (txn_of : ℕ → Txn) (begun next begun' next' : ℕ) (s : ℕ) (o : Txn) → IsSession s → AreApart txn_of begun next
    → begun ≤ begun' → next ≤ next' → o.id ≤ begun' → IsKept o.id next' o.kept
    → (1 ≤ o.id → (t : ℕ) → IsSession t → t ≢ s → o.id ≢ (txn_of t).id)
    → AreApart (with_one txn_of s o) begun' next'
apart_set txn_of begun next begun' next' s o one is more later range kept alone = record {
  in_range = λ t k. set_each (λ u p. IsSession u → p.id ≤ begun') txn_of s o (λ l. range) (λ u n l. let h = is.in_range u l in omega arith) t k;
  apart = λ t u k l d. by_number t s
      (λ e. by_number u s
      (λ i. absurd (d (e ∙ sym i)))
      (λ m at same. alone (subst (λ p. 1 ≤ p.id) (open_at txn_of s o t e) at) u l m
      (sym (ap (λ (p : Txn). p.id) (open_at txn_of s o t e)) ∙ (same ∙ ap (λ (p : Txn). p.id) (open_not txn_of s o u m)))))
      (λ n. by_number u s
      (λ i at same.
      let theirs : (txn_of t).id ≡ o.id =
      sym (ap (λ (p : Txn). p.id) (open_not txn_of s o t n)) ∙ (same ∙ ap (λ (p : Txn). p.id) (open_at txn_of s o u i)) in
      alone (subst (λ a. 1 ≤ a) theirs (subst (λ p. 1 ≤ p.id) (open_not txn_of s o t n) at)) t k n (sym theirs))
      (λ m at same. is.apart t u k l d (subst (λ p. 1 ≤ p.id) (open_not txn_of s o t n) at)
      (sym (ap (λ (p : Txn). p.id) (open_not txn_of s o t n)) ∙ (same ∙ ap (λ (p : Txn). p.id) (open_not txn_of s o u m)))));
  kept = λ t k. set_each (λ u p. IsSession u → IsKept p.id next' p.kept) txn_of s o (λ l. kept)
      (λ u n l. kept_weaker (txn_of u).id next next' (txn_of u).kept later (is.kept u l)) t k;
}

module _ (txn_of : ℕ → Txn) (live : List Deed) (is : AreCarried txn_of live) (s : ℕ) (one : IsSession s) where
  -- a transaction begins
  pub carried_begin : (begun : ℕ) → ((t : ℕ) → IsSession t → (txn_of t).id ≤ begun) → (txn_of s).id ≡ 0
      → AreCarried (with_one txn_of s (record { id = begun + 1; kept = []; wrote = false })) live
  carried_begin begun range e =
      let o : Txn = record { id = begun + 1; kept = []; wrote = false } in record {
        each = set_each (λ t p. IsSession t → own p.id live ≡ p.kept) txn_of s o
            (λ k. is.others (begun + 1) (λ u l i. let r = range u l in omega arith))
            (λ t n k. is.each t k);
        of_none = is.of_none;
        others = λ t no. by_number t 0
            (λ z. ap (λ a. own a live) z ∙ is.of_none)
            (λ z. is.others t (λ u k i. by_number u s
            (λ j. z (sym i ∙ (ap (λ a. (txn_of a).id) j ∙ e)))
            (λ n. no u k (ap (λ (p : Txn). p.id) (open_not txn_of s o u n) ∙ i))));
      }

  module _ (open_id : 1 ≤ (txn_of s).id) (apart : (t : ℕ) → IsSession t → t ≢ s → (txn_of s).id ≢ (txn_of t).id) where
    -- one more record
    pub carried_keep : (x : Deed) (wrote : Bool) → x.transaction ≡ (txn_of s).id
        → AreCarried (with_one txn_of s (record { id = (txn_of s).id; kept = x ∷ (txn_of s).kept; wrote = wrote })) (x ∷ live)
    carried_keep x wrote e =
        let o : Txn = record { id = (txn_of s).id; kept = x ∷ (txn_of s).kept; wrote = wrote } in record {
          each = set_each (λ t p. IsSession t → own p.id (x ∷ live) ≡ p.kept) txn_of s o
              (λ k. own_this (txn_of s).id x live e ∙ ap (λ (ys : List Deed). x ∷ ys) (is.each s one))
              (λ t n k. own_other (txn_of t).id x live (λ i. apart t k n (sym e ∙ i)) ∙ is.each t k);
          of_none = own_other 0 x live (λ i. let same : (txn_of s).id ≡ 0 = sym e ∙ i in omega arith) ∙ is.of_none;
          others = λ t no. own_other t x live (λ i. no s one (same_id txn_of s o refl s ∙ (sym e ∙ i)))
              ∙ is.others t (λ u k i. no u k (same_id txn_of s o refl u ∙ i));
        }

    -- the latest one taken back
    pub carried_undo : (k : ℕ) (x : Deed) (ks : List Deed) (wrote : Bool) (next : ℕ) → (txn_of s).kept ≡ x ∷ ks → IsKept (txn_of s).id next (x ∷ ks)
        → AreCarried (with_one txn_of s (record { id = (txn_of s).id; kept = ks; wrote = wrote })) (keep_where (spares (Undo k (txn_of s).id x.number)) live)
    carried_undo k x ks wrote next e kept =
        let id : ℕ = (txn_of s).id in
        let f : ℕ → ℕ → Bool = spares (Undo k id x.number) in
        let o : Txn = record { id = id; kept = ks; wrote = wrote } in
        let others_stay : (t : ℕ) → id ≢ t → (n : ℕ) → f t n ≡ true = λ t d n. ap not (and_left (id == t) (x.number == n) (ne_eqb id t d)) in
        let this_goes : f x.transaction x.number ≡ false =
        ap not (and_from (id == x.transaction) (x.number == x.number) (eq-eqb id x.transaction (sym kept.0)) (eq-eqb x.number x.number refl)) in record {
          each = set_each (λ t p. IsSession t → own p.id (keep_where f live) ≡ p.kept) txn_of s o
              (λ l. own_swap f id live ∙ (ap (keep_where f) (is.each s one ∙ e) ∙ (keep_false f x ks this_goes ∙ keep_low k id x.number ks kept.2)))
              (λ t n l. own_kept f (txn_of t).id (others_stay (txn_of t).id (apart t l n)) live ∙ is.each t l);
          of_none = own_kept f 0 (others_stay 0 (λ i. omega arith)) live ∙ is.of_none;
          others = λ t no. own_kept f t (others_stay t (λ i. no s one (same_id txn_of s o refl s ∙ i))) live
              ∙ is.others t (λ u l i. no u l (same_id txn_of s o refl u ∙ i));
        }

    -- the transaction ended
    pub carried_end : (f : ℕ → ℕ → Bool) → ((n : ℕ) → f (txn_of s).id n ≡ false) → ((t : ℕ) → (txn_of s).id ≢ t → (n : ℕ) → f t n ≡ true)
        → AreCarried (with_one txn_of s no_txn) (keep_where f live)
    carried_end f goes stays = record {
      each = set_each (λ t p. IsSession t → own p.id (keep_where f live) ≡ p.kept) txn_of s no_txn
          (λ k. own_kept f 0 (stays 0 (λ i. omega arith)) live ∙ is.of_none)
          (λ t n k. own_kept f (txn_of t).id (stays (txn_of t).id (apart t k n)) live ∙ is.each t k);
      of_none = own_kept f 0 (stays 0 (λ i. omega arith)) live ∙ is.of_none;
      others = λ t no. by_number (txn_of s).id t
          (λ e. own_gone f t (λ n. ap (λ a. f a n) (sym e) ∙ goes n) live)
          (λ d. own_kept f t (stays t d) live ∙ is.others t (λ u k i. by_number u s
          (λ j. d (ap (λ a. (txn_of a).id) (sym j) ∙ i))
          (λ n. no u k (ap (λ (p : Txn). p.id) (open_not txn_of s no_txn u n) ∙ i))));
    }

    -- without a record, where it keeps nothing
    pub carried_leave : (txn_of s).kept ≡ [] → AreCarried (with_one txn_of s no_txn) live
    carried_leave nothing = record {
      each = set_each (λ t p. IsSession t → own p.id live ≡ p.kept) txn_of s no_txn
          (λ k. is.of_none)
          (λ t n k. is.each t k);
      of_none = is.of_none;
      others = λ t no. by_number (txn_of s).id t
          (λ e. ap (λ a. own a live) (sym e) ∙ (is.each s one ∙ nothing))
          (λ d. is.others t (λ u k i. by_number u s
          (λ j. d (ap (λ a. (txn_of a).id) (sym j) ∙ i))
          (λ n. no u k (ap (λ (p : Txn). p.id) (open_not txn_of s no_txn u n) ∙ i))));
    }

-- what is kept and the number stay
pub carried_same : (txn_of : ℕ → Txn) (live : List Deed) → AreCarried txn_of live → (s : ℕ) → IsSession s → (o : Txn)
    → o.id ≡ (txn_of s).id → o.kept ≡ (txn_of s).kept → AreCarried (with_one txn_of s o) live
carried_same txn_of live is s one o id kept = record {
  each = set_each (λ t p. IsSession t → own p.id live ≡ p.kept) txn_of s o
      (λ k. ap (λ a. own a live) id ∙ (is.each s one ∙ sym kept))
      (λ t n k. is.each t k);
  of_none = is.of_none;
  others = λ t no. is.others t (λ u k i. no u k (same_id txn_of s o id u ∙ i));
}
