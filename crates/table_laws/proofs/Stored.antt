-- What sessions do to a stored table and its base: a write, an undo, a commit and a roll back of one session leave the table
-- stored as it is said to be, and sums over it are those over the base with what each session's changes do to them.
use Rattle.std.specs.Prelude.{◌≡◌, ◌≢◌, ℕ, zero, suc, List, [], ◌∷◌}
use Rattle.std.specs.Prelude.{ℤ, ◌+ℤ◌, Option, cond}
use mathlib.Core.Path.{refl, sym, ap, subst, ◌∙◌}
use mathlib.Core.Logic.{inl, inr}
use Rattle.std.proofs.Common.{arith, eq-eqb}
use Rattle.std.proofs.lemmas.Bool.{ne_eqb}
use Rattle.std.proofs.lemmas.Int.{ints}
use Rattle.std.specs.FinMap.{FinMap, get, IsAntisymmetric, nat_cmp-IsAntisymmetric}
use Rattle.std.specs.declared.cmp.Ordering.{Ordering}
use Rattle.std.specs.Cmp.{IsTotalOrder, nat_cmp_total}
use Rattle.table_laws.specs.Table.{write, Change}
use Rattle.table_laws.specs.Sums.{total, sum_to}
use Rattle.table_laws.specs.Kept.{Touches, changed, with_kept, redo, take_back, AreTrue, IsSession, IsAlone, IsStored}
use Rattle.table_laws.proofs.Tables.{by_key, get-write_other, get-write_at, same_table}
use Rattle.table_laws.proofs.Kept.{by_touch, redo_untouched, redo_touched, true_agree, back_untouched, back_touched, total-redo}
use Rattle.table_laws.proofs.Sums.{sum_to_same}

-- a session is this one or another
pub by_session : {P : Type 0} (s t : ℕ) → (s ≡ t → P) → (s ≢ t → P) → P
by_session s t f g = by_key nat_cmp_total nat_cmp-IsAntisymmetric s t f g

module _ {K X : Type 0} where
  pub kept_own : (kept : ℕ → List (Change K X)) (s : ℕ) (cs : List (Change K X)) (t : ℕ) → t ≡ s → with_kept kept s cs t ≡ cs
  kept_own kept s cs t e = ap (λ b. cond b cs (kept t)) (eq-eqb t s e)

  pub kept_other : (kept : ℕ → List (Change K X)) (s : ℕ) (cs : List (Change K X)) (t : ℕ) → t ≢ s → with_kept kept s cs t ≡ kept t
  kept_other kept s cs t n = ap (λ b. cond b cs (kept t)) (ne_eqb t s n)

  -- a key of no session but perhaps this one, and not of this one either, is of nobody
  nobody : (n : ℕ) (kept : ℕ → List (Change K X)) (s : ℕ) (q : K) → (Touches q (kept s) → ⊥)
      → IsAlone n kept s q → (t : ℕ) → IsSession n t → Touches q (kept t) → ⊥
  nobody n kept s q none others t k a = by_session t s (λ e. none (subst (λ x. Touches q (kept x)) e a)) (λ d. others t k d a)

module _ {K : Type 0} {R : K → K → Ordering} {X : Type 0} where
  -- before any change the stored table is the base
  pub stored_at_first : (n : ℕ) (base : FinMap R X) → IsStored n (λ s. []) base base
  stored_at_first n base = record {
    told = λ s k. tt;
    apart = λ s t q k l d a b. absurd a;
    own = λ s q k a. absurd a;
    others = λ q none. refl;
  }

  -- what is to be shown where the kept changes of session s become cs: of cs itself, and of the other sessions
  pub record IsSet (n : ℕ) (kept : ℕ → List (Change K X)) (s : ℕ) (cs : List (Change K X)) (base stored : FinMap R X) : Type 0 where
    pub told_own : AreTrue base cs
    pub told_other : (t : ℕ) → IsSession n t → t ≢ s → AreTrue base (kept t)
    pub apart_own : (t : ℕ) (q : K) → IsSession n t → t ≢ s → Touches q cs → Touches q (kept t) → ⊥
    pub apart_other : (t u : ℕ) (q : K) → IsSession n t → IsSession n u → t ≢ u → Touches q (kept t) → Touches q (kept u) → ⊥
    pub own : (q : K) → Touches q cs → get stored q ≡ get (redo cs base) q
    pub own_other : (t : ℕ) (q : K) → IsSession n t → t ≢ s → Touches q (kept t) → get stored q ≡ get (redo (kept t) base) q
    pub rest : (q : K) → (Touches q cs → ⊥) → IsAlone n kept s q → get stored q ≡ get base q

  pub stored_set : (n : ℕ) (kept : ℕ → List (Change K X)) (s : ℕ) (cs : List (Change K X)) (base stored : FinMap R X)
      → IsSession n s → IsSet n kept s cs base stored → IsStored n (with_kept kept s cs) base stored
  stored_set n kept s cs base stored one is = record {
    told = λ t k. by_session t s
        (λ e. subst (λ x. AreTrue base x) (sym (kept_own kept s cs t e)) is.told_own)
        (λ d. subst (λ x. AreTrue base x) (sym (kept_other kept s cs t d)) (is.told_other t k d));
    apart = λ t u q k l d a b. by_session t s
        (λ e.
        let v : u ≢ s = λ i. d (e ∙ sym i) in
        is.apart_own u q l v (subst (Touches q) (kept_own kept s cs t e) a) (subst (Touches q) (kept_other kept s cs u v) b))
        (λ v. by_session u s
        (λ e. is.apart_own t q k v (subst (Touches q) (kept_own kept s cs u e) b) (subst (Touches q) (kept_other kept s cs t v) a))
        (λ w. is.apart_other t u q k l d
        (subst (Touches q) (kept_other kept s cs t v) a) (subst (Touches q) (kept_other kept s cs u w) b)));
    own = λ t q k a. by_session t s
        (λ e.
        let is_own = kept_own kept s cs t e in
        is.own q (subst (Touches q) is_own a) ∙ ap (λ x. get (redo x base) q) (sym is_own))
        (λ d.
        let is_other = kept_other kept s cs t d in
        is.own_other t q k d (subst (Touches q) is_other a) ∙ ap (λ x. get (redo x base) q) (sym is_other));
    others = λ q none. is.rest q
        (λ a. none s one (subst (Touches q) (sym (kept_own kept s cs s refl)) a))
        (λ t k d a. none t k (subst (Touches q) (sym (kept_other kept s cs t d)) a));
  }

module _ {K : Type 0} {R : K → K → Ordering} (o : IsTotalOrder R) (same : IsAntisymmetric R) {X : Type 0} where
  module _ (n : ℕ) (kept : ℕ → List (Change K X)) (base stored : FinMap R X)
      (is : IsStored n kept base stored) (s : ℕ) (one : IsSession n s) where
    -- a session that no other stands in the way of reads what its own changes leave of the base
    pub own_row : (q : K) → IsAlone n kept s q → get stored q ≡ get (redo (kept s) base) q
    own_row q alone = by_touch o same q (kept s)
        (λ a. is.own s q one a)
        (λ u. is.others q (nobody n kept s q u alone) ∙ sym (redo_untouched o same q (kept s) base u))

    -- a change under a key that no other session changed
    pub stored_write : (key : K) (row : Option X) → IsAlone n kept s key
        → IsStored n (with_kept kept s (record { key = key; before = get stored key; after = row } ∷ kept s)) base (write stored key row)
    stored_write key row alone =
        let away : (t : ℕ) (q : K) → IsSession n t → t ≢ s → Touches q (kept t) → q ≢ key =
        λ t q k d a e. alone t k d (subst (λ x. Touches x (kept t)) e a) in
        stored_set n kept s (record { key = key; before = get stored key; after = row } ∷ kept s) base (write stored key row) one (record {
          told_own = (own_row key alone, is.told s one);
          told_other = λ t k d. is.told t k;
          apart_own = λ t q k d a b. elim a [
            | inl e ↦ away t q k d b e
            | inr u ↦ is.apart s t q one k (λ e. d (sym e)) u b
          ];
          apart_other = is.apart;
          own = λ q a. by_key o same q key
              (λ e. get-write_at o same stored key row q e ∙ sym (get-write_at o same (redo (kept s) base) key row q e))
              (λ d.
              let mine : Touches q (kept s) = elim a [ inl e ↦ absurd (d e) | inr u ↦ u ] in
              get-write_other o same stored key row q d
              ∙ (is.own s q one mine ∙ sym (get-write_other o same (redo (kept s) base) key row q d)));
          own_other = λ t q k d a. get-write_other o same stored key row q (away t q k d a) ∙ is.own t q k a;
          rest = λ q none others. get-write_other o same stored key row q (λ e. none (inl e))
              ∙ is.others q (nobody n kept s q (λ a. none (inr a)) others);
        })

    -- the latest change of a session taken back
    pub stored_undo : (c : Change K X) (cs : List (Change K X)) → kept s ≡ c ∷ cs
        → IsStored n (with_kept kept s cs) base (write stored c.key c.before)
    stored_undo c cs e =
        let told : AreTrue base (c ∷ cs) = subst (λ x. AreTrue base x) e (is.told s one) in
        let mine : (q : K) → Touches q (c ∷ cs) → Touches q (kept s) = λ q a. subst (Touches q) (sym e) a in
        let away : (t : ℕ) (q : K) → IsSession n t → t ≢ s → Touches q (kept t) → q ≢ c.key =
        λ t q k d a i. is.apart t s q k one d a (mine q (inl i)) in
        stored_set n kept s cs base (write stored c.key c.before) one (record {
          told_own = told.1;
          told_other = λ t k d. is.told t k;
          apart_own = λ t q k d a b. is.apart s t q one k (λ i. d (sym i)) (mine q (inr a)) b;
          apart_other = is.apart;
          own = λ q a. by_key o same q c.key
              (λ i. get-write_at o same stored c.key c.before q i ∙ (told.0 ∙ ap (get (redo cs base)) (sym i)))
              (λ d. get-write_other o same stored c.key c.before q d
              ∙ (is.own s q one (mine q (inr a)) ∙ (ap (λ x. get (redo x base) q) e
              ∙ get-write_other o same (redo cs base) c.key c.after q d)));
          own_other = λ t q k d a. get-write_other o same stored c.key c.before q (away t q k d a) ∙ is.own t q k a;
          rest = λ q none others. by_key o same q c.key
              (λ i. get-write_at o same stored c.key c.before q i
              ∙ (told.0 ∙ (ap (get (redo cs base)) (sym i) ∙ redo_untouched o same q cs base none)))
              (λ d. get-write_other o same stored c.key c.before q d
              ∙ is.others q (nobody n kept s q
              (λ a. elim (subst (Touches q) e a) [ inl i ↦ d i | inr u ↦ none u ]) others));
        })

    -- a commit: the session's changes are made to the base
    pub stored_commit : IsStored n (with_kept kept s []) (redo (kept s) base) stored
    stored_commit =
        let same_there : (t : ℕ) (q : K) → IsSession n t → t ≢ s → Touches q (kept t) → get base q ≡ get (redo (kept s) base) q =
        λ t q k d a. sym (redo_untouched o same q (kept s) base (λ b. is.apart t s q k one d a b)) in
        stored_set n kept s [] (redo (kept s) base) stored one (record {
          told_own = tt;
          told_other = λ t k d. true_agree o same (kept t) base (redo (kept s) base) (λ q a. same_there t q k d a) (is.told t k);
          apart_own = λ t q k d a b. absurd a;
          apart_other = is.apart;
          own = λ q a. absurd a;
          own_other = λ t q k d a. is.own t q k a ∙ redo_touched o same q (kept t) base (redo (kept s) base) a;
          rest = λ q none others. own_row q others;
        })

    -- a roll back: the session's changes are taken back from the stored table
    pub stored_roll_back : IsStored n (with_kept kept s []) base (take_back (kept s) stored)
    stored_roll_back = stored_set n kept s [] base (take_back (kept s) stored) one (record {
      told_own = tt;
      told_other = λ t k d. is.told t k;
      apart_own = λ t q k d a b. absurd a;
      apart_other = is.apart;
      own = λ q a. absurd a;
      own_other = λ t q k d a. back_untouched o same q (kept s) stored (λ b. is.apart t s q k one d a b) ∙ is.own t q k a;
      rest = λ q none others. by_touch o same q (kept s)
          (λ a. back_touched o same q (kept s) stored base (is.told s one) a)
          (λ u. back_untouched o same q (kept s) stored u ∙ is.others q (nobody n kept s q u others));
    })

  -- a session that keeps nothing may be left out
  stored_fewer : (n : ℕ) (kept : ℕ → List (Change K X)) (base stored : FinMap R X) → kept (suc n) ≡ []
      → IsStored (suc n) kept base stored → IsStored n kept base stored
  stored_fewer n kept base stored none is = record {
    told = λ s k. is.told s (k.0, omega arith);
    apart = λ s t q k l. is.apart s t q (k.0, omega arith) (l.0, omega arith);
    own = λ s q k. is.own s q (k.0, omega arith);
    others = λ q nobody. is.others q (λ s k a. by_session s (suc n)
        (λ e. subst (Touches q) (ap kept e ∙ none) a)
        (λ d. nobody s (k.0, omega arith) a));
  }

  -- a sum over the stored table is that over the base and what the changes of each session do to it
  pub total_stored : (f : K → X → ℤ) (n : ℕ) (kept : ℕ → List (Change K X)) (base stored : FinMap R X)
      → IsStored n kept base stored → total f stored ≡ total f base +ℤ sum_to n (λ s. changed f (kept s))
  total_stored f zero kept base stored is =
      let e : stored ≡ base = same_table o same stored base (λ q. is.others q (λ s k a. absurd (omega arith))) in
      let totals : total f stored ≡ total f base = ap (total f) e in
      omega (arith, ints)
  total_stored f (suc n) kept base stored is =
      let one : IsSession (suc n) (suc n) = (omega arith, omega arith) in
      let left : ℕ → List (Change K X) = with_kept kept (suc n) [] in
      let next : FinMap R X = redo (kept (suc n)) base in
      let committed : IsStored n left next stored =
      stored_fewer n left next stored (kept_own kept (suc n) [] (suc n) refl) (stored_commit (suc n) kept base stored is (suc n) one) in
      let rest : total f stored ≡ total f next +ℤ sum_to n (λ s. changed f (left s)) = total_stored f n left next stored committed in
      let others : sum_to n (λ s. changed f (left s)) ≡ sum_to n (λ s. changed f (kept s)) =
      sum_to_same n _ _ (λ s l h. ap (changed f) (kept_other kept (suc n) [] s (λ e. omega arith))) in
      let redone : total f next ≡ total f base +ℤ changed f (kept (suc n)) =
      total-redo o same f (kept (suc n)) base (is.told (suc n) one) in
      omega (arith, ints)
