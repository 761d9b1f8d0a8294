-- The laws of kept changes: what stands under a key after them, and that to take them back gives the base.
use Rattle.std.specs.Prelude.{◌≡◌, ◌⊎◌, ℕ, zero, suc, ◌<◌, List, [], ◌∷◌, All, Contains, slice_index_or, length}
use Rattle.std.specs.Prelude.{ℤ, ◌+ℤ◌}
use mathlib.Core.Path.{refl, sym, ap, subst, ◌∙◌}
use mathlib.Core.Logic.{inl, inr}
use Rattle.std.proofs.Common.{arith}
use Rattle.std.proofs.lemmas.Int.{ints}
use Rattle.std.proofs.lemmas.List.Elements.{All-head, All-tail}
use Rattle.std.specs.FinMap.{FinMap, get, IsAntisymmetric}
use Rattle.std.specs.declared.cmp.Ordering.{Ordering}
use Rattle.std.specs.Cmp.{IsTotalOrder}
use Rattle.table_laws.specs.Table.{write, Change}
use Rattle.table_laws.specs.Sums.{part, total}
use Rattle.table_laws.specs.Kept.{Touches, changed, redo, take_back, AreTrue}
use Rattle.table_laws.specs.Kept.{redo_all, take_back_all, IsSession, AreSessions, IsStored}
use Rattle.table_laws.proofs.Tables.{by_key, get-write_other, get-write_at, same_table, total-write}

module _ {K : Type 0} {R : K → K → Ordering} (o : IsTotalOrder R) (same : IsAntisymmetric R) {X : Type 0} where
  -- the changes name the key, or they do not
  pub by_touch : {P : Type 0} (q : K) (cs : List (Change K X)) → (Touches q cs → P) → ((Touches q cs → ⊥) → P) → P
  by_touch q [] f g = g (λ h. h)
  by_touch q (c ∷ cs) f g = by_key o same q c.key
      (λ e. f (inl e))
      (λ n. by_touch q cs (λ t. f (inr t)) (λ m. g (λ t. elim t [ inl e ↦ n e | inr u ↦ m u ])))

  -- ---- what stands under a key after the changes

  pub redo_untouched : (q : K) (cs : List (Change K X)) (m : FinMap R X) → (Touches q cs → ⊥) → get (redo cs m) q ≡ get m q
  redo_untouched q [] m n = refl
  redo_untouched q (c ∷ cs) m n =
      get-write_other o same (redo cs m) c.key c.after q (λ e. n (inl e)) ∙ redo_untouched q cs m (λ t. n (inr t))

  -- what stands under a key that was changed does not depend on where the changes began
  pub redo_touched : (q : K) (cs : List (Change K X)) (m n : FinMap R X) → Touches q cs → get (redo cs m) q ≡ get (redo cs n) q
  redo_touched q [] m n t = absurd t
  redo_touched q (c ∷ cs) m n t = by_key o same q c.key
      (λ e. get-write_at o same (redo cs m) c.key c.after q e ∙ sym (get-write_at o same (redo cs n) c.key c.after q e))
      (λ d. get-write_other o same (redo cs m) c.key c.after q d
      ∙ (redo_touched q cs m n (elim t [ inl e ↦ absurd (d e) | inr u ↦ u ]) ∙ sym (get-write_other o same (redo cs n) c.key c.after q d)))

  pub redo_agree : (q : K) (cs : List (Change K X)) (m n : FinMap R X) → get m q ≡ get n q → get (redo cs m) q ≡ get (redo cs n) q
  redo_agree q cs m n e = by_touch q cs
      (λ t. redo_touched q cs m n t)
      (λ u. redo_untouched q cs m u ∙ (e ∙ sym (redo_untouched q cs n u)))

  -- the changes were told the same of tables that agree under their keys
  pub true_agree : (cs : List (Change K X)) (m n : FinMap R X) → ((q : K) → Touches q cs → get m q ≡ get n q) → AreTrue m cs → AreTrue n cs
  true_agree [] m n h p = tt
  true_agree (c ∷ cs) m n h p = (p.0 ∙ redo_agree c.key cs m n (h c.key (inl refl)), true_agree cs m n (λ q t. h q (inr t)) p.1)

  -- what the changes do to a sum over the table
  pub total-redo : (f : K → X → ℤ) (cs : List (Change K X)) (m : FinMap R X) → AreTrue m cs
      → total f (redo cs m) ≡ total f m +ℤ changed f cs
  total-redo f [] m p = omega (arith, ints)
  total-redo f (c ∷ cs) m p =
      let wrote : total f (write (redo cs m) c.key c.after) +ℤ part f c.key c.before ≡ total f (redo cs m) +ℤ part f c.key c.after =
      ap (λ v. total f (write (redo cs m) c.key c.after) +ℤ part f c.key v) p.0 ∙ total-write o same f (redo cs m) c.key c.after in
      let rest : total f (redo cs m) ≡ total f m +ℤ changed f cs = total-redo f cs m p.1 in
      omega (arith, ints)

  -- ---- taking back

  pub back_untouched : (q : K) (cs : List (Change K X)) (m : FinMap R X) → (Touches q cs → ⊥) → get (take_back cs m) q ≡ get m q
  back_untouched q [] m n = refl
  back_untouched q (c ∷ cs) m n =
      back_untouched q cs (write m c.key c.before) (λ t. n (inr t)) ∙ get-write_other o same m c.key c.before q (λ e. n (inl e))

  -- a key that was changed comes back to what stood there in the base, whatever table one begins with
  pub back_touched : (q : K) (cs : List (Change K X)) (m base : FinMap R X) → AreTrue base cs → Touches q cs
      → get (take_back cs m) q ≡ get base q
  back_touched q [] m base p t = absurd t
  back_touched q (c ∷ cs) m base p t = by_touch q cs
      (λ u. back_touched q cs (write m c.key c.before) base p.1 u)
      (λ n.
      let e : q ≡ c.key = elim t [ inl e ↦ e | inr u ↦ absurd (n u) ] in
      back_untouched q cs (write m c.key c.before) n
      ∙ (get-write_at o same m c.key c.before q e ∙ (p.0 ∙ (ap (get (redo cs base)) (sym e) ∙ redo_untouched q cs base n))))

  pub back_redo : (cs : List (Change K X)) (base : FinMap R X) → AreTrue base cs → take_back cs (redo cs base) ≡ base
  back_redo cs base p = same_table o same _ _ (λ q. by_touch q cs
      (λ t. back_touched q cs (redo cs base) base p t)
      (λ n. back_untouched q cs (redo cs base) n ∙ redo_untouched q cs base n))

  -- ---- several sessions

  -- one of the sessions of the list changes the key
  abbrev pub OneTouches : K → (ℕ → List (Change K X)) → List ℕ → Type 0
  OneTouches q kept [] = ⊥
  OneTouches q kept (s ∷ ss) = Touches q (kept s) ⊎ OneTouches q kept ss

  pub by_one : {P : Type 0} (q : K) (kept : ℕ → List (Change K X)) (ss : List ℕ)
      → (OneTouches q kept ss → P) → ((OneTouches q kept ss → ⊥) → P) → P
  by_one q kept [] f g = g (λ h. h)
  by_one q kept (s ∷ ss) f g = by_touch q (kept s)
      (λ t. f (inl t))
      (λ n. by_one q kept ss (λ t. f (inr t)) (λ m. g (λ t. elim t [ inl u ↦ n u | inr u ↦ m u ])))

  one_at : (q : K) (kept : ℕ → List (Change K X)) (ss : List ℕ) (i d : ℕ) → i < length ss
      → Touches q (kept (slice_index_or ss i d)) → OneTouches q kept ss
  one_at q kept [] i d l t = absurd (omega arith)
  one_at q kept (s ∷ ss) zero d l t = inl t
  one_at q kept (s ∷ ss) (suc i) d l t = inr (one_at q kept ss i d (omega arith) t)

  -- a session of the list that changes the key is one that does
  pub one_of : (q : K) (kept : ℕ → List (Change K X)) (ss : List ℕ) (s : ℕ) → Contains ss s → Touches q (kept s) → OneTouches q kept ss
  one_of q kept ss s c t = one_at q kept ss c.0 s c.1 (subst (λ x. Touches q (kept x)) (sym c.2) t)

  all_back : (q : K) (kept : ℕ → List (Change K X)) (n : ℕ) (ss : List ℕ) (m base : FinMap R X)
      → All (IsSession n) ss → ((s : ℕ) → IsSession n s → AreTrue base (kept s))
      → (get m q ≡ get base q) ⊎ OneTouches q kept ss → get (take_back_all kept ss m) q ≡ get base q
  all_back q kept n [] m base is told (inl e) = e
  all_back q kept n [] m base is told (inr t) = absurd t
  all_back q kept n (s ∷ ss) m base is told h =
      all_back q kept n ss (take_back (kept s) m) base (All-tail (IsSession n) s ss is) told
      (by_touch q (kept s)
      (λ t. inl (back_touched q (kept s) m base (told s (All-head (IsSession n) s ss is)) t))
      (λ u. elim h [
        | inl e ↦ inl (back_untouched q (kept s) m u ∙ e)
        | inr t ↦ elim t [ inl v ↦ absurd (u v) | inr v ↦ inr v ]
      ]))

  -- The kept changes of all sessions taken back, in any order. Of the stored table only the keys of nobody matter.
  pub all_taken_back : (n : ℕ) (kept : ℕ → List (Change K X)) (ss : List ℕ) (base stored : FinMap R X)
      → AreSessions n ss → ((s : ℕ) → IsSession n s → AreTrue base (kept s))
      → ((q : K) → ((s : ℕ) → IsSession n s → Touches q (kept s) → ⊥) → get stored q ≡ get base q)
      → take_back_all kept ss stored ≡ base
  all_taken_back n kept ss base stored are told others = same_table o same _ _ (λ q.
      all_back q kept n ss stored base are.0 told
      (by_one q kept ss (λ t. inr t) (λ u. inl (others q (λ s is t. u (one_of q kept ss s (are.1 s is) t))))))

  all_redone : (q : K) (kept : ℕ → List (Change K X)) (n : ℕ) (ss : List ℕ) (m base stored : FinMap R X)
      → All (IsSession n) ss → ((s : ℕ) → IsSession n s → Touches q (kept s) → get stored q ≡ get (redo (kept s) base) q)
      → (get m q ≡ get stored q) ⊎ OneTouches q kept ss → get (redo_all kept ss m) q ≡ get stored q
  all_redone q kept n [] m base stored is own (inl e) = e
  all_redone q kept n [] m base stored is own (inr t) = absurd t
  all_redone q kept n (s ∷ ss) m base stored is own h =
      all_redone q kept n ss (redo (kept s) m) base stored (All-tail (IsSession n) s ss is) own
      (by_touch q (kept s)
      (λ t. inl (redo_touched q (kept s) m base t ∙ sym (own s (All-head (IsSession n) s ss is) t)))
      (λ u. elim h [
        | inl e ↦ inl (redo_untouched q (kept s) m u ∙ e)
        | inr t ↦ elim t [ inl v ↦ absurd (u v) | inr v ↦ inr v ]
      ]))

  pub stored_back : (n : ℕ) (kept : ℕ → List (Change K X)) (ss : List ℕ) (base stored : FinMap R X)
      → IsStored n kept base stored → AreSessions n ss → take_back_all kept ss stored ≡ base
  stored_back n kept ss base stored is are = all_taken_back n kept ss base stored are is.told is.others

  pub stored_redone : (n : ℕ) (kept : ℕ → List (Change K X)) (ss : List ℕ) (base stored : FinMap R X)
      → IsStored n kept base stored → AreSessions n ss → redo_all kept ss base ≡ stored
  stored_redone n kept ss base stored is are = same_table o same _ _ (λ q.
      all_redone q kept n ss base base stored are.0 (λ s k t. is.own s q k t)
      (by_one q kept ss (λ t. inr t) (λ u. inl (sym (is.others q (λ s k t. u (one_of q kept ss s (are.1 s k) t)))))))
