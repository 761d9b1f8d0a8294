-- Shares that are set, added and taken away.
use Rattle.std.specs.Prelude.{◌≡◌, ◌≢◌, ℕ, ◌==◌, ℤ, true, false, cond, not, List, [], ◌∷◌, ◌++◌, map, filter, Some, None, IsSome}
use mathlib.Core.Path.{refl, sym, ap, subst, ◌∙◌}
use Rattle.std.proofs.lemmas.Bool.{eqb-true, true≢false}
use Rattle.table_laws.proofs.Tables.{by_bool}
use Rattle.escrow_bounds.proofs.PartLemmas.{self_tie, untied}
use Rattle.ghost_rows.specs.declared.shares.Share.{Share}
use Rattle.ghost_rows.specs.Shares.{sum_at, updated}

abbrev pub share : ℕ → ℤ → Share
share s v = record { session = s; sum = v }

-- at a share of this session, and at one of another
at_same : (x : Share) (xs : List Share) (s : ℕ) → (x.session == s) ≡ true → sum_at (x ∷ xs) s ≡ Some x.sum
at_same x xs s e = ap (λ b. cond b (Some x.sum) (sum_at xs s)) e

at_other : (x : Share) (xs : List Share) (s : ℕ) → (x.session == s) ≡ false → sum_at (x ∷ xs) s ≡ sum_at xs s
at_other x xs s e = ap (λ b. cond b (Some x.sum) (sum_at xs s)) e

updated_same : (s : ℕ) (v : ℤ) (x : Share) → (x.session == s) ≡ true → updated s v x ≡ share s v
updated_same s v x e = ap (λ b. cond b (share s v) x) e

updated_other : (s : ℕ) (v : ℤ) (x : Share) → (x.session == s) ≡ false → updated s v x ≡ x
updated_other s v x e = ap (λ b. cond b (share s v) x) e

pub no_some : IsSome {T = ℤ} None → ⊥
no_some e = true≢false (sym e)

pub set_same : (xs : List Share) (s : ℕ) (v : ℤ) → IsSome (sum_at xs s) → sum_at (map (updated s v) xs) s ≡ Some v
set_same [] s v h = absurd (no_some h)
set_same (x ∷ xs) s v h = by_bool (x.session == s)
    (λ e. ap (λ y. sum_at (y ∷ map (updated s v) xs) s) (updated_same s v x e) ∙ at_same (share s v) (map (updated s v) xs) s (self_tie s))
    (λ e. ap (λ y. sum_at (y ∷ map (updated s v) xs) s) (updated_other s v x e) ∙ (at_other x (map (updated s v) xs) s e
    ∙ set_same xs s v (subst IsSome (at_other x xs s e) h)))

pub set_none : (xs : List Share) (s : ℕ) (v : ℤ) → sum_at xs s ≡ None → sum_at (map (updated s v) xs) s ≡ None
set_none [] s v h = refl
set_none (x ∷ xs) s v h = by_bool (x.session == s)
    (λ e. absurd (no_some (subst IsSome h (subst IsSome (sym (at_same x xs s e)) refl))))
    (λ e. ap (λ y. sum_at (y ∷ map (updated s v) xs) s) (updated_other s v x e) ∙ (at_other x (map (updated s v) xs) s e
    ∙ set_none xs s v (sym (at_other x xs s e) ∙ h)))

pub set_other : (xs : List Share) (s : ℕ) (v : ℤ) (q : ℕ) → q ≢ s → sum_at (map (updated s v) xs) q ≡ sum_at xs q
set_other [] s v q n = refl
set_other (x ∷ xs) s v q n = by_bool (x.session == s)
    (λ e.
    let is : x.session ≡ s = eqb-true x.session s e in
    ap (λ y. sum_at (y ∷ map (updated s v) xs) q) (updated_same s v x e)
    ∙ (at_other (share s v) (map (updated s v) xs) q (untied s q (λ i. n (sym i)))
    ∙ (set_other xs s v q n ∙ sym (at_other x xs q (untied x.session q (λ i. n (sym i ∙ is)))))))
    (λ e.
    ap (λ y. sum_at (y ∷ map (updated s v) xs) q) (updated_other s v x e)
    ∙ ap (cond (x.session == q) (Some x.sum)) (set_other xs s v q n))

abbrev pub others : ℕ → List Share → List Share
others s xs = filter (λ x. not (x.session == s)) xs

pub remove_same : (xs : List Share) (s : ℕ) → sum_at (others s xs) s ≡ None
remove_same [] s = refl
remove_same (x ∷ xs) s = by_bool (x.session == s)
    (λ e. ap (λ b. sum_at (cond (not b) (x ∷ others s xs) (others s xs)) s) e ∙ remove_same xs s)
    (λ e. ap (λ b. sum_at (cond (not b) (x ∷ others s xs) (others s xs)) s) e ∙ (at_other x (others s xs) s e ∙ remove_same xs s))

pub remove_other : (xs : List Share) (s q : ℕ) → q ≢ s → sum_at (others s xs) q ≡ sum_at xs q
remove_other [] s q n = refl
remove_other (x ∷ xs) s q n = by_bool (x.session == s)
    (λ e.
    let is : x.session ≡ s = eqb-true x.session s e in
    ap (λ b. sum_at (cond (not b) (x ∷ others s xs) (others s xs)) q) e
    ∙ (remove_other xs s q n ∙ sym (at_other x xs q (untied x.session q (λ i. n (sym i ∙ is))))))
    (λ e.
    ap (λ b. sum_at (cond (not b) (x ∷ others s xs) (others s xs)) q) e ∙ ap (cond (x.session == q) (Some x.sum)) (remove_other xs s q n))

pub push_same : (xs : List Share) (s : ℕ) (v : ℤ) → sum_at xs s ≡ None → sum_at (xs ++ share s v ∷ []) s ≡ Some v
push_same [] s v h = at_same (share s v) [] s (self_tie s)
push_same (x ∷ xs) s v h = by_bool (x.session == s)
    (λ e. absurd (no_some (subst IsSome h (subst IsSome (sym (at_same x xs s e)) refl))))
    (λ e. at_other x (xs ++ share s v ∷ []) s e ∙ push_same xs s v (sym (at_other x xs s e) ∙ h))

pub push_other : (xs : List Share) (s : ℕ) (v : ℤ) (q : ℕ) → q ≢ s → sum_at (xs ++ share s v ∷ []) q ≡ sum_at xs q
push_other [] s v q n = at_other (share s v) [] q (untied s q (λ i. n (sym i)))
push_other (x ∷ xs) s v q n = ap (cond (x.session == q) (Some x.sum)) (push_other xs s v q n)
