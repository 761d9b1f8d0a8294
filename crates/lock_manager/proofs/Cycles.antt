-- Cycles of sessions, by any relation of waiting.
use Rattle.std.proofs.Common.{◌≡◌, ◌≢◌, ℕ, List, [], ◌∷◌, ◌++◌, sym, ap, subst, inl, inr}
use Rattle.std.specs.Prelude.{◌⊎◌}
use Rattle.std.specs.List.{Contains}
use Rattle.std.proofs.lemmas.Bool.{cases_eq}
use Rattle.std.proofs.lemmas.List.{append-nil}
use Rattle.std.proofs.lemmas.List.Elements.{Contains-append_left, Contains-append_right, Contains-append_cases}
use Rattle.iv_meaning.specs.Waits.{AreDifferent}
use Rattle.lock_manager.specs.Law.{LeadsTo, IsCycle}
use Rattle.lock_manager.proofs.Gains.{contains_cases, contains_head, contains_tail, contains_none}

-- the session waits for somebody
abbrev pub IsWaiting : (ℕ → ℕ → Type 0) → ℕ → Type 0
IsWaiting R s = (other : ℕ) × R s other

pub first_waits : (R : ℕ → ℕ → Type 0) (s : ℕ) (ss : List ℕ) (end : ℕ) → LeadsTo R (s ∷ ss) end → IsWaiting R s
first_waits R s [] end h = (end, h)
first_waits R s (t ∷ ts) end h = (t, h.0)

-- where each member waits, it is enough that a wait for one that waits is one of the others
leads_by : (R S : ℕ → ℕ → Type 0) → ((a b : ℕ) → R a b → IsWaiting R b → S a b) → (ss : List ℕ) (end : ℕ) → LeadsTo R ss end → IsWaiting R end → LeadsTo S ss end
leads_by R S f [] end h w = absurd h
leads_by R S f (s ∷ []) end h w = f s end h w
leads_by R S f (s ∷ t ∷ ts) end h w = (f s t h.0 (first_waits R t ts end h.1), leads_by R S f (t ∷ ts) end h.1 w)

pub cycle_by : (R S : ℕ → ℕ → Type 0) → ((a b : ℕ) → R a b → IsWaiting R b → S a b) → (cycle : List ℕ) → IsCycle R cycle → IsCycle S cycle
cycle_by R S f [] h = absurd h
cycle_by R S f (s ∷ ss) h = (h.0, leads_by R S f (s ∷ ss) s h.1 (first_waits R s ss s h.1))

-- ---- cycles that begin with one of their members

-- none of these is that one
abbrev AreOthers : ℕ → List ℕ → Type 0
AreOthers s ts = (t : ℕ) → Contains ts t → t ≢ s

-- the part before a member, and the part behind it
record IsSplit (s : ℕ) (ts : List ℕ) : Type 0 where
  pub before : List ℕ
  pub behind : List ℕ
  pub is : ts ≡ before ++ s ∷ behind

found : (s : ℕ) (ts : List ℕ) → IsSplit s ts ⊎ AreOthers s ts
found s [] = inr (λ t h. absurd (contains_none t h))
found s (t ∷ ts) = elim (cases_eq t s) [
  | inl e ↦ inl (record { before = []; behind = ts; is = ap (λ (x : ℕ). x ∷ ts) e })
  | inr ne ↦ elim (found s ts) [
    | inl p ↦ inl (record { before = t ∷ p.before; behind = p.behind; is = ap (λ (l : List ℕ). t ∷ l) p.is })
    | inr none ↦ inr (λ u h. elim (contains_cases t ts u h) [ inl e ↦ subst (λ (x : ℕ). x ≢ s) e ne | inr rest ↦ none u rest ])
  ]
]

-- waits of other members
leads_others : (R S : ℕ → ℕ → Type 0) (s : ℕ) → ((a b : ℕ) → a ≢ s → R a b → S a b) → (ts : List ℕ) (end : ℕ) → AreOthers s ts → LeadsTo R ts end → LeadsTo S ts end
leads_others R S s f [] end o h = absurd h
leads_others R S s f (t ∷ []) end o h = f t end (o t (contains_head t [])) h
leads_others R S s f (t ∷ u ∷ us) end o h = (f t u (o t (contains_head t (u ∷ us))) h.0, leads_others R S s f (u ∷ us) end (λ v k. o v (contains_tail t (u ∷ us) v k)) h.1)

module _ (R : ℕ → ℕ → Type 0) where
  leads_behind : (ts : List ℕ) (s : ℕ) (us : List ℕ) (end : ℕ) → LeadsTo R (ts ++ s ∷ us) end → LeadsTo R (s ∷ us) end
  leads_behind [] s us end h = h
  leads_behind (t ∷ []) s us end h = h.1
  leads_behind (t ∷ u ∷ ts) s us end h = leads_behind (u ∷ ts) s us end h.1

  leads_before : (t : ℕ) (ts : List ℕ) (s : ℕ) (us : List ℕ) (end : ℕ) → LeadsTo R ((t ∷ ts) ++ s ∷ us) end → LeadsTo R (t ∷ ts) s
  leads_before t [] s us end h = h.0
  leads_before t (u ∷ ts) s us end h = (h.0, leads_before u ts s us end h.1)

  leads_joined : (ts : List ℕ) (u : ℕ) (us : List ℕ) (end : ℕ) → LeadsTo R ts u → LeadsTo R (u ∷ us) end → LeadsTo R (ts ++ u ∷ us) end
  leads_joined [] u us end h k = absurd h
  leads_joined (t ∷ []) u us end h k = (h, k)
  leads_joined (t ∷ v ∷ ts) u us end h k = (h.0, leads_joined (v ∷ ts) u us end h.1 k)

record AreApart (as_ bs : List ℕ) : Type 0 where
  pub left : AreDifferent as_
  pub right : AreDifferent bs
  pub apart : (x : ℕ) → Contains as_ x → Contains bs x → ⊥

apart_from : (as_ bs : List ℕ) → AreDifferent (as_ ++ bs) → AreApart as_ bs
apart_from [] bs h = record { left = tt; right = h; apart = λ x none _. contains_none x none }
apart_from (a ∷ as_) bs h =
    let rest = apart_from as_ bs h.1 in
    record {
      left = (λ k. h.0 (Contains-append_left as_ bs a k), rest.left);
      right = rest.right;
      apart = λ x k l. elim (contains_cases a as_ x k) [
        | inl e ↦ h.0 (Contains-append_right as_ bs a (subst (λ (y : ℕ). Contains bs y) (sym e) l))
        | inr later ↦ rest.apart x later l
      ];
    }

different_from : (as_ bs : List ℕ) → AreApart as_ bs → AreDifferent (as_ ++ bs)
different_from [] bs h = h.right
different_from (a ∷ as_) bs h = (
  λ k. elim (Contains-append_cases as_ bs a k) [ inl l ↦ h.left.0 l | inr r ↦ h.apart a (contains_head a as_) r ],
  different_from as_ bs (record { left = h.left.1; right = h.right; apart = λ x k l. h.apart x (contains_tail a as_ x k) l }),
)

different_turned : (as_ bs : List ℕ) → AreDifferent (as_ ++ bs) → AreDifferent (bs ++ as_)
different_turned as_ bs h = let parts = apart_from as_ bs h in different_from bs as_ (record { left = parts.right; right = parts.left; apart = λ x k l. parts.apart x l k })

turned : (R : ℕ → ℕ → Type 0) (before : List ℕ) (s : ℕ) (behind : List ℕ) → IsCycle R (before ++ s ∷ behind) → IsCycle R ((s ∷ behind) ++ before)
turned R [] s behind h = subst (IsCycle R) (sym (append-nil (s ∷ behind))) h
turned R (t ∷ before) s behind h = (
  different_turned (t ∷ before) (s ∷ behind) h.0,
  leads_joined R (s ∷ behind) t before s (leads_behind R (t ∷ before) s behind t h.1) (leads_before R t before s behind t h.1),
)

-- a cycle goes through a session, and then one begins with it, or it has only waits of others
pub through_or_others : (R S : ℕ → ℕ → Type 0) (s : ℕ) → ((a b : ℕ) → a ≢ s → R a b → S a b) → (cycle : List ℕ) → IsCycle R cycle
    → ((others : List ℕ) × IsCycle R (s ∷ others)) ⊎ IsCycle S cycle
through_or_others R S s f [] h = absurd h
through_or_others R S s f (t ∷ ts) h = elim (found s (t ∷ ts)) [
  | inl p ↦ inl (p.behind ++ p.before, turned R p.before s p.behind (subst (IsCycle R) p.is h))
  | inr o ↦ inr (h.0, leads_others R S s f (t ∷ ts) t o h.1)
]
