-- Walks and lists of sessions that wait for one another.
use Rattle.std.proofs.Common.{◌≡◌, ℕ, zero, suc, ◌+◌, ◌≤◌, inl, inr, List, [], ◌∷◌, length, refl, sym, subst, arith}
use Rattle.std.specs.List.{Contains}
use Rattle.iv_types.specs.declared.session.Sessions.{Sessions}
use Rattle.iv_meaning.specs.Waits.{LeadsTo, AreDifferent}
use Rattle.iv_types.specs.SessionSets.{Has}
use Rattle.wait_graph.specs.Walks.{HasWalk, HasNoShorter}
use Rattle.iv_types.proofs.Members.{contains_cases, contains_none}

-- one walk after another
pub join : (w : ℕ → Sessions) (m n total a b c : ℕ) → m + n ≡ total → HasWalk w m a b → HasWalk w n b c → HasWalk w total a c
join w zero n total a b c e here more =
    subst (λ (k : ℕ). HasWalk w k a c) (let z : n ≡ total = omega arith in z) (subst (λ (s : ℕ). HasWalk w n s c) (sym here) more)
join w (suc m) n zero a b c e walk more = absurd (omega arith)
join w (suc m) n (suc total) a b c e (next, waits, walk) more = (next, waits, join w m n total next b c (omega arith) walk more)

-- each session of a list waits for the next one, and the last for this one
abbrev pub Leads : (ℕ → Sessions) → List ℕ → ℕ → Type 0
Leads w [] end = ⊥
Leads w (s ∷ []) end = Has (w s) end
Leads w (s ∷ t ∷ ts) end = Has (w s) t × Leads w (t ∷ ts) end

pub leads_from : (w : ℕ → Sessions) (ss : List ℕ) (end : ℕ) → LeadsTo w ss end → Leads w ss end
unfolding Has
leads_from w [] end h = h
leads_from w (s ∷ []) end h = h
leads_from w (s ∷ t ∷ ts) end h = (h.0, leads_from w (t ∷ ts) end h.1)

pub leads_to : (w : ℕ → Sessions) (ss : List ℕ) (end : ℕ) → Leads w ss end → LeadsTo w ss end
unfolding Has
leads_to w [] end h = h
leads_to w (s ∷ []) end h = h
leads_to w (s ∷ t ∷ ts) end h = (h.0, leads_to w (t ∷ ts) end h.1)

pub walk_of_list : (w : ℕ → Sessions) (ss : List ℕ) (s end : ℕ) → Leads w (s ∷ ss) end → HasWalk w (suc (length ss)) s end
walk_of_list w [] s end h = (end, h, refl)
walk_of_list w (t ∷ ts) s end h = (t, h.0, walk_of_list w ts t end h.1)

-- from each session of such a list so many steps lead to the end
pub record IsOnTheWay (w : ℕ → Sessions) (most session end : ℕ) : Type 0 where
  pub steps : ℕ
  pub few : steps ≤ most
  pub walk : HasWalk w (suc steps) session end

pub walk_from_member : (w : ℕ → Sessions) (ss : List ℕ) (s end member : ℕ) → Leads w (s ∷ ss) end → Contains (s ∷ ss) member → IsOnTheWay w (length ss) member end
walk_from_member w [] s end member h among = elim (contains_cases s [] member among) [
  | inl e ↦ record { steps = 0; few = omega arith; walk = subst (λ (x : ℕ). HasWalk w 1 x end) e (walk_of_list w [] s end h) }
  | inr none ↦ absurd (contains_none member none)
]
walk_from_member w (t ∷ ts) s end member h among = elim (contains_cases s (t ∷ ts) member among) [
  | inl e ↦ record { steps = suc (length ts); few = omega arith; walk = subst (λ (x : ℕ). HasWalk w (suc (suc (length ts))) x end) e (walk_of_list w (t ∷ ts) s end h) }
  | inr later ↦
      let way = walk_from_member w ts t end member h.1 later in
      record { steps = way.steps; few = omega (arith, way.few); walk = way.walk }
]

-- no session stands twice in a closed walk where no shorter one is closed
pub different : (w : ℕ → Sessions) (ss : List ℕ) (s end done total : ℕ) → HasNoShorter w end total → HasWalk w done end s → Leads w (s ∷ ss) end → done + suc (length ss) ≡ total → AreDifferent (s ∷ ss)
different w [] s end done total short walk h e = (λ again. contains_none s again, tt)
different w (t ∷ ts) s end done total short walk h e = (
  λ again.
      let way = walk_from_member w ts t end s h.1 again in
      short (done + way.steps) (omega (arith, way.few)) (join w done (suc way.steps) (suc (done + way.steps)) end s end (omega arith) walk way.walk),
  different w ts t end (suc done) total short (join w done 1 (suc done) end s t (omega arith) walk (t, h.0, refl)) h.1 (omega arith),
)
