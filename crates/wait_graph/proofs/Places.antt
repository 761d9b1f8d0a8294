-- The members of a cycle, place by place.
use Rattle.std.proofs.Common.{◌≡◌, ℕ, suc, ◌+◌, ◌-◌, ◌<◌, ◌≤◌, inl, inr, List, length, get_or, set, sym, ap, ◌∙◌, subst, arith, get_or-set_same, get_or-set_other}
use Rattle.std.proofs.lemmas.Bool.{cases_eq, cases_lt}
use Rattle.std.proofs.lemmas.List.{get_or-replicate, get_or_past, length-replicate}
use Rattle.std.proofs.Math.ListN.{replicate}
use Rattle.iv_types.specs.declared.session.Sessions.{Sessions}
use Rattle.iv_types.specs.SessionSets.{Has, HaveCommon, IsFirstCommon}
use Rattle.wait_graph.specs.Walks.{HasWalk, IsLevel}
use Rattle.wait_graph.proofs.Cycles.{waited_session}
use Rattle.wait_graph.proofs.Firsts.{IsFirstStep, AreStepsByPlace}

-- the members before a place are the first steps of a walk of this many that comes back to the requester
pub record IsBegun (w : ℕ → Sessions) (requester total at : ℕ) (members : List ℕ) (last : ℕ) : Type 0 where
  pub begins : get_or members 0 0 ≡ requester
  pub each : (k n : ℕ) → suc k < at → suc k + n ≡ total → IsFirstStep w requester n (get_or members k 0) (get_or members (suc k) 0)
  pub ends : (k : ℕ) → suc k ≡ at → get_or members k 0 ≡ last
  pub left : (n : ℕ) → at + n ≡ total → HasWalk w (suc n) last requester
  pub behind : (k : ℕ) → at ≤ k → get_or members k 0 ≡ 0

-- the requester, and zeros behind it
pub zeros_behind : (n requester k : ℕ) → 1 ≤ k → get_or (set (replicate n 0) 0 requester) k 0 ≡ 0
zeros_behind n requester k l =
    let other : k ≡ 0 → ⊥ = λ e. omega arith in
    get_or-set_other (replicate n 0) 0 k requester 0 other ∙ elim (cases_lt k n) [
      | inl within ↦ get_or-replicate n k 0 0 within
      | inr past ↦ get_or_past (replicate n 0) k 0 (simp length-replicate past)
    ]

pub begun : (w : ℕ → Sessions) (requester total : ℕ) (members : List ℕ) → get_or members 0 0 ≡ requester → ((k : ℕ) → 1 ≤ k → get_or members k 0 ≡ 0) → HasWalk w total requester requester
    → IsBegun w requester total 1 members requester
begun w requester total members e zeros walk = record {
  begins = e;
  each = λ k n l s. absurd (omega arith);
  ends = λ k s. let z : k ≡ 0 = omega arith in ap (λ (i : ℕ). get_or members i 0) z ∙ e;
  left = λ n s. let t : total ≡ suc n = omega arith in subst (λ (k : ℕ). HasWalk w k requester requester) t walk;
  behind = zeros;
}

-- the next session is there, since a walk leads on
pub next_is_there : (w : ℕ → Sessions) (requester n session : ℕ) (set level : Sessions) → set ≡ w session → IsLevel w requester level n → HasWalk w (suc n) session requester → HaveCommon set level
next_is_there w requester n session set level e is walk = (
  walk.0,
  subst (λ (s : Sessions). Has s walk.0) (sym e) walk.1,
  (is walk.0 (waited_session (w session) walk.0 walk.1).from).1 walk.2,
)

pub first_of_level : (w : ℕ → Sessions) (requester n session next : ℕ) (level : Sessions) → IsLevel w requester level n → IsFirstCommon (w session) level next → IsFirstStep w requester n session next
first_of_level w requester n session next level is h = record {
  waited = h.in_one;
  leads = (is next (waited_session level next h.in_other).from).0 h.in_other;
  first = λ other waited leads. h.first other waited ((is other (waited_session (w session) other waited).from).1 leads);
}

pub begun_more : (w : ℕ → Sessions) (requester total at : ℕ) (members : List ℕ) (last next : ℕ) → 1 ≤ at → at < total → at < length members → IsBegun w requester total at members last
    → IsFirstStep w requester (total - at) last next → IsBegun w requester total (at + 1) (set members at next) next
begun_more w requester total at members last next some on fits h step =
    let same : get_or (set members at next) at 0 ≡ next = get_or-set_same members at next 0 fits in
    let first : 0 ≡ at → ⊥ = λ e. omega arith in
    record {
      begins = get_or-set_other members at 0 next 0 first ∙ h.begins;
      each = λ k n l s.
          let other : k ≡ at → ⊥ = λ e. omega arith in
          let kept : get_or (set members at next) k 0 ≡ get_or members k 0 = get_or-set_other members at k next 0 other in
          subst (λ (x : ℕ). IsFirstStep w requester n x (get_or (set members at next) (suc k) 0)) (sym kept) (elim (cases_eq (suc k) at) [
            | inl e ↦
                let left : total - at ≡ n = omega arith in
                subst (λ (x : ℕ). IsFirstStep w requester n (get_or members k 0) x) (sym (ap (λ (i : ℕ). get_or (set members at next) i 0) e ∙ same))
                (subst (λ (x : ℕ). IsFirstStep w requester n x next) (sym (h.ends k e)) (subst (λ (m : ℕ). IsFirstStep w requester m last next) left step))
            | inr ne ↦
                let before : suc k < at = omega arith in
                subst (λ (x : ℕ). IsFirstStep w requester n (get_or members k 0) x) (sym (get_or-set_other members at (suc k) next 0 ne)) (h.each k n before s)
          ]);
      ends = λ k s. let e : k ≡ at = omega arith in ap (λ (i : ℕ). get_or (set members at next) i 0) e ∙ same;
      left = λ n s. let left : total - at ≡ suc n = omega arith in subst (λ (m : ℕ). HasWalk w m next requester) left step.leads;
      behind = λ k s.
          let other : k ≡ at → ⊥ = λ e. omega arith in
          get_or-set_other members at k next 0 other ∙ h.behind k (omega arith);
    }

pub steps_when_done : (w : ℕ → Sessions) (requester total at : ℕ) (members : List ℕ) (last : ℕ) → total ≡ at → IsBegun w requester total at members last → AreStepsByPlace w requester total members
steps_when_done w requester total at members last e h = record {
  each = λ k n l s. h.each k n (omega arith) s;
  last = λ k s.
      let end : suc k ≡ at = s ∙ e in
      let none : at + 0 ≡ total = omega arith in
      subst (λ (x : ℕ). HasWalk w 1 x requester) (sym (h.ends k end)) (h.left 0 none);
}
