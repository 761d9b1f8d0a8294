-- The first shortest cycle, and where there is none.
use Rattle.std.proofs.Common.{◌≡◌, ℕ, suc, ◌-◌, ◌<◌, ◌≤◌, true, false, inl, inr, List, [], ◌∷◌, length, get_or, set, take, refl, sym, ap, ◌∙◌, subst, arith, eqb, eq-eqb, get_or-set_same, get_or-set_other}
use Rattle.std.proofs.lemmas.Bool.{cases_eq, cases_lt, or_cases, eqb-true, ne_eqb, cond-true, cond-false}
use Rattle.std.proofs.lemmas.List.{get_or-take, length-take}
use Rattle.std.proofs.lemmas.Map.Steps.{length-le_from_distinct_below}
use Rattle.std.specs.List.{Contains, IsDistinct, AllByRecursion, list_any}
use Rattle.iv_types.specs.declared.session.Sessions.{Sessions}
use Rattle.iv_types.specs.Intervals.{IsAtMost}
use Rattle.iv_meaning.specs.Waits.{nobody, recorded, would_wait_for, AreDifferent, IsCycle, IsFirstCycle}
use Rattle.iv_types.specs.SessionSets.{Has}
use Rattle.wait_graph.specs.Walks.{HasWalk, HasNoShorter}
use Rattle.iv_types.proofs.Members.{contains_cases, contains_none, contains_head, contains_tail, bit_of}
use Rattle.wait_graph.proofs.Walking.{Leads, leads_from, leads_to, walk_of_list, different}
use Rattle.wait_graph.proofs.Firsts.{IsFirstStep, AreFirstSteps, AreStepsByPlace, first_steps_lead, first_of_all, first_steps_by_place}

-- a cycle is a closed walk of as many steps
pub record IsClosed (w : ℕ → Sessions) (requester : ℕ) (cycle : List ℕ) : Type 0 where
  pub others : List ℕ
  pub begins : cycle ≡ requester ∷ others
  pub leads : Leads w (requester ∷ others) requester
  pub long : length cycle ≡ suc (length others)
  pub walk : HasWalk w (suc (length others)) requester requester

pub closed_by : (w : ℕ → Sessions) (requester : ℕ) (cycle : List ℕ) → IsCycle w requester cycle → IsClosed w requester cycle
closed_by w requester cycle h =
    let leads : Leads w (requester ∷ h.others) requester = subst (λ (ss : List ℕ). Leads w ss requester) h.begins (leads_from w cycle requester h.leads) in
    record {
      others = h.others;
      begins = h.begins;
      leads = leads;
      long = ap length h.begins;
      walk = walk_of_list w h.others requester requester leads;
    }

no_longer : (w : ℕ → Sessions) (requester total n : ℕ) → HasNoShorter w requester total → HasWalk w (suc n) requester requester → total ≤ suc n
no_longer w requester total n short walk = elim (cases_lt (suc n) total) [
  | inl l ↦ absurd (short n l walk)
  | inr g ↦ g
]

first_cycle_cons : (w : ℕ → Sessions) (ss : List ℕ) (requester : ℕ) → HasNoShorter w requester (suc (length ss)) → AreFirstSteps w requester requester ss → IsFirstCycle w requester (requester ∷ ss)
first_cycle_cons w ss requester short h =
    let leads = first_steps_lead w ss requester requester h in
    record {
      is = record {
        others = ss;
        begins = refl;
        different = different w ss requester requester 0 (suc (length ss)) short refl leads (omega arith);
        leads = leads_to w (requester ∷ ss) requester leads;
      };
      shortest = λ other c.
          let closed = closed_by w requester other c in
          let least : suc (length ss) ≤ suc (length closed.others) = no_longer w requester (suc (length ss)) (length closed.others) short closed.walk in
          subst (λ (n : ℕ). suc (length ss) ≤ n) (sym closed.long) least;
      first = λ other c e.
          let closed = closed_by w requester other c in
          let same : suc (length closed.others) ≡ suc (length ss) = sym closed.long ∙ e in
          let n : length closed.others ≡ length ss = omega (arith, same) in
          subst (λ (os : List ℕ). IsAtMost (requester ∷ ss) os) (sym closed.begins) (first_of_all w ss closed.others requester requester n h closed.leads);
    }

first_cycle_begun : (w : ℕ → Sessions) (ss : List ℕ) (s requester total : ℕ) → suc (length ss) ≡ total → s ≡ requester → HasNoShorter w requester total → AreStepsByPlace w requester total (s ∷ ss) → IsFirstCycle w requester (s ∷ ss)
first_cycle_begun w ss s requester total e begins =
    subst (λ (r : ℕ). HasNoShorter w r total → AreStepsByPlace w r total (s ∷ ss) → IsFirstCycle w r (s ∷ ss)) begins
    (subst (λ (n : ℕ). HasNoShorter w s n → AreStepsByPlace w s n (s ∷ ss) → IsFirstCycle w s (s ∷ ss)) e
    (λ short steps. first_cycle_cons w ss s short (first_steps_by_place w ss s s steps)))

first_cycle_by_place : (w : ℕ → Sessions) (ss : List ℕ) (requester total : ℕ) → length ss ≡ total → 1 ≤ total → get_or ss 0 0 ≡ requester → HasNoShorter w requester total → AreStepsByPlace w requester total ss → IsFirstCycle w requester ss
first_cycle_by_place w [] requester total e some begins short steps = absurd (omega arith)
first_cycle_by_place w (s ∷ ss) requester total e some begins short steps = first_cycle_begun w ss s requester total e begins short steps

-- the sessions before a place of a list that takes the first steps
pub first_cycle_of_front : (w : ℕ → Sessions) (ss : List ℕ) (requester total : ℕ) → total ≤ length ss → 1 ≤ total → get_or ss 0 0 ≡ requester → HasNoShorter w requester total → AreStepsByPlace w requester total ss → IsFirstCycle w requester (take total ss)
first_cycle_of_front w ss requester total fits some begins short steps =
    let first : 0 < total = omega arith in
    first_cycle_by_place w (take total ss) requester total (simp length-take (omega arith)) some (get_or-take total ss 0 0 first ∙ begins) short (record {
      each = λ k n l e.
          let before : k < total = omega arith in
          subst (λ (x : ℕ). IsFirstStep w requester n x (get_or (take total ss) (suc k) 0)) (sym (get_or-take total ss k 0 before))
          (subst (λ (x : ℕ). IsFirstStep w requester n (get_or ss k 0) x) (sym (get_or-take total ss (suc k) 0 l)) (steps.each k n l e));
      last = λ k e.
          let before : k < total = omega arith in
          subst (λ (x : ℕ). HasWalk w 1 x requester) (sym (get_or-take total ss k 0 before)) (steps.last k e);
    })

apart_from_all : (x : ℕ) (xs : List ℕ) → (Contains xs x → ⊥) → AllByRecursion (λ y. eqb x y ≡ false) xs
apart_from_all x [] absent = tt
apart_from_all x (y ∷ ys) absent = (
  ne_eqb x y (λ e. absent (subst (λ (z : ℕ). Contains (y ∷ ys) z) (sym e) (contains_head y ys))),
  apart_from_all x ys (λ h. absent (contains_tail y ys x h)),
)

distinct_by : (xs : List ℕ) → AreDifferent xs → IsDistinct eqb xs
unfolding IsDistinct
distinct_by [] h = tt
distinct_by (x ∷ xs) h = (apart_from_all x xs h.0, distinct_by xs h.1)

contains_by_test : (x : ℕ) (xs : List ℕ) → list_any (eqb x) xs ≡ true → Contains xs x
contains_by_test x [] e = absurd (let no : false ≡ true = e in cc)
contains_by_test x (y ∷ ys) e = elim (or_cases (eqb x y) (list_any (eqb x) ys) e) [
  | inl here ↦ subst (λ (z : ℕ). Contains (y ∷ ys) z) (sym (eqb-true x y here)) (contains_head y ys)
  | inr later ↦ contains_tail y ys x (contains_by_test x ys later)
]

pub record IsSession (session : ℕ) : Type 0 where
  pub from : 1 ≤ session
  pub to : session ≤ 64

pub waited_session : (set : Sessions) (session : ℕ) → Has set session → IsSession session
waited_session set session h = let m = bit_of set session h in record { from = m.from; to = m.to }

sessions_on_the_way : (w : ℕ → Sessions) (ss : List ℕ) (s end member : ℕ) → Leads w (s ∷ ss) end → Contains ss member → IsSession member
sessions_on_the_way w [] s end member h among = absurd (contains_none member among)
sessions_on_the_way w (t ∷ ts) s end member h among = elim (contains_cases t ts member among) [
  | inl e ↦ subst IsSession e (waited_session (w s) t h.0)
  | inr later ↦ sessions_on_the_way w ts t end member h.1 later
]

at_most_64 : (ss : List ℕ) → AreDifferent ss → ((member : ℕ) → Contains ss member → IsSession member) → length ss ≤ 64
at_most_64 ss apart each =
    let no_zero : Contains ss 0 → ⊥ = λ h. let z = each 0 h in omega (arith, z.from) in
    let long : length (0 ∷ ss) ≤ 65 = length-le_from_distinct_below (0 ∷ ss) 65 (distinct_by (0 ∷ ss) (no_zero, apart)) (λ q e.
    elim (contains_cases 0 ss q (contains_by_test q (0 ∷ ss) e)) [
      | inl z ↦ omega arith
      | inr later ↦ let s = each q later in omega (arith, s.to)
    ]) in
    omega (arith, long)

cycle_at_most_64 : (w : ℕ → Sessions) (requester : ℕ) (cycle : List ℕ) → IsSession requester → IsCycle w requester cycle → length cycle ≤ 64
cycle_at_most_64 w requester cycle is c =
    let closed = closed_by w requester cycle c in
    at_most_64 cycle c.different (λ member among.
    elim (contains_cases requester closed.others member (subst (λ (ss : List ℕ). Contains ss member) closed.begins among)) [
      | inl e ↦ subst IsSession e is
      | inr later ↦ sessions_on_the_way w closed.others requester requester member closed.leads later
    ])

pub no_cycle : (w : ℕ → Sessions) (requester : ℕ) → IsSession requester → ((steps : ℕ) → 1 ≤ steps → steps ≤ 64 → HasWalk w steps requester requester → ⊥) → (cycle : List ℕ) → IsCycle w requester cycle → ⊥
no_cycle w requester is none cycle c =
    let closed = closed_by w requester cycle c in
    let few : length cycle ≤ 64 = cycle_at_most_64 w requester cycle is c in
    let fits : suc (length closed.others) ≤ 64 = subst (λ (n : ℕ). n ≤ 64) closed.long few in
    let some : 1 ≤ suc (length closed.others) = omega arith in
    none (suc (length closed.others)) some fits closed.walk

-- what sets say of sessions from 1 on is all that counts
abbrev pub Agree : (ℕ → Sessions) → (ℕ → Sessions) → Type 0
Agree w v = (session : ℕ) → 1 ≤ session → w session ≡ v session

leads_along : (w v : ℕ → Sessions) → Agree w v → (ss : List ℕ) (s end : ℕ) → 1 ≤ s → Leads w (s ∷ ss) end → Leads v (s ∷ ss) end
leads_along w v same [] s end from h = subst (λ (set : Sessions). Has set end) (same s from) h
leads_along w v same (t ∷ ts) s end from h = (
  subst (λ (set : Sessions). Has set t) (same s from) h.0,
  leads_along w v same ts t end (waited_session (w s) t h.0).from h.1,
)

pub cycle_along : (w v : ℕ → Sessions) → Agree w v → (requester : ℕ) (cycle : List ℕ) → 1 ≤ requester → IsCycle w requester cycle → IsCycle v requester cycle
cycle_along w v same requester cycle from c =
    let closed = closed_by w requester cycle c in
    record {
      others = closed.others;
      begins = closed.begins;
      different = c.different;
      leads = leads_to v cycle requester (subst (λ (ss : List ℕ). Leads v ss requester) (sym closed.begins) (leads_along w v same closed.others requester requester from closed.leads));
    }

pub first_cycle_along : (w v : ℕ → Sessions) → Agree w v → (requester : ℕ) (cycle : List ℕ) → 1 ≤ requester → IsFirstCycle w requester cycle → IsFirstCycle v requester cycle
first_cycle_along w v same requester cycle from h =
    let back : Agree v w = λ session f. sym (same session f) in
    record {
      is = cycle_along w v same requester cycle from h.is;
      shortest = λ other c. h.shortest other (cycle_along v w back requester other from c);
      first = λ other c e. h.first other (cycle_along v w back requester other from c) e;
    }

-- the holders in the place of what is recorded of the requester
pub replaced : (waits : List Sessions) (requester : ℕ) (holders : Sessions) → 1 ≤ requester → requester ≤ length waits → Agree (recorded (set waits (requester - 1) holders)) (would_wait_for waits requester holders)
replaced waits requester holders from fits session one = elim (cases_eq session requester) [
  | inl e ↦
      let lower : requester - 1 < length waits = omega arith in
      let place : session - 1 ≡ requester - 1 = omega arith in
      ap (λ (i : ℕ). get_or (set waits (requester - 1) holders) i nobody) place ∙ get_or-set_same waits (requester - 1) holders nobody lower ∙ sym (cond-true (eqb session requester) holders (recorded waits session) (eq-eqb session requester e))
  | inr ne ↦
      let apart : session - 1 ≡ requester - 1 → ⊥ = λ e. ne (omega arith) in
      get_or-set_other waits (requester - 1) (session - 1) holders nobody apart ∙ sym (cond-false (eqb session requester) holders (recorded waits session) (ne_eqb session requester ne))
]
