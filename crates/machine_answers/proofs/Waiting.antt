-- Who is in the way of a step, and what comes of it: it is free, or it is blocked, or it would close a first shortest cycle.
use Rattle.std.specs.Prelude.{◌≡◌, ◌⊎◌, ◌↔◌, ℕ, zero, suc, ◌+◌, ◌-◌, ◌/◌, ◌^◌, ◌≤◌, ◌<◌, List, [], ◌∷◌, length, take, get_or}
use Rattle.std.specs.List.{Contains}
use mathlib.Core.Path.{refl, sym, ap, subst}
use mathlib.Core.Logic.{inl, inr}
use Rattle.std.proofs.Common.{arith, eqb, bit_and}
use Rattle.iv_types.specs.declared.lock.Want.{Want}
use Rattle.iv_types.specs.declared.session.Sessions.{Sessions}
use Rattle.iv_types.specs.declared.refusal.EngineRefusal.TheVariants as refusal
use Rattle.iv_types.specs.SessionSets.{Has}
use Rattle.iv_types.proofs.Members.{bit_of, has_by_test, set_with, has_with, has_members, nobody_there, contains_none}
use Rattle.iv_meaning.specs.Escrow.{IsSession}
use Rattle.iv_meaning.specs.Waits.{LeadsTo, IsCycle, IsFirstCycle}
use Rattle.wait_graph.specs.Walks.{HasWalk, HasNoShorter}
use Rattle.wait_graph.proofs.Firsts.{IsFirstStep, AreFirstSteps}
use Rattle.wait_graph.proofs.Cycles.{no_cycle, first_cycle_of_front}
use Rattle.txn_machine.specs.Acts.{Act}
use Rattle.txn_machine.specs.Answers as answer
use Rattle.txn_machine.specs.Locks.{Locks, with_one, IsInTheWay, AreInTheWay}
use Rattle.txn_machine.specs.Waiting.{WaitsOn, Leads}
use Rattle.txn_machine.specs.Store.{locks_of, Loses}
use Rattle.txn_machine.specs.State.{State}
use Rattle.txn_machine.specs.Steps.{asked, IsFree, MayWait}
use Rattle.txn_machine.proofs.PlainStates.{in_way}
use Rattle.txn_machine.proofs.Testing.{in_way_is, in_way_so}
use Rattle.machine_answers.proofs.Saying.{HasAnswer}
use Rattle.machine_answers.proofs.Choosing.{so_or_not, true_or_not, same_or_not, session_or_not, at_most_or_more, Least, least_or_none}

-- ---- the set of those that are in the way

pub in_way_or_not : (locks : Locks) (i : ℕ) (wants : List Want) (j : ℕ) → IsInTheWay locks i wants j ⊎ (IsInTheWay locks i wants j → ⊥)
in_way_or_not locks i wants j = elim (session_or_not j) [
  | inr lacks ↦ inr (λ w. lacks w.of_session)
  | inl is ↦ elim (so_or_not (in_way locks i wants j)) [
    | inl so ↦ inl (in_way_is locks i wants j is so)
    | inr not ↦ inr (λ w. not (in_way_so locks i wants j w))
  ]
]

module _ (P : ℕ → Type 0) (decide : (n : ℕ) → P n ⊎ (P n → ⊥)) where
  -- just those up to a number that have a property
  abbrev AreThose : ℕ → Sessions → Type 0
  AreThose most set = (other : ℕ) → Has set other ↔ ((1 ≤ other) × (other ≤ most) × P other)

  with_next : (n : ℕ) → suc n ≤ 64 → (set : Sessions) → AreThose n set → P (suc n) ⊎ (P (suc n) → ⊥) → (more : Sessions) × AreThose (suc n) more
  with_next n le set same (inl p) = (
    set_with set (suc n),
    λ other.
        let joined = has_with set (suc n) other (omega arith) le in (
          λ h. elim (joined.0 h) [
            | inl before ↦ let t = (same other).0 before in let up = t.1 in (t.0, omega (arith, up), t.2)
            | inr e ↦ (omega (arith, e), omega (arith, e), subst P (sym e) p)
          ],
          λ t. joined.1 (elim (at_most_or_more other n) [
            | inl small ↦ inl ((same other).1 (t.0, small, t.2))
            | inr more ↦ let up = t.1 in inr (omega (arith, up, more))
          ]),
        ),
  )
  with_next n le set same (inr lacks) = (
    set,
    λ other. (
      λ h. let t = (same other).0 h in let up = t.1 in (t.0, omega (arith, up), t.2),
      λ t. (same other).1 (
        t.0,
        elim (at_most_or_more other n) [
          | inl small ↦ small
          | inr more ↦ let up = t.1 in let e : other ≡ suc n = omega (arith, up, more) in absurd (lacks (subst P e t.2))
        ],
        t.2,
      ),
    ),
  )

  pub those : (most : ℕ) → most ≤ 64 → (set : Sessions) × AreThose most set
  those zero le = (record { bits = 0 }, λ other. (λ h. absurd (nobody_there other h), λ t. let one = t.0 in let up = t.1 in absurd (omega (arith, one, up))))
  those (suc n) le = let before = those n (omega (arith, le)) in with_next n le before.0 before.1 (decide (suc n))

pub in_way_of : (locks : Locks) (i : ℕ) (wants : List Want) → (sessions : Sessions) × AreInTheWay locks i wants sessions
in_way_of locks i wants =
    let set = those (IsInTheWay locks i wants) (in_way_or_not locks i wants) 64 (omega arith) in (
      set.0,
      λ other. (
        λ c. ((set.1 other).0 ((has_members set.0 other).1 c)).2,
        λ w. (has_members set.0 other).0 ((set.1 other).1 (w.of_session.0, w.of_session.1, w)),
      ),
    )

-- ---- first shortest cycles

has_or_not : (set : Sessions) (session : ℕ) → Has set session ⊎ (Has set session → ⊥)
has_or_not set session = elim (session_or_not session) [
  | inr lacks ↦ inr (λ h. let m = bit_of set session h in lacks (m.from, m.to))
  | inl is ↦
      let test = has_by_test set session is.0 is.1 in
      elim (true_or_not (eqb (bit_and (set.bits / 2 ^ (session - 1)) 1) 1)) [
        | inl t ↦ inl (test.0 t)
        | inr f ↦ inr (λ h. f (test.1 h))
      ]
]

module _ (w : ℕ → Sessions) where
  -- the least next one that has a property
  least_step : (P : ℕ → Type 0) → ((n : ℕ) → P n ⊎ (P n → ⊥)) → (from : ℕ) → Least (λ next. Has (w from) next × P next) 64 ⊎ ((next : ℕ) → Has (w from) next → P next → ⊥)
  least_step P decide from = elim (least_or_none (λ next. Has (w from) next × P next) both_or_not 64) [
    | inl l ↦ inl l
    | inr none ↦ inr (λ next has p. let m = bit_of (w from) next has in none next m.from m.to (has, p))
  ]
    where
      both_or_not : (next : ℕ) → (Has (w from) next × P next) ⊎ (Has (w from) next × P next → ⊥)
      both_or_not next = elim (has_or_not (w from) next) [
        | inr lacks ↦ inr (λ g. lacks g.0)
        | inl has ↦ elim (decide next) [ inl p ↦ inl (has, p) | inr lacks ↦ inr (λ g. lacks g.1) ]
      ]

  walk_or_not : (n from end : ℕ) → HasWalk w n from end ⊎ (HasWalk w n from end → ⊥)
  walk_or_not zero from end = same_or_not from end
  walk_or_not (suc n) from end = elim (least_step (λ next. HasWalk w n next end) (λ next. walk_or_not n next end) from) [
    | inl l ↦ inl (l.number, l.has.0, l.has.1)
    | inr none ↦ inr (λ walk. none walk.0 walk.1 walk.2)
  ]

  -- a list of first steps
  first_steps : (n from end : ℕ) → HasWalk w (suc n) from end → (ss : List ℕ) × (length ss ≡ n) × AreFirstSteps w end from ss
  first_steps zero from end walk = ([], refl, subst (λ x. Has (w from) x) walk.2 walk.1)
  first_steps (suc n) from end walk = elim (least_step (λ next. HasWalk w (suc n) next end) (λ next. walk_or_not (suc n) next end) from) [
    | inr none ↦ absurd (none walk.0 walk.1 walk.2)
    | inl l ↦
        let rest = first_steps n l.number end l.has.1 in (
          l.number ∷ rest.0,
          ap suc rest.1,
          (
            record {
              waited = l.has.0;
              leads = subst (λ k. HasWalk w (suc k) l.number end) (sym rest.1) l.has.1;
              first = λ other has goes. elim (at_most_or_more l.number other) [
                | inl small ↦ small
                | inr less ↦ absurd (l.least other (bit_of (w from) other has).from less (has, subst (λ k. HasWalk w (suc k) other end) rest.1 goes))
              ];
            },
            rest.2,
          ),
        )
  ]

  -- by their places
  each_place : (ss : List ℕ) (from end : ℕ) → AreFirstSteps w end from ss → (k n : ℕ) → suc k < suc (length ss) → suc k + n ≡ suc (length ss)
      → IsFirstStep w end n (get_or (from ∷ ss) k 0) (get_or (from ∷ ss) (suc k) 0)
  each_place [] from end h k n l e = absurd (omega (arith, l))
  each_place (t ∷ ts) from end h zero n l e = let same : suc (length ts) ≡ n = omega (arith, e) in subst (λ m. IsFirstStep w end m from t) same h.0
  each_place (t ∷ ts) from end h (suc k) n l e = each_place ts t end h.1 k n (omega (arith, l)) (omega (arith, e))

  last_place : (ss : List ℕ) (from end : ℕ) → AreFirstSteps w end from ss → (k : ℕ) → suc k ≡ suc (length ss) → HasWalk w 1 (get_or (from ∷ ss) k 0) end
  last_place [] from end h zero e = (end, h, refl)
  last_place [] from end h (suc k) e = absurd (omega (arith, e))
  last_place (t ∷ ts) from end h zero e = absurd (omega (arith, e))
  last_place (t ∷ ts) from end h (suc k) e = last_place ts t end h.1 k (omega (arith, e))

  pub first_cycle_or_none : (requester : ℕ) → IsSession requester
      → ((ss : List ℕ) × IsFirstCycle w requester (take (suc (length ss)) (requester ∷ ss))) ⊎ ((cycle : List ℕ) → IsCycle w requester cycle → ⊥)
  first_cycle_or_none requester is = elim (least_or_none (λ n. HasWalk w n requester requester) (λ n. walk_or_not n requester requester) 64) [
    | inr none ↦ inr (no_cycle w requester (record { from = is.0; to = is.1 }) none)
    | inl l ↦ inl (closed l.number l.first l.has l.least)
  ]
    where
      closed : (number : ℕ) → 1 ≤ number → HasWalk w number requester requester → ((other : ℕ) → 1 ≤ other → other < number → HasWalk w other requester requester → ⊥)
          → (ss : List ℕ) × IsFirstCycle w requester (take (suc (length ss)) (requester ∷ ss))
      closed zero one walk least = absurd (omega (arith, one))
      closed (suc n) one walk least =
          let steps = first_steps n requester requester walk in
          let short : HasNoShorter w requester (suc (length steps.0)) = λ many less. least (suc many) (omega arith) (subst (λ k. suc many < suc k) steps.1 less) in (
            steps.0,
            first_cycle_of_front w (requester ∷ steps.0) requester (suc (length steps.0)) (omega arith) (omega arith) refl short (record {
              each = each_place steps.0 requester requester steps.2;
              last = last_place steps.0 requester requester steps.2;
            }),
          )

-- ---- steps that ask for locks

module _ (s : State) (session : ℕ) (a : Act) (is : IsSession session) (locks : MayWait a) where
  abbrev wants : List Want
  wants = asked s.store session a

  abbrev waiting : Locks
  waiting = with_one s.waiting session wants

  abbrev waits : ℕ → Sessions
  waits other = (in_way_of (locks_of s.store) other (waiting other)).0

  ring_leads : (ss : List ℕ) (end : ℕ) → Leads (WaitsOn (locks_of s.store) waiting) ss end → LeadsTo waits ss end
  ring_leads [] end l = l
  ring_leads (t ∷ []) end l = ((in_way_of (locks_of s.store) t (waiting t)).1 end).1 l
  ring_leads (t ∷ u ∷ us) end l = (((in_way_of (locks_of s.store) t (waiting t)).1 u).1 l.0, ring_leads (u ∷ us) end l.1)

  waits_or_closes : (other : ℕ) → IsInTheWay (locks_of s.store) session wants other → HasAnswer s session a
  waits_or_closes other way = elim (first_cycle_or_none waits session is) [
    | inl found ↦ record {
      said = answer.Refused (refusal.Deadlock (record { length = suc (length found.0); members = session ∷ found.0 }));
      effects = Loses ∷ [];
      of_state = tt;
      says = (locks, record { waits = waits; of_all = λ t of. (in_way_of (locks_of s.store) t (waiting t)).1; closes = found.1 }, refl);
    }
    | inr none ↦
        let those_there = in_way_of (locks_of s.store) session wants in
        record {
          said = answer.Blocked those_there.0;
          effects = [];
          of_state = tt;
          says = (
            locks,
            record {
              in_the_way = those_there.1;
              not_empty = λ e. contains_none other (subst (λ l. Contains l other) e ((those_there.1 other).1 way));
              no_cycle = λ others ring. none (session ∷ others) (record { others = others; begins = refl; different = ring.different; leads = ring_leads (session ∷ others) session ring.leads });
            },
            refl,
          );
        }
  ]

  -- nobody is in the way, or it is answered
  pub free_or_answered : IsFree s.store session wants ⊎ HasAnswer s session a
  free_or_answered = elim (least_or_none (IsInTheWay (locks_of s.store) session wants) (in_way_or_not (locks_of s.store) session wants) 64) [
    | inl l ↦ inr (waits_or_closes l.number l.has)
    | inr none ↦ inl (λ other w. none other w.of_session.0 w.of_session.1 w)
  ]
