-- What a table of locks answers, said of other lists of the same locks.
use Rattle.std.proofs.Common.{◌≡◌, ℕ, ◌+◌, ◌-◌, ◌<◌, ◌≤◌, List, [], ◌∷◌, length, get_or, set, refl, sym, ◌∙◌, subst, arith, inl, inr}
use Rattle.std.proofs.lemmas.List.{get_or-set_same, get_or-set_other}
use Rattle.std.proofs.lemmas.Bool.{cases_eq}
use Rattle.std.specs.Prelude.{◌≢◌}
use Rattle.std.specs.List.{Contains}
use Rattle.iv_types.specs.declared.lock.Want.{Want}
use Rattle.iv_types.specs.declared.session.Sessions.{Sessions}
use Rattle.iv_types.specs.declared.session.Cycle.{Cycle}
use Rattle.iv_types.specs.Replies.{members}
use Rattle.iv_types.specs.SessionSets.{IsSomebody}
use Rattle.iv_types.proofs.Members.{has_members}
use Rattle.iv_meaning.specs.Escrow.{IsSession}
use Rattle.iv_meaning.specs.Waits.{nobody, recorded, would_wait_for, LeadsTo, IsCycle, IsFirstCycle, sessions_of}
use Rattle.table_laws.proofs.Stored.{by_session}
use Rattle.txn_machine.specs.Locks.{Locks, with_one, Meet, IsInTheWay, AreInTheWay, IsDeadlock}
use Rattle.txn_machine.specs.Waiting.{WaitsOn, Leads, IsRing}
use Rattle.txn_machine.proofs.Basics.{one_same, one_other, contains_none}
use Rattle.lock_manager.specs.Table as table
use Rattle.lock_manager.specs.Table.{Table, SessionLocks, HasGained, IsReserved, IsRecorded, IsCancelled}
use Rattle.lock_desk.specs.Asking.{Agrees, HasToWait}

-- ---- the sets of all sessions, found one after the other

pub set_next : (waits : List Sessions) (at : ℕ) (r : Sessions) (Q : ℕ → Sessions → Type 0) → at < length waits
    → ((k : ℕ) → 1 ≤ k → k ≤ at → Q k (recorded waits k)) → Q (at + 1) r → (k : ℕ) → 1 ≤ k → k ≤ at + 1 → Q k (recorded (set waits at r) k)
set_next waits at r Q lt before here k one within = elim (cases_eq k (at + 1)) [
  | inl e ↦
      let is : k - 1 ≡ at = omega (arith, e) in
      subst (λ n. Q n (recorded (set waits at r) k)) (sym e) (subst (λ j. Q (at + 1) (get_or (set waits at r) j nobody)) (sym is) (subst (Q (at + 1)) (sym (get_or-set_same waits at r nobody lt)) here))
  | inr ne ↦ subst (Q k) (sym (get_or-set_other waits at (k - 1) r nobody (λ f. ne (omega (arith, f, one))))) (before k one (omega (arith, within, ne)))
]

-- ---- the same locks

pub same_meet : (held locks wants : List Want) → ((w : Want) → Contains held w → Contains locks w) → Meet held wants → Meet locks wants
same_meet held locks wants h m = record { lock = m.lock; held = h m.lock m.held; want = m.want; wanted = m.wanted; conflict = m.conflict }

module _ (t : Table) (held waited : Locks) (a : Agrees t held waited) where
  pub way_to : (session : ℕ) (wants : List Want) (other : ℕ) → IsInTheWay (table.locks_of t) session wants other → IsInTheWay held session wants other
  way_to session wants other w = record {
    of_session = w.of_session;
    not_itself = w.not_itself;
    meet = same_meet (table.locks_of t other) (held other) wants (λ x. (a.locks other w.of_session x).0) w.meet;
  }

  pub way_back : (session : ℕ) (wants : List Want) (other : ℕ) → IsInTheWay held session wants other → IsInTheWay (table.locks_of t) session wants other
  way_back session wants other w = record {
    of_session = w.of_session;
    not_itself = w.not_itself;
    meet = same_meet (held other) (table.locks_of t other) wants (λ x. (a.locks other w.of_session x).1) w.meet;
  }

  pub ways_to : (session : ℕ) (wants : List Want) (sessions : Sessions) → AreInTheWay (table.locks_of t) session wants sessions → AreInTheWay held session wants sessions
  ways_to session wants sessions h other = (λ c. way_to session wants other ((h other).0 c), λ w. (h other).1 (way_back session wants other w))

  module _ (waits : List Sessions) (session : ℕ) (wants : List Want) (holders : Sessions)
      (each : (k : ℕ) → IsSession k → AreInTheWay (table.locks_of t) k (table.waiting_of t k) (recorded waits k))
      (own : AreInTheWay (table.locks_of t) session wants holders) where
    abbrev wait : ℕ → Sessions
    wait = would_wait_for waits session holders

    pub all_waits : (k : ℕ) → IsSession k → AreInTheWay held k (with_one waited session wants k) (wait k)
    all_waits k is = by_session k session
        (λ e. subst (λ n. AreInTheWay held n (with_one waited session wants n) (wait n)) (sym e)
        (subst (λ ws. AreInTheWay held session ws (wait session)) (sym (one_same waited session wants session refl))
        (subst (AreInTheWay held session wants) (sym (one_same (recorded waits) session holders session refl)) (ways_to session wants holders own))))
        (λ n. subst (λ ws. AreInTheWay held k ws (wait k)) (sym (one_other waited session wants k n ∙ sym (a.waiting k is)))
        (subst (AreInTheWay held k (table.waiting_of t k)) (sym (one_other (recorded waits) session holders k n)) (ways_to k (table.waiting_of t k) (recorded waits k) (each k is))))

    leads : (s : ℕ) (others : List ℕ) → IsSession s → Leads (WaitsOn held (with_one waited session wants)) (s ∷ others) session → LeadsTo wait (s ∷ others) session
    leads s [] is h = (all_waits s is session).1 h
    leads s (x ∷ xs) is h = ((all_waits s is x).1 h.0, leads x xs h.0.of_session h.1)

    pub cycle_of : IsSession session → (others : List ℕ) → IsRing (WaitsOn held (with_one waited session wants)) session others → IsCycle wait session (session ∷ others)
    cycle_of is others r = record { others = others; begins = refl; different = r.different; leads = leads session others is r.leads }

pub not_nobody : (sessions : Sessions) → IsSomebody sessions → members sessions ≢ []
not_nobody sessions s e = contains_none s.0 (subst (λ (ms : List ℕ). Contains ms s.0) e ((has_members sessions s.0).0 s.1))

-- ---- what is answered

module _ (t : Table) (held waited : Locks) (a : Agrees t held waited) (waits : List Sessions) (session : ℕ) (wants : List Want) (holders : Sessions)
    (each : (k : ℕ) → IsSession k → AreInTheWay (table.locks_of t) k (table.waiting_of t k) (recorded waits k))
    (own : AreInTheWay (table.locks_of t) session wants holders) (is : IsSession session) where
  pub has_to_wait : IsSomebody holders → ((cycle : List ℕ) → IsCycle (would_wait_for waits session holders) session cycle → ⊥) → HasToWait held waited session wants holders
  has_to_wait somebody none = record {
    in_the_way = ways_to t held waited a session wants holders own;
    not_empty = not_nobody holders somebody;
    no_cycle = λ others ring. none (session ∷ others) (cycle_of t held waited a waits session wants holders each own is others ring);
  }

  pub closes : (cycle : Cycle) → IsFirstCycle (would_wait_for waits session holders) session (sessions_of cycle) → IsDeadlock held waited session wants (sessions_of cycle)
  closes cycle first = record { waits = would_wait_for waits session holders; of_all = all_waits t held waited a waits session wants holders each own; closes = first }
