-- Those who are in the way, found one want and one session after the other.
use Rattle.std.proofs.Common.{◌≡◌, ℕ, ◌+◌, ◌<◌, ◌≤◌, List, [], length, slice_set, sym, ap, ◌∙◌, subst, arith, inl, inr}
use Rattle.std.proofs.lemmas.List.{get_or-set_same, get_or-set_other, get_or_default}
use Rattle.std.specs.Prelude.{◌⊎◌, ◌↔◌, get_or, slice_index_or}
use Rattle.std.proofs.lemmas.Bool.{cases_eq, cases_lt}
use Rattle.iv_types.specs.declared.lock.Want.{Want}
use Rattle.iv_types.specs.declared.session.Sessions.{Sessions}
use Rattle.iv_types.specs.SessionSets.{Has, IsSomebody}
use Rattle.iv_meaning.specs.Escrow.{IsSession}
use Rattle.iv_meaning.specs.Waits.{nobody}
use Rattle.txn_machine.specs.Locks.{Locks, AreInTheWay}
use Rattle.lock_manager.specs.Suspects.{IsWith, IsMet, IsFound}
use Rattle.lock_manager.specs.Table.{Table, SessionLocks, nothing, of_session, locks_of, room_of, HasGained, IsUsed, IsGranted, IsFree}
use Rattle.lock_manager.proofs.Counts.{room_left}
use Rattle.iv_types.proofs.Members.{has_members, nobody_there}

-- ---- one want

-- these sessions, and exactly those before this one that are of this kind
abbrev pub AreBefore : Sessions → (ℕ → Type 0) → ℕ → Sessions → Type 0
AreBefore found P n sessions = (other : ℕ) → Has sessions other ↔ (Has found other ⊎ ((other < n) × P other))

module _ (found : Sessions) (P : ℕ → Type 0) (from : (other : ℕ) → P other → IsSession other) where
  pub none_before : AreBefore found P 1 found
  none_before other = (λ h. inl h, λ h. elim h [ inl there ↦ there | inr (lt, p) ↦ absurd (omega (arith, lt, (from other p).0)) ])

  pub more_before : (n : ℕ) (sessions after : Sessions) → AreBefore found P n sessions → P n
      → ((other : ℕ) → Has after other ↔ (Has sessions other ⊎ (other ≡ n))) → AreBefore found P (n + 1) after
  more_before n sessions after h p added other = (
    λ there. elim ((added other).0 there) [
      | inl before ↦ elim ((h other).0 before) [ inl first ↦ inl first | inr (lt, q) ↦ inr (omega (arith, lt), q) ]
      | inr e ↦ inr (omega (arith, e), subst P (sym e) p)
    ],
    λ some. elim some [
      | inl first ↦ (added other).1 (inl ((h other).1 (inl first)))
      | inr (lt, q) ↦ elim (cases_eq other n) [
        | inl e ↦ (added other).1 (inr e)
        | inr ne ↦ (added other).1 (inl ((h other).1 (inr (omega (arith, lt, ne), q))))
      ]
    ],
  )

  pub not_before : (n : ℕ) (sessions : Sessions) → AreBefore found P n sessions → (P n → ⊥) → AreBefore found P (n + 1) sessions
  not_before n sessions h not other = (
    λ there. elim ((h other).0 there) [ inl first ↦ inl first | inr (lt, q) ↦ inr (omega (arith, lt), q) ],
    λ some. elim some [
      | inl first ↦ (h other).1 (inl first)
      | inr (lt, q) ↦ elim (cases_eq other n) [
        | inl e ↦ absurd (not (subst P e q))
        | inr ne ↦ (h other).1 (inr (omega (arith, lt, ne), q))
      ]
    ],
  )

  pub all_before : (n : ℕ) (sessions : Sessions) → 65 ≤ n → AreBefore found P n sessions → IsWith found P sessions
  all_before n sessions le h other = (
    λ there. elim ((h other).0 there) [ inl first ↦ inl first | inr (lt, q) ↦ inr q ],
    λ some. elim some [ inl first ↦ (h other).1 (inl first) | inr q ↦ (h other).1 (inr (omega (arith, le, (from other q).1), q)) ],
  )

-- ---- all wants

-- the other session holds a lock that conflicts with one of the first wants, so many of them
pub record IsMetBefore (locks : Locks) (session : ℕ) (wants : List Want) (n other : ℕ) : Type 0 where
  pub at : ℕ
  pub want : Want
  pub first : at < n
  pub within : at < length wants
  pub is : slice_index_or wants at want ≡ want
  pub met : IsMet locks session want other

-- exactly the sessions that are in the way of the first wants
abbrev pub AreMetBefore : Locks → ℕ → List Want → ℕ → Sessions → Type 0
AreMetBefore locks session wants n sessions = (other : ℕ) → Has sessions other ↔ IsMetBefore locks session wants n other

module _ (locks : Locks) (session : ℕ) (wants : List Want) where
  pub none_met : AreMetBefore locks session wants 0 nobody
  none_met other = (λ h. absurd (nobody_there other h), λ m. absurd (omega (arith, m.first)))

  pub more_met : (n : ℕ) (want : Want) (suspects sessions after : Sessions) → n < length wants → want ≡ get_or wants n want → AreMetBefore locks session wants n sessions
      → ((other : ℕ) → IsMet locks session want other → Has suspects other) → IsWith sessions (IsFound suspects locks session want) after → AreMetBefore locks session wants (n + 1) after
  more_met n want suspects sessions after lt is h all added other = (
    λ there. elim ((added other).0 there) [
      | inl before ↦
          let m = (h other).0 before in
          record { at = m.at; want = m.want; first = omega (arith, m.first); within = m.within; is = m.is; met = m.met }
      | inr (suspect, met) ↦ record { at = n; want = want; first = omega arith; within = lt; is = sym is; met = met }
    ],
    λ m. elim (cases_lt m.at n) [
      | inl less ↦ (added other).1 (inl ((h other).1 (record { at = m.at; want = m.want; first = less; within = m.within; is = m.is; met = m.met })))
      | inr le ↦
          let e : m.at ≡ n = omega (arith, m.first, le) in
          let same : m.want ≡ want = sym m.is ∙ (ap (λ k. slice_index_or wants k m.want) e ∙ (get_or_default wants n m.want want lt ∙ sym is)) in
          let met : IsMet locks session want other = subst (λ w. IsMet locks session w other) same m.met in
          (added other).1 (inr (all other met, met))
    ],
  )

  pub all_met : (n : ℕ) (sessions : Sessions) → length wants ≤ n → AreMetBefore locks session wants n sessions → AreInTheWay locks session wants sessions
  all_met n sessions le h other = (
    λ there.
        let m = (h other).0 ((has_members sessions other).1 there) in
        let some = m.met.lock in
        record { of_session = m.met.of_session; not_itself = m.met.not_itself; meet = record { lock = some.0; held = some.1; want = m.want; wanted = (m.at, m.within, m.is); conflict = some.2 } },
    λ way.
        let meet = way.meet in
        let at = meet.wanted in
        (has_members sessions other).0 ((h other).1 (record {
          at = at.0;
          want = meet.want;
          first = omega (arith, le, at.1);
          within = at.1;
          is = at.2;
          met = record { of_session = way.of_session; not_itself = way.not_itself; lock = (meet.lock, meet.held, meet.conflict) };
        })),
  )

-- of the same table and the same wants
pub ways_at : (parts table : Table) (session : ℕ) (read wants : List Want) (sessions : Sessions) → parts ≡ table → read ≡ wants
    → AreInTheWay (locks_of parts) session read sessions → AreInTheWay (locks_of table) session wants sessions
ways_at parts table session read wants sessions e f h =
    subst (λ (t : Table). AreInTheWay (locks_of t) session wants sessions) e (subst (λ (w : List Want). AreInTheWay (locks_of parts) session w sessions) f h)

-- where the set is empty nobody is
pub free_at : (table : Table) (session : ℕ) (wants : List Want) (sessions : Sessions) → AreInTheWay (locks_of table) session wants sessions → (IsSomebody sessions → ⊥) → IsFree (locks_of table) session wants
free_at table session wants sessions h none other way = none (other, (has_members sessions other).1 ((h other).1 way))

-- a session's part is put in place
pub granted_at : (old : Table) (session : ℕ) (wants : List Want) (before after : SessionLocks) → session < length old → before ≡ of_session old session
    → HasGained before.locks wants after.locks → after.waiting ≡ [] → IsUsed before.locks wants before.room after.room → IsGranted old (slice_set old session after) session wants
granted_at old session wants before after lt is gained waiting used =
    let new : Table = slice_set old session after in
    let here : of_session new session ≡ after = get_or-set_same old session after nothing lt in
    record {
      locks = subst (λ (s : SessionLocks). HasGained s.locks wants (locks_of new session)) is (subst (λ (s : SessionLocks). HasGained before.locks wants s.locks) (sym here) gained);
      waiting = ap (λ (s : SessionLocks). s.waiting) here ∙ waiting;
      used = subst (λ (s : SessionLocks). IsUsed s.locks wants s.room (room_of new session)) is (subst (λ (s : SessionLocks). IsUsed before.locks wants before.room s.room) (sym here) used);
      room =
          subst (λ (s : SessionLocks). s.room ≤ room_of new session + length wants) is
          (subst (λ (s : SessionLocks). before.room ≤ s.room + length wants) (sym here) (room_left before.room after.room before.locks wants used));
      others = λ other ne. get_or-set_other old session other after nothing ne;
    }
