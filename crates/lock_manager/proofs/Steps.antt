-- What each call keeps.
use Rattle.std.proofs.Common.{◌≡◌, ◌≢◌, ℕ, List, [], ◌∷◌, refl, sym, ap, subst, ◌∙◌, inl, inr, eqb, eq-eqb}
use Rattle.std.specs.Prelude.{◌⊎◌}
use Rattle.std.specs.List.{Contains}
use Rattle.std.proofs.lemmas.Bool.{cases_eq, ne_eqb, cond-true, cond-false}
use Rattle.iv_types.specs.declared.lock.LockMode.{LockMode}
use Rattle.iv_types.specs.declared.lock.LockMode.TheVariants.{Share, Exclusive, Increment}
use Rattle.iv_types.specs.declared.lock.Want.{Want}
use Rattle.iv_types.specs.declared.session.Sessions.{Sessions}
use Rattle.iv_meaning.specs.Escrow.{IsSession}
use Rattle.iv_meaning.specs.Waits as sets
use Rattle.txn_machine.specs.Locks.{Locks, Agree, Meet, AreInTheWay, with_one}
use Rattle.lock_manager.specs.Table.{Table, SessionLocks, of_session, locks_of, waiting_of, IsNew, ChangesOnly, KeepsOthers, IsGranted, IsRecorded, IsCancelled, IsReleased, HasGained, IsFree}
use Rattle.lock_manager.specs.Law.{LeadsTo, WaitsFor, HasNoCycle, HasNoConflict, Call, Reserve, Grant, Wait, Cancel, Release, AreSteps, StepKeepsNoCycle, StepKeepsNoConflict, CallsKeepBoth, SetsTell}
use Rattle.lock_manager.proofs.Gains.{contains_none}
use Rattle.lock_manager.proofs.Cycles.{IsWaiting, cycle_by, through_or_others, first_waits}

abbrev waits : Table → ℕ → ℕ → Type 0
waits table = WaitsFor (locks_of table) (waiting_of table)

-- ---- meetings

agree_turned : (a b : LockMode) → Agree a b → Agree b a
agree_turned Share Share h = tt
agree_turned Share Exclusive h = absurd h
agree_turned Share Increment h = absurd h
agree_turned Exclusive Share h = absurd h
agree_turned Exclusive Exclusive h = absurd h
agree_turned Exclusive Increment h = absurd h
agree_turned Increment Share h = absurd h
agree_turned Increment Exclusive h = absurd h
agree_turned Increment Increment h = tt

meet_turned : (as_ bs : List Want) → Meet as_ bs → Meet bs as_
meet_turned as_ bs m = record {
  lock = m.want;
  held = m.wanted;
  want = m.lock;
  wanted = m.held;
  conflict = record {
    one_index = sym m.conflict.one_index;
    common_key = (m.conflict.common_key.0, m.conflict.common_key.2, m.conflict.common_key.1);
    modes = λ h. m.conflict.modes (agree_turned m.want.mode m.lock.mode h);
  };
}

meet_nothing : (as_ bs : List Want) → bs ≡ [] → Meet as_ bs → ⊥
meet_nothing as_ bs e m = contains_none m.want (subst (λ (l : List Want). Contains l m.want) e m.wanted)

meet_same : (as_ bs cs ds : List Want) → as_ ≡ cs → bs ≡ ds → Meet as_ bs → Meet cs ds
meet_same as_ bs cs ds e f m = record {
  lock = m.lock;
  held = subst (λ (l : List Want). Contains l m.lock) e m.held;
  want = m.want;
  wanted = subst (λ (l : List Want). Contains l m.want) f m.wanted;
  conflict = m.conflict;
}

-- what a longer list meets, the one before meets or what it gained
meet_gained : (old wants after bs : List Want) → HasGained old wants after → Meet after bs → Meet old bs ⊎ Meet wants bs
meet_gained old wants after bs g m = elim ((g m.lock).0 m.held) [
  | inl h ↦ inl (record { lock = m.lock; held = h; want = m.want; wanted = m.wanted; conflict = m.conflict })
  | inr h ↦ inr (record { lock = m.lock; held = h; want = m.want; wanted = m.wanted; conflict = m.conflict })
]

-- ---- waits

waits_same : (f g : Locks) (p q : Locks) (a b : ℕ) → f b ≡ g b → p a ≡ q a → WaitsFor f p a b → WaitsFor g q a b
waits_same f g p q a b e i h = record { of_session = h.of_session; not_itself = h.not_itself; meet = meet_same (f b) (p a) (g b) (q a) e i h.meet }

waits_nothing : (f p : Locks) (a b : ℕ) → p a ≡ [] → WaitsFor f p a b → ⊥
waits_nothing f p a b e h = meet_nothing (f b) (p a) e h.meet

waits_for_none : (f p : Locks) (a b : ℕ) → f b ≡ [] → WaitsFor f p a b → ⊥
waits_for_none f p a b e h = meet_nothing (p a) (f b) e (meet_turned (f b) (p a) h.meet)

with_one_here : (f : Locks) (session : ℕ) (x : List Want) (s : ℕ) → s ≡ session → with_one f session x s ≡ x
with_one_here f session x s e = cond-true (eqb s session) x (f s) (eq-eqb s session e)

with_one_other : (f : Locks) (session : ℕ) (x : List Want) (s : ℕ) → s ≢ session → with_one f session x s ≡ f s
with_one_other f session x s ne = cond-false (eqb s session) x (f s) (ne_eqb s session ne)

-- ---- sessions that keep what they have

module _ (old new : Table) (session : ℕ) where
  other_locks : KeepsOthers old new session → (s : ℕ) → s ≢ session → locks_of new s ≡ locks_of old s
  other_locks keeps s ne = ap (λ (x : SessionLocks). x.locks) (keeps s ne)

  other_waits : KeepsOthers old new session → (s : ℕ) → s ≢ session → waiting_of new s ≡ waiting_of old s
  other_waits keeps s ne = ap (λ (x : SessionLocks). x.waiting) (keeps s ne)

  -- all locks stay where the session keeps its own
  all_locks : (after : SessionLocks) → ChangesOnly old new session after → after.locks ≡ locks_of old session → (s : ℕ) → locks_of new s ≡ locks_of old s
  all_locks after h same s = elim (cases_eq s session) [
    | inl e ↦ ap (locks_of new) e ∙ (ap (λ (x : SessionLocks). x.locks) h.changed ∙ (same ∙ ap (locks_of old) (sym e)))
    | inr ne ↦ other_locks h.others s ne
  ]

  all_waits : (after : SessionLocks) → ChangesOnly old new session after → after.waiting ≡ waiting_of old session → (s : ℕ) → waiting_of new s ≡ waiting_of old s
  all_waits after h same s = elim (cases_eq s session) [
    | inl e ↦ ap (waiting_of new) e ∙ (ap (λ (x : SessionLocks). x.waiting) h.changed ∙ (same ∙ ap (waiting_of old) (sym e)))
    | inr ne ↦ other_waits h.others s ne
  ]

  -- ---- no cycle

  -- the session waits for nothing now: a cycle has only waits that were there
  granted_waits : (wants : List Want) → IsGranted old new session wants → (a b : ℕ) → waits new a b → IsWaiting (waits new) b → waits old a b
  granted_waits wants h a b w on = elim (cases_eq a session) [
    | inl e ↦ absurd (waits_nothing (locks_of new) (waiting_of new) a b (ap (waiting_of new) e ∙ h.waiting) w)
    | inr na ↦ elim (cases_eq b session) [
      | inl e ↦ absurd (waits_nothing (locks_of new) (waiting_of new) b on.0 (ap (waiting_of new) e ∙ h.waiting) on.1)
      | inr nb ↦ waits_same (locks_of new) (locks_of old) (waiting_of new) (waiting_of old) a b (other_locks h.others b nb) (other_waits h.others a na) w
    ]
  ]

  recorded_waits : (wants : List Want) → IsRecorded old new session wants → (a b : ℕ) → a ≢ session → waits new a b → waits old a b
  recorded_waits wants h a b na w =
      waits_same (locks_of new) (locks_of old) (waiting_of new) (waiting_of old) a b (all_locks (record (of_session old session) { waiting = wants }) h refl b) (other_waits h.others a na) w

  recorded_with_one : (wants : List Want) → IsRecorded old new session wants → (s : ℕ) → waiting_of new s ≡ with_one (waiting_of old) session wants s
  recorded_with_one wants h s = elim (cases_eq s session) [
    | inl e ↦ ap (waiting_of new) e ∙ (ap (λ (x : SessionLocks). x.waiting) h.changed ∙ sym (with_one_here (waiting_of old) session wants s e))
    | inr ne ↦ other_waits h.others s ne ∙ sym (with_one_other (waiting_of old) session wants s ne)
  ]

  recorded_closes : (wants : List Want) → IsRecorded old new session wants → (a b : ℕ) → waits new a b → IsWaiting (waits new) b → WaitsFor (locks_of old) (with_one (waiting_of old) session wants) a b
  recorded_closes wants h a b w on =
      waits_same (locks_of new) (locks_of old) (waiting_of new) (with_one (waiting_of old) session wants) a b (all_locks (record (of_session old session) { waiting = wants }) h refl b) (recorded_with_one wants h a) w

  cancelled_waits : IsCancelled old new session → (a b : ℕ) → waits new a b → IsWaiting (waits new) b → waits old a b
  cancelled_waits h a b w on = elim (cases_eq a session) [
    | inl e ↦ absurd (waits_nothing (locks_of new) (waiting_of new) a b (ap (waiting_of new) e ∙ ap (λ (x : SessionLocks). x.waiting) h.changed) w)
    | inr na ↦ recorded_waits [] h a b na w
  ]

  released_waits : IsReleased old new session → (a b : ℕ) → waits new a b → IsWaiting (waits new) b → waits old a b
  released_waits h a b w on = elim (cases_eq a session) [
    | inl e ↦ absurd (waits_nothing (locks_of new) (waiting_of new) a b (ap (waiting_of new) e ∙ ap (λ (x : SessionLocks). x.waiting) h.changed) w)
    | inr na ↦ elim (cases_eq b session) [
      | inl e ↦ absurd (waits_for_none (locks_of new) (waiting_of new) a b (ap (locks_of new) e ∙ ap (λ (x : SessionLocks). x.locks) h.changed) w)
      | inr nb ↦ waits_same (locks_of new) (locks_of old) (waiting_of new) (waiting_of old) a b (other_locks h.others b nb) (other_waits h.others a na) w
    ]
  ]

  -- ---- no conflict

  conflict_same : ((s : ℕ) → locks_of new s ≡ locks_of old s) → HasNoConflict old → HasNoConflict new
  conflict_same same none a b is_a is_b ne m = none a b is_a is_b ne (meet_same (locks_of new a) (locks_of new b) (locks_of old a) (locks_of old b) (same a) (same b) m)

  conflict_released : IsReleased old new session → HasNoConflict old → HasNoConflict new
  conflict_released h none a b is_a is_b ne m = elim (cases_eq a session) [
    | inl e ↦ meet_nothing (locks_of new b) (locks_of new a) (ap (locks_of new) e ∙ ap (λ (x : SessionLocks). x.locks) h.changed) (meet_turned (locks_of new a) (locks_of new b) m)
    | inr na ↦ elim (cases_eq b session) [
      | inl e ↦ meet_nothing (locks_of new a) (locks_of new b) (ap (locks_of new) e ∙ ap (λ (x : SessionLocks). x.locks) h.changed) m
      | inr nb ↦ none a b is_a is_b ne (meet_same (locks_of new a) (locks_of new b) (locks_of old a) (locks_of old b) (other_locks h.others a na) (other_locks h.others b nb) m)
    ]
  ]

  -- the session's new locks meet none of another session
  granted_apart : (wants : List Want) → IsSession session → IsFree (locks_of old) session wants → IsGranted old new session wants → HasNoConflict old
      → (b : ℕ) → IsSession b → b ≢ session → Meet (locks_of new session) (locks_of new b) → ⊥
  granted_apart wants is free h none b is_b ne m =
      let there : Meet (locks_of new session) (locks_of old b) = meet_same (locks_of new session) (locks_of new b) (locks_of new session) (locks_of old b) refl (other_locks h.others b ne) m in
      elim (meet_gained (locks_of old session) wants (locks_of new session) (locks_of old b) h.locks there) [
        | inl before ↦ none session b is is_b (λ e. ne (sym e)) before
        | inr new_one ↦ free b (record { of_session = is_b; not_itself = ne; meet = meet_turned wants (locks_of old b) new_one })
      ]

  conflict_granted : (wants : List Want) → IsSession session → IsFree (locks_of old) session wants → IsGranted old new session wants → HasNoConflict old → HasNoConflict new
  conflict_granted wants is free h none a b is_a is_b ne m = elim (cases_eq a session) [
    | inl e ↦ granted_apart wants is free h none b is_b (λ f. ne (e ∙ sym f)) (subst (λ (s : ℕ). Meet (locks_of new s) (locks_of new b)) e m)
    | inr na ↦ elim (cases_eq b session) [
      | inl e ↦ granted_apart wants is free h none a is_a na (subst (λ (s : ℕ). Meet (locks_of new s) (locks_of new a)) e (meet_turned (locks_of new a) (locks_of new b) m))
      | inr nb ↦ none a b is_a is_b ne (meet_same (locks_of new a) (locks_of new b) (locks_of old a) (locks_of old b) (other_locks h.others a na) (other_locks h.others b nb) m)
    ]
  ]

-- ---- the law

pub no_cycle_kept : StepKeepsNoCycle
no_cycle_kept (Reserve session more) old new h none cycle c =
    let part = of_session old session in
    none cycle (cycle_by (waits new) (waits old) (λ a b w on. waits_same (locks_of new) (locks_of old) (waiting_of new) (waiting_of old) a b (all_locks old new session _ h refl b) (all_waits old new session _ h refl a) w) cycle c)
no_cycle_kept (Grant session wants) old new h none cycle c = none cycle (cycle_by (waits new) (waits old) (granted_waits old new session wants h.2) cycle c)
no_cycle_kept (Wait session wants) old new h none cycle c = elim (through_or_others (waits new) (waits old) session (recorded_waits old new session wants h.0) cycle c) [
  | inl through ↦ h.1 through.0 (cycle_by (waits new) (WaitsFor (locks_of old) (with_one (waiting_of old) session wants)) (recorded_closes old new session wants h.0) (session ∷ through.0) through.1)
  | inr others ↦ none cycle others
]
no_cycle_kept (Cancel session) old new h none cycle c = none cycle (cycle_by (waits new) (waits old) (cancelled_waits old new session h) cycle c)
no_cycle_kept (Release session) old new h none cycle c = none cycle (cycle_by (waits new) (waits old) (released_waits old new session h) cycle c)

pub no_conflict_kept : StepKeepsNoConflict
no_conflict_kept (Reserve session more) old new h none = conflict_same old new session (all_locks old new session _ h refl) none
no_conflict_kept (Grant session wants) old new h none = conflict_granted old new session wants h.0 h.1 h.2 none
no_conflict_kept (Wait session wants) old new h none = conflict_same old new session (all_locks old new session _ h.0 refl) none
no_conflict_kept (Cancel session) old new h none = conflict_same old new session (all_locks old new session _ h refl) none
no_conflict_kept (Release session) old new h none = conflict_released old new session h none

new_no_cycle : (table : Table) → IsNew table → HasNoCycle table
new_no_cycle table new [] c = c
new_no_cycle table new (s ∷ ss) c =
    let w = first_waits (waits table) s ss s c.1 in
    waits_nothing (locks_of table) (waiting_of table) s w.0 (ap (λ (x : SessionLocks). x.waiting) (new s)) w.1

new_no_conflict : (table : Table) → IsNew table → HasNoConflict table
new_no_conflict table new a b is_a is_b ne m = meet_nothing (locks_of table a) (locks_of table b) (ap (λ (x : SessionLocks). x.locks) (new b)) m

steps_keep : (calls : List Call) (old new : Table) → AreSteps calls old new → HasNoCycle old → HasNoConflict old → HasNoCycle new × HasNoConflict new
steps_keep [] old new h cycle conflict = (subst HasNoCycle h cycle, subst HasNoConflict h conflict)
steps_keep (call ∷ calls) old new h cycle conflict = steps_keep calls h.0 new h.2 (no_cycle_kept call old h.0 h.1 cycle) (no_conflict_kept call old h.0 h.1 conflict)

pub calls_keep_both : CallsKeepBoth
calls_keep_both calls new table is h = steps_keep calls new table h (new_no_cycle new is) (new_no_conflict new is)

leads_in_sets : (f p : Locks) (told : ℕ → Sessions) → ((s : ℕ) → IsSession s → AreInTheWay f s (p s) (told s)) → (s : ℕ) (ss : List ℕ) (end : ℕ) → IsSession s
    → LeadsTo (WaitsFor f p) (s ∷ ss) end → sets.LeadsTo told (s ∷ ss) end
leads_in_sets f p told all s [] end is h = (all s is end).1 h
leads_in_sets f p told all s (t ∷ ts) end is h = ((all s is t).1 h.0, leads_in_sets f p told all t ts end h.0.of_session h.1)

pub sets_tell : SetsTell
sets_tell table session wants told is all none others c = none (session ∷ others) (record {
  others = others;
  begins = refl;
  different = c.0;
  leads = leads_in_sets (locks_of table) (with_one (waiting_of table) session wants) told all session others session is c.1;
})
