-- The levels of the sessions from which so many steps lead to the requester.
use Rattle.std.proofs.Common.{◌≡◌, ℕ, suc, ◌+◌, ◌-◌, ◌<◌, ◌≤◌, ◌↔◌, ◌⊎◌, inl, inr, List, length, get_or, set, sym, ap, ◌∙◌, subst, arith, get_or-set_same, get_or-set_other}
use Rattle.std.proofs.lemmas.Bool.{cases_eq, cases_lt}
use Rattle.std.proofs.lemmas.List.{get_or_past}
use Rattle.std.proofs.lemmas.Nat.Bits.{bit_at-zero}
use Rattle.iv_types.specs.declared.session.Sessions.{Sessions}
use Rattle.iv_meaning.specs.Waits.{nobody, recorded}
use Rattle.iv_types.specs.SessionSets.{Has, HaveCommon}
use Rattle.wait_graph.specs.Walks.{HasWalk, HasNoShorter, IsLevel}
use Rattle.iv_types.proofs.Members.{bit_of}
use Rattle.wait_graph.proofs.Cycles.{waited_session}

pub nobody_is_in : (session : ℕ) → Has nobody session → ⊥
nobody_is_in session h =
    let no : 0 ≡ 1 = sym (bit_at-zero (session - 1)) ∙ (bit_of nobody session h).bit in
    omega (arith, no)

-- nothing is recorded of sessions behind the last one
pub recorded_within : (waits : List Sessions) (session other : ℕ) → Has (recorded waits session) other → session ≤ length waits
recorded_within waits session other h = elim (cases_lt (length waits) session) [
  | inl l ↦
      let past : length waits ≤ session - 1 = omega arith in
      absurd (nobody_is_in other (subst (λ (set : Sessions). Has set other) (get_or_past waits (session - 1) nobody past) h))
  | inr g ↦ g
]

-- the set has the sessions up to a place that wait for one of these
abbrev pub AreWaiting : List Sessions → Sessions → ℕ → Sessions → Type 0
AreWaiting waits waited at set = (session : ℕ) → 1 ≤ session → Has set session ↔ ((session ≤ at) × HaveCommon (recorded waits session) waited)

pub none_waiting : (waits : List Sessions) (waited : Sessions) → AreWaiting waits waited 0 nobody
none_waiting waits waited session from = (
  λ h. absurd (nobody_is_in session h),
  λ h. absurd (let few : session ≤ 0 = h.0 in omega arith),
)

at_place : (waits : List Sessions) (waited : Sessions) (at session : ℕ) → session ≡ at + 1 → get_or waits at nobody ≡ recorded waits session
at_place waits waited at session e = let place : at ≡ session - 1 = omega arith in ap (λ (i : ℕ). get_or waits i nobody) place

pub more_waiting : (waits : List Sessions) (waited : Sessions) (at : ℕ) (set next : Sessions) → AreWaiting waits waited at set → HaveCommon (get_or waits at nobody) waited
    → ((other : ℕ) → Has next other ↔ (Has set other ⊎ (other ≡ at + 1))) → AreWaiting waits waited (at + 1) next
more_waiting waits waited at set next before common added session from = (
  λ h. elim ((added session).0 h) [
    | inl old ↦ let b = (before session from).0 old in let few : session ≤ at = b.0 in (omega arith, b.1)
    | inr e ↦ (omega arith, subst (λ (s : Sessions). HaveCommon s waited) (at_place waits waited at session e) common)
  ],
  λ h. elim (cases_eq session (at + 1)) [
    | inl e ↦ (added session).1 (inr e)
    | inr ne ↦ let few : session ≤ at + 1 = h.0 in (added session).1 (inl ((before session from).1 (omega arith, h.1)))
  ],
)

pub not_waiting : (waits : List Sessions) (waited : Sessions) (at : ℕ) (set : Sessions) → AreWaiting waits waited at set → (HaveCommon (get_or waits at nobody) waited → ⊥)
    → AreWaiting waits waited (at + 1) set
not_waiting waits waited at set before none session from = (
  λ h. let b = (before session from).0 h in let few : session ≤ at = b.0 in (omega arith, b.1),
  λ h. elim (cases_eq session (at + 1)) [
    | inl e ↦ absurd (none (subst (λ (s : Sessions). HaveCommon s waited) (sym (at_place waits waited at session e)) h.1))
    | inr ne ↦ let few : session ≤ at + 1 = h.0 in (before session from).1 (omega arith, h.1)
  ],
)

pub all_waiting : (waits : List Sessions) (waited : Sessions) (at : ℕ) (set : Sessions) → length waits ≤ at → AreWaiting waits waited at set
    → (session : ℕ) → 1 ≤ session → Has set session ↔ HaveCommon (recorded waits session) waited
all_waiting waits waited at set all h session from = (
  λ one. ((h session from).0 one).1,
  λ common. let within : session ≤ length waits = recorded_within waits session common.0 common.1 in (h session from).1 (omega arith, common),
)

first_level : (w : ℕ → Sessions) (requester : ℕ) (set : Sessions) → ((other : ℕ) → Has set other ↔ (Has nobody other ⊎ (other ≡ requester))) → IsLevel w requester set 0
first_level w requester set only session from = (
  λ h. elim ((only session).0 h) [ inl none ↦ absurd (nobody_is_in session none) | inr e ↦ e ],
  λ e. (only session).1 (inr e),
)

-- the levels before a count of steps
abbrev pub AreLevels : (ℕ → Sessions) → ℕ → ℕ → List Sessions → Type 0
AreLevels w requester steps levels = (n : ℕ) → n < steps → IsLevel w requester (get_or levels n nobody) n

pub first_levels : (w : ℕ → Sessions) (requester : ℕ) (levels : List Sessions) (set : Sessions) → get_or levels 0 nobody ≡ set
    → ((other : ℕ) → Has set other ↔ (Has nobody other ⊎ (other ≡ requester))) → AreLevels w requester 1 levels
first_levels w requester levels set e only n l =
    let z : 0 ≡ n = omega arith in
    subst (λ (k : ℕ). IsLevel w requester (get_or levels k nobody) k) z (subst (λ (s : Sessions). IsLevel w requester s 0) (sym e) (first_level w requester set only))

-- the sessions that wait for one of a level make the next level
next_level : (w : ℕ → Sessions) (requester below steps : ℕ) (set next : Sessions) → steps ≡ suc below → IsLevel w requester set below → ((session : ℕ) → 1 ≤ session → Has next session ↔ HaveCommon (w session) set) → IsLevel w requester next steps
next_level w requester below steps set next e level waiting session from = (
  λ h.
      let common = (waiting session from).0 h in
      let one = (waited_session (w session) common.0 common.1).from in
      subst (λ (n : ℕ). HasWalk w n session requester) (sym e) (common.0, common.1, (level common.0 one).0 common.2),
  λ walk.
      let longer : HasWalk w (suc below) session requester = subst (λ (n : ℕ). HasWalk w n session requester) e walk in
      let one = (waited_session (w session) longer.0 longer.1).from in
      (waiting session from).1 (longer.0, longer.1, (level longer.0 one).1 longer.2),
)

pub more_levels : (w : ℕ → Sessions) (requester steps : ℕ) (levels : List Sessions) (next : Sessions) → 1 ≤ steps → steps < length levels → AreLevels w requester steps levels
    → ((session : ℕ) → 1 ≤ session → Has next session ↔ HaveCommon (w session) (get_or levels (steps - 1) nobody)) → AreLevels w requester (steps + 1) (set levels steps next)
more_levels w requester steps levels next some fits before waiting n l = elim (cases_eq n steps) [
  | inl e ↦
      let e' : steps ≡ n = sym e in
      let below : steps - 1 < steps = omega arith in
      let one : steps ≡ suc (steps - 1) = omega arith in
      subst (λ (k : ℕ). IsLevel w requester (get_or (set levels steps next) k nobody) k) e'
      (subst (λ (s : Sessions). IsLevel w requester s steps) (sym (get_or-set_same levels steps next nobody fits))
      (next_level w requester (steps - 1) steps (get_or levels (steps - 1) nobody) next one (before (steps - 1) below) waiting))
  | inr ne ↦
      subst (λ (s : Sessions). IsLevel w requester s n) (sym (get_or-set_other levels steps n next nobody ne)) (before n (omega arith))
]

-- what the levels say of walks from the requester back
pub no_shorter : (w : ℕ → Sessions) (requester total : ℕ) (levels : List Sessions) → 1 ≤ requester → total ≤ 64 → ((n : ℕ) → n ≤ 64 → IsLevel w requester (get_or levels n nobody) n)
    → ((steps : ℕ) → 1 ≤ steps → steps < total → Has (get_or levels steps nobody) requester → ⊥) → HasNoShorter w requester total
no_shorter w requester total levels from fits are none steps l walk =
    let some : 1 ≤ suc steps = omega arith in
    let few : suc steps ≤ 64 = omega arith in
    none (suc steps) some l ((are (suc steps) few requester from).1 walk)
