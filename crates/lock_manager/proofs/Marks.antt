-- Marks of locks: sets of sessions by their bits, and the places of digests.
use Rattle.std.proofs.Common.{◌≡◌, ℕ, ◌+◌, ◌-◌, ◌*◌, ◌%◌, ◌^◌, ◌<◌, ◌≤◌, ◌⊎◌, inl, inr, List, length, max, refl, sym, ap, ◌∙◌, subst, arith, ◌↔◌, bit_and, bit_or, w64}
use Rattle.std.specs.Prelude.{◌≢◌, slice_set, slice_index_or, get_or}
use Rattle.std.specs.List.{Contains}
use Rattle.std.specs.Int.{bit_at, bit_not}
use Rattle.std.proofs.lemmas.Bool.{cases_eq, cases_lt}
use Rattle.std.proofs.lemmas.List.{get_or-set_same, get_or-set_other, get_or_default}
use Rattle.std.proofs.lemmas.Nat.Bits.{bit_at_or, bit_at-lt, bit_at_clear_same, bit_at_clear_other}
use Rattle.iv_types.specs.declared.lock.LockMode.{LockMode}
use Rattle.iv_types.specs.declared.lock.LockMode.TheVariants.{Share, Exclusive, Increment}
use Rattle.iv_types.specs.declared.lock.Want.{Want}
use Rattle.iv_types.specs.declared.session.Sessions.{Sessions}
use Rattle.iv_types.specs.SessionSets.{Has}
use Rattle.iv_types.proofs.Members.{bit_of, has_bit, nobody_there}
use Rattle.iv_meaning.specs.Escrow.{IsSession}
use Rattle.txn_machine.specs.Locks.{Agree, Conflict}
use Rattle.lock_manager.specs.declared.suspects.Holders.{Holders}
use Rattle.lock_manager.specs.declared.suspects.TheConstants.{RANGES, ALL, SLOTS}
use Rattle.lock_manager.specs.Order.{IsPoint}
use Rattle.lock_manager.specs.Suspects.{in_mode, no_holders, IsApart, HasAdded, HasRemoved, digest, holders_at, IsMarked, AreMarked, KeepsMarks, IsMarkedAt, IsUnmarkedBefore, AreSuspects}
use Rattle.lock_manager.specs.Table.{Table, SessionLocks, nothing, locks_of, of_session, HasGained}
use Rattle.lock_manager.proofs.Searches.{only_key}
use Rattle.lock_manager.proofs.Gains.{contains_none}

-- ---- sets

max_of : (a b : ℕ) → a < 2 → b < 2 → max a b ≡ 1 → (a ≡ 1) ⊎ (b ≡ 1)
max_of a b la lb e = elim (cases_eq a 1) [ inl one ↦ inl one | inr ne ↦ inr (omega arith) ]

max_left : (a b : ℕ) → a ≡ 1 → b < 2 → max a b ≡ 1
max_left a b e lb = omega arith

max_right : (a b : ℕ) → a < 2 → b ≡ 1 → max a b ≡ 1
max_right a b la e = omega arith

abbrev pub set_either : Sessions → Sessions → Sessions
set_either a b = record { bits = bit_or a.bits b.bits }

pub has_either : (a b : Sessions) (s : ℕ) → Has (set_either a b) s ↔ (Has a s ⊎ Has b s)
has_either a b s =
    let x = bit_at a.bits (s - 1) in
    let y = bit_at b.bits (s - 1) in
    let both : bit_at (bit_or a.bits b.bits) (s - 1) ≡ max x y = bit_at_or a.bits b.bits (s - 1) in (
      λ h.
          let m = bit_of (set_either a b) s h in
          elim (max_of x y (bit_at-lt a.bits (s - 1)) (bit_at-lt b.bits (s - 1)) (sym both ∙ m.bit)) [ inl one ↦ inl (has_bit a s m.from m.to one) | inr one ↦ inr (has_bit b s m.from m.to one) ],
      λ h. elim h [
        | inl there ↦ let m = bit_of a s there in has_bit (set_either a b) s m.from m.to (both ∙ max_left x y m.bit (bit_at-lt b.bits (s - 1)))
        | inr there ↦ let m = bit_of b s there in has_bit (set_either a b) s m.from m.to (both ∙ max_right x y (bit_at-lt a.bits (s - 1)) m.bit)
      ],
    )

abbrev pub set_without : Sessions → ℕ → Sessions
set_without set session = record { bits = bit_and set.bits (bit_not w64 (1 * 2 ^ (session - 1) % 2 ^ 64)) }

pub has_without : (set : Sessions) (session other : ℕ) → IsSession session → Has (set_without set session) other ↔ (Has set other × (other ≢ session))
has_without set session other is =
    let lower : session - 1 < 64 = omega (arith, is.0, is.1) in (
      λ h.
          let m = bit_of (set_without set session) other h in
          let ne : other ≢ session = λ e.
          let zero : bit_at (set_without set session).bits (session - 1) ≡ 0 = bit_at_clear_same w64 set.bits (session - 1) lower in
          let one : bit_at (set_without set session).bits (session - 1) ≡ 1 = ap (λ k. bit_at (set_without set session).bits (k - 1)) (sym e) ∙ m.bit in
          omega (arith, zero, one) in
          let apart : other - 1 ≢ session - 1 = λ e. ne (omega (arith, m.from, is.0, e)) in
          (has_bit set other m.from m.to (sym (bit_at_clear_other w64 set.bits (session - 1) lower (other - 1) (omega (arith, m.to, m.from)) apart) ∙ m.bit), ne),
      λ (h, ne).
          let m = bit_of set other h in
          let apart : other - 1 ≢ session - 1 = λ e. ne (omega (arith, m.from, is.0, e)) in
          has_bit (set_without set session) other m.from m.to (bit_at_clear_other w64 set.bits (session - 1) lower (other - 1) (omega (arith, m.to, m.from)) apart ∙ m.bit),
    )

-- ---- modes

module _ (holders : Holders) (found : Sessions) (s : ℕ) where
  pub apart_share : (Has found s ↔ (Has holders.exclusive s ⊎ Has holders.increment s)) → Has found s ↔ IsApart holders Share s
  apart_share is = (λ h. elim (is.0 h) [ inl x ↦ (Exclusive, x, λ a. a) | inr x ↦ (Increment, x, λ a. a) ], λ (held, there, not). back held there not)
    where
      back : (held : LockMode) → Has (in_mode holders held) s → (Agree held Share → ⊥) → Has found s
      back Share there not = absurd (not tt)
      back Exclusive there not = is.1 (inl there)
      back Increment there not = is.1 (inr there)

  pub apart_exclusive : (Has found s ↔ (Has holders.share s ⊎ Has holders.exclusive s ⊎ Has holders.increment s)) → Has found s ↔ IsApart holders Exclusive s
  apart_exclusive is = (
    λ h. elim (is.0 h) [ inl x ↦ (Share, x, λ a. a) | inr more ↦ elim more [ inl x ↦ (Exclusive, x, λ a. a) | inr x ↦ (Increment, x, λ a. a) ] ],
    λ (held, there, not). back held there,
  )
    where
      back : (held : LockMode) → Has (in_mode holders held) s → Has found s
      back Share there = is.1 (inl there)
      back Exclusive there = is.1 (inr (inl there))
      back Increment there = is.1 (inr (inr there))

  pub apart_increment : (Has found s ↔ (Has holders.share s ⊎ Has holders.exclusive s)) → Has found s ↔ IsApart holders Increment s
  apart_increment is = (λ h. elim (is.0 h) [ inl x ↦ (Share, x, λ a. a) | inr x ↦ (Exclusive, x, λ a. a) ], λ (held, there, not). back held there not)
    where
      back : (held : LockMode) → Has (in_mode holders held) s → (Agree held Increment → ⊥) → Has found s
      back Share there not = is.1 (inl there)
      back Exclusive there not = is.1 (inr there)
      back Increment there not = absurd (not tt)

-- ---- suspects

module _ (slots : List Holders) (want : Want) (found : Sessions) where
  pub by_key : (of_key of_ranges : Sessions) → IsPoint want.interval → ((s : ℕ) → Has of_key s ↔ IsApart (holders_at slots (digest want.index want.interval.low)) want.mode s)
      → ((s : ℕ) → Has of_ranges s ↔ IsApart (holders_at slots RANGES) want.mode s) → ((s : ℕ) → Has found s ↔ (Has of_key s ⊎ Has of_ranges s)) → AreSuspects slots want found
  by_key of_key of_ranges point key_is ranges_is is session lock marked conflict =
      let common = conflict.common_key in
      (is session).1 (elim marked.by_key [
        | inl range ↦ inr ((ranges_is session).1 (lock.mode, range, conflict.modes))
        | inr (p, there) ↦
            let low : lock.interval.low ≡ want.interval.low = sym (only_key lock.interval common.0 p common.1) ∙ only_key want.interval common.0 point common.2 in
            inl ((key_is session).1 (lock.mode, subst (λ d. Has (in_mode (holders_at slots d) lock.mode) session) (λ i. digest (conflict.one_index i) (low i)) there, conflict.modes))
      ])

  pub by_all : ((s : ℕ) → Has found s ↔ IsApart (holders_at slots ALL) want.mode s) → AreSuspects slots want found
  by_all is session lock marked conflict = (is session).1 (lock.mode, marked.among_all, conflict.modes)

-- ---- marking

pub marked_at : (slots : List Holders) (place : ℕ) (mode : LockMode) (session : ℕ) (old new : Holders) → place < length slots → old ≡ holders_at slots place → HasAdded old mode session new
    → IsMarkedAt slots place mode session (slice_set slots place new)
marked_at slots place mode session old new lt was added k m s = elim (cases_eq k place) [
  | inl e ↦
      let here : holders_at (slice_set slots place new) k ≡ new = ap (holders_at (slice_set slots place new)) e ∙ get_or-set_same slots place new no_holders lt in
      let before : old ≡ holders_at slots k = was ∙ ap (holders_at slots) (sym e) in (
        λ h. elim ((added m s).0 (subst (λ x. Has (in_mode x m) s) here h)) [ inl there ↦ inl (subst (λ x. Has (in_mode x m) s) before there) | inr new ↦ inr (e, new.0, new.1) ],
        λ h. subst (λ x. Has (in_mode x m) s) (sym here) ((added m s).1 (elim h [ inl there ↦ inl (subst (λ x. Has (in_mode x m) s) (sym before) there) | inr (at, m_is, s_is) ↦ inr (m_is, s_is) ])),
      )
  | inr ne ↦
      let here : holders_at (slice_set slots place new) k ≡ holders_at slots k = get_or-set_other slots place k new no_holders ne in (
        λ h. inl (subst (λ x. Has (in_mode x m) s) here h),
        λ h. elim h [ inl there ↦ subst (λ x. Has (in_mode x m) s) (sym here) there | inr (e, m_is, s_is) ↦ absurd (ne e) ],
      )
]

pub kept_at : (old new : List Holders) (place : ℕ) (mode : LockMode) (session : ℕ) → IsMarkedAt old place mode session new → KeepsMarks old new
kept_at old new place mode session at s lock marked = record {
  by_key = elim marked.by_key [
    | inl range ↦ inl ((at RANGES lock.mode s).1 (inl range))
    | inr (p, there) ↦ inr (p, (at (digest lock.index lock.interval.low) lock.mode s).1 (inl there))
  ];
  among_all = (at ALL lock.mode s).1 (inl marked.among_all);
}

pub kept_twice : (old between new : List Holders) → KeepsMarks old between → KeepsMarks between new → KeepsMarks old new
kept_twice old between new first second s lock marked = second s lock (first s lock marked)

pub marked_one : (old between new : List Holders) (place session : ℕ) (lock : Want) → (place ≡ RANGES) ⊎ (IsPoint lock.interval × (place ≡ digest lock.index lock.interval.low))
    → IsMarkedAt old place lock.mode session between → IsMarkedAt between ALL lock.mode session new → IsMarked new session lock
marked_one old between new place session lock where_is first second =
    let here : Has (in_mode (holders_at new place) lock.mode) session = (second place lock.mode session).1 (inl ((first place lock.mode session).1 (inr (refl, refl, refl)))) in
    record {
      by_key = elim where_is [
        | inl e ↦ inl (subst (λ k. Has (in_mode (holders_at new k) lock.mode) session) e here)
        | inr (p, e) ↦ inr (p, subst (λ k. Has (in_mode (holders_at new k) lock.mode) session) e here)
      ];
      among_all = (second ALL lock.mode session).1 (inr (refl, refl, refl));
    }

-- the first of these locks are marked
abbrev pub AreMarkedBefore : List Holders → ℕ → List Want → ℕ → Type 0
AreMarkedBefore slots session locks n = (k : ℕ) (lock : Want) → k < n → k < length locks → slice_index_or locks k lock ≡ lock → IsMarked slots session lock

pub more_marked : (old new : List Holders) (session : ℕ) (locks : List Want) (n : ℕ) (lock : Want) → n < length locks → lock ≡ get_or locks n lock
    → AreMarkedBefore old session locks n → KeepsMarks old new → IsMarked new session lock → AreMarkedBefore new session locks (n + 1)
more_marked old new session locks n lock within is before kept here k other lt inside e = elim (cases_lt k n) [
  | inl less ↦ kept session other (before k other less inside e)
  | inr le ↦
      let at : k ≡ n = omega (arith, lt, le) in
      let same : other ≡ lock = sym e ∙ (ap (λ j. slice_index_or locks j other) at ∙ (get_or_default locks n other lock within ∙ sym is)) in
      subst (IsMarked new session) (sym same) here
]

-- ---- taking marks away

pub unmarked_more : (old slots : List Holders) (place session : ℕ) (was new : Holders) → place < length slots → was ≡ holders_at slots place → IsUnmarkedBefore old place session slots
    → HasRemoved was session new → IsUnmarkedBefore old (place + 1) session (slice_set slots place new)
unmarked_more old slots place session was new lt is before removed k m s = elim (cases_eq k place) [
  | inl e ↦
      let here : holders_at (slice_set slots place new) k ≡ new = ap (holders_at (slice_set slots place new)) e ∙ get_or-set_same slots place new no_holders lt in
      let there : was ≡ holders_at slots k = is ∙ ap (holders_at slots) (sym e) in (
        λ h.
            let (had, ne) = (removed m s).0 (subst (λ x. Has (in_mode x m) s) here h) in
            (((before k m s).0 (subst (λ x. Has (in_mode x m) s) there had)).0, λ _. ne),
        λ (had, ne).
            let at_slots = (before k m s).1 (had, λ less. ne (omega (arith, less))) in
            subst (λ x. Has (in_mode x m) s) (sym here) ((removed m s).1 (subst (λ x. Has (in_mode x m) s) (sym there) at_slots, ne (omega (arith, e)))),
      )
  | inr apart ↦
      let here : holders_at (slice_set slots place new) k ≡ holders_at slots k = get_or-set_other slots place k new no_holders apart in (
        λ h.
            let (had, ne) = (before k m s).0 (subst (λ x. Has (in_mode x m) s) here h) in
            (had, λ less. ne (omega (arith, less, apart))),
        λ (had, ne). subst (λ x. Has (in_mode x m) s) (sym here) ((before k m s).1 (had, λ less. ne (omega (arith, less)))),
      )
]

-- ---- parts

module _ (table : Table) (session : ℕ) (after : SessionLocks) (lt : session < length table) where
  -- another session has what it had
  pub locks_apart : (s : ℕ) → s ≢ session → locks_of (slice_set table session after) s ≡ locks_of table s
  locks_apart s ne = ap (λ (p : SessionLocks). p.locks) (get_or-set_other table session s after nothing ne)

  pub locks_here : locks_of (slice_set table session after) session ≡ after.locks
  locks_here = ap (λ (p : SessionLocks). p.locks) (get_or-set_same table session after nothing lt)

  pub marked_on : (slots new : List Holders) → length new ≡ SLOTS → AreMarked slots table → ((s : ℕ) (lock : Want) → s ≢ session → IsMarked slots s lock → IsMarked new s lock)
      → ((lock : Want) → Contains after.locks lock → IsMarked new session lock) → AreMarked new (slice_set table session after)
  marked_on slots new size marked others own = record {
    size = size;
    marked = λ s lock h. elim (cases_eq s session) [
      | inl e ↦ subst (λ k. IsMarked new k lock) (sym e) (own lock (subst (λ l. Contains l lock) (ap (locks_of (slice_set table session after)) e ∙ locks_here) h))
      | inr ne ↦ others s lock ne (marked.marked s lock (subst (λ l. Contains l lock) (locks_apart s ne) h))
    ];
  }

  -- the same locks
  pub marked_same : (slots : List Holders) → AreMarked slots table → after.locks ≡ locks_of table session → AreMarked slots (slice_set table session after)
  marked_same slots marked same = marked_on slots slots marked.size marked (λ s lock ne m. m) (λ lock h. marked.marked session lock (subst (λ l. Contains l lock) same h))

  pub marked_more : (slots new : List Holders) (wants : List Want) → length new ≡ SLOTS → AreMarked slots table → KeepsMarks slots new → ((lock : Want) → Contains wants lock → IsMarked new session lock)
      → HasGained (locks_of table session) wants after.locks → AreMarked new (slice_set table session after)
  marked_more slots new wants size marked kept more gained = marked_on slots new size marked (λ s lock ne m. kept s lock m)
      (λ lock h. elim ((gained lock).0 h) [ inl old ↦ kept session lock (marked.marked session lock old) | inr want ↦ more lock want ])

  pub marked_less : (slots new : List Holders) → length new ≡ SLOTS → AreMarked slots table → IsUnmarkedBefore slots SLOTS session new → after ≡ nothing → AreMarked new (slice_set table session after)
  marked_less slots new size marked gone none = marked_on slots new size marked
      (λ s lock ne m. record {
        by_key = elim m.by_key [
          | inl range ↦ inl ((gone RANGES lock.mode s).1 (range, λ _. ne))
          | inr (p, there) ↦ inr (p, (gone (digest lock.index lock.interval.low) lock.mode s).1 (there, λ _. ne))
        ];
        among_all = (gone ALL lock.mode s).1 (m.among_all, λ _. ne);
      })
      (λ lock h. absurd (contains_none lock (subst (λ (p : SessionLocks). Contains p.locks lock) none h)))
