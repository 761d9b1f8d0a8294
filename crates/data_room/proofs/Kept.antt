-- What is kept of the data, through what becomes of one session's transaction.
use Rattle.std.specs.Prelude.{◌≡◌, ◌≢◌, ℕ, ◌+◌, ◌-◌, ◌^◌, ◌<◌, ◌≤◌, min, List, [], map, Option, refl}
use Rattle.std.specs.List.{sum}
use mathlib.Core.Path.{sym, ap, subst, ◌∙◌}
use Rattle.std.proofs.Common.{arith}
use Rattle.table_laws.proofs.Stored.{by_session}
use Rattle.iv_meaning.specs.Escrow.{IsSession}
use Rattle.iv_meaning.specs.Schema.{Schema}
use Rattle.txn_machine.specs.Counts.{sum_over}
use Rattle.txn_machine.specs.Keeping.{Open}
use Rattle.txn_machine.specs.Locks.{with_one}
use Rattle.txn_machine.specs.Log.{Logged, room_kept, definition_entries}
use Rattle.txn_machine.proofs.Basics.{one_same, one_other}
use Rattle.txn_machine.proofs.LogSums.{sum_same, sum_none, sum_one}
use Rattle.data_room.specs.Reserved.{Where, share_at, kept_for, AreReserved, IsReserved, Moves}
use Rattle.data_room.specs.declared.room.DataRoom.{DataRoom}
use Rattle.data_room.proofs.Wheres.{where_always, where_map, where_two}

-- a share is part of the total
pub share_least : (room : DataRoom) (objects : Schema) (open_of : ℕ → Option Open) (logged : ℕ → Logged) (i : ℕ) → IsSession i → AreReserved room objects open_of logged
    → share_at room.shares i ≤ room.total
share_least room objects open_of logged i is a =
    let f : ℕ → ℕ = kept_for objects open_of logged in
    let moved : sum_over 64 (with_one f i 0) + f i ≡ sum_over 64 f + with_one f i 0 i = sum_one 64 f (with_one f i 0) i is.0 is.1 (λ j n. one_other f i 0 j n) in
    let none : with_one f i 0 i ≡ 0 = one_same f i 0 i refl in
    let own : share_at room.shares i ≡ f i = a.each i is in
    let all : room.total ≡ sum_over 64 f = a.total in
    omega (arith, moved, none, own, all)

-- each transaction keeps what it kept
pub reserved_alike : (room : DataRoom) (objects others : Schema) (open_of now : ℕ → Option Open) (logged then : ℕ → Logged) → ((j : ℕ) → IsSession j → kept_for others now then j ≡ kept_for objects open_of logged j)
    → IsReserved room objects open_of logged → IsReserved room others now then
reserved_alike room objects others open_of now logged then same r = where_map room.limit (λ a. record {
  each = λ j js. a.each j js ∙ sym (same j js);
  total =
      let sums : sum_over 64 (kept_for others now then) ≡ sum_over 64 (kept_for objects open_of logged) = sum_same 64 (kept_for objects open_of logged) (kept_for others now then) (λ j lo hi. same j (lo, hi)) in
      let all : room.total ≡ sum_over 64 (kept_for objects open_of logged) = a.total in
      omega (arith, sums, all);
}) r

module _ (objects : Schema) (open_of : ℕ → Option Open) (logged then : ℕ → Logged) (i : ℕ) (o : Option Open) (l : Logged) (is : (j : ℕ) → then j ≡ with_one logged i l j) where
  at_it : (j : ℕ) → j ≡ i → kept_for objects (with_one open_of i o) then j ≡ room_kept objects o l.ghosted
  at_it j e = λ x. room_kept objects (one_same open_of i o j e x) ((is j ∙ one_same logged i l j e) x).ghosted

  elsewhere : (j : ℕ) → j ≢ i → kept_for objects (with_one open_of i o) then j ≡ kept_for objects open_of logged j
  elsewhere j n = λ x. room_kept objects (one_other open_of i o j n x) ((is j ∙ one_other logged i l j n) x).ghosted

  -- one session's transaction keeps what it kept
  pub reserved_one : (room : DataRoom) → room_kept objects o l.ghosted ≡ kept_for objects open_of logged i
      → IsReserved room objects open_of logged → IsReserved room objects (with_one open_of i o) then
  reserved_one room same r = reserved_alike room objects objects open_of (with_one open_of i o) logged then
      (λ j js. by_session j i (λ e. at_it j e ∙ (same ∙ ap (kept_for objects open_of logged) (sym e))) (λ n. elsewhere j n)) r

  -- it keeps this much
  pub reserved_moved : (room after : DataRoom) → IsSession i → after.limit ≡ room.limit → IsReserved room objects open_of logged
      → Where room.limit (Moves room after i (room_kept objects o l.ghosted)) → IsReserved after objects (with_one open_of i o) then
  reserved_moved room after session limit r moves =
      subst (λ m. Where m (AreReserved after objects (with_one open_of i o) then)) (sym limit)
      (where_two room.limit (λ (a : AreReserved room objects open_of logged) (m : Moves room after i (room_kept objects o l.ghosted)). record {
        each = λ j js. by_session j i
            (λ e. ap (share_at after.shares) e ∙ (m.own ∙ sym (at_it j e)))
            (λ n. m.others j n ∙ (a.each j js ∙ sym (elsewhere j n)));
        total =
            let f : ℕ → ℕ = kept_for objects open_of logged in
            let g : ℕ → ℕ = kept_for objects (with_one open_of i o) then in
            let moved : sum_over 64 g + f i ≡ sum_over 64 f + g i = sum_one 64 f g i session.0 session.1 (λ j n. elsewhere j n) in
            let new : g i ≡ room_kept objects o l.ghosted = at_it i refl in
            let old : share_at room.shares i ≡ f i = a.each i session in
            let was : room.total ≡ sum_over 64 f = a.total in
            let now : after.total ≡ room.total + room_kept objects o l.ghosted - share_at room.shares i = m.total in
            omega (arith, moved, new, old, was, now);
      }) r moves)

-- more is kept for a session
pub aside_moves : (was old room : DataRoom) (i bytes kept : ℕ) → old ≡ was → Where was.limit ((share_at was.shares i + bytes ≡ kept) × (share_at was.shares i ≤ was.total) × (was.total + bytes < 2 ^ 64))
    → (share_at old.shares i ≤ old.total → old.total + bytes < 2 ^ 64 → share_at room.shares i ≡ share_at old.shares i + bytes) → ((j : ℕ) → j ≢ i → share_at room.shares j ≡ share_at old.shares j) → (old.total + bytes < 2 ^ 64 → room.total ≡ old.total + bytes) → Where was.limit (Moves was room i kept)
aside_moves was old room i bytes kept same =
    subst (λ (x : DataRoom). Where was.limit ((share_at was.shares i + bytes ≡ kept) × (share_at was.shares i ≤ was.total) × (was.total + bytes < 2 ^ 64))
    → (share_at x.shares i ≤ x.total → x.total + bytes < 2 ^ 64 → share_at room.shares i ≡ share_at x.shares i + bytes) → ((j : ℕ) → j ≢ i → share_at room.shares j ≡ share_at x.shares j) → (x.total + bytes < 2 ^ 64 → room.total ≡ x.total + bytes) → Where was.limit (Moves was room i kept)) (sym same)
    (λ fits own others total. where_map was.limit (λ (f : (share_at was.shares i + bytes ≡ kept) × (share_at was.shares i ≤ was.total) × (was.total + bytes < 2 ^ 64)). record {
      own = own f.1 f.2 ∙ f.0;
      others = others;
      total = let now = total f.2 in let is : share_at was.shares i + bytes ≡ kept = f.0 in omega (arith, now, is);
    }) fits)

-- so many bytes that were kept for a session are given back
pub back_moves : (was old room : DataRoom) (i bytes kept : ℕ) → old ≡ was → Where was.limit ((kept + bytes ≡ share_at was.shares i) × (share_at was.shares i ≤ was.total))
    → share_at room.shares i ≡ share_at old.shares i - bytes → ((j : ℕ) → j ≢ i → share_at room.shares j ≡ share_at old.shares j) → room.total ≡ old.total - (share_at old.shares i - share_at room.shares i) → Where was.limit (Moves was room i kept)
back_moves was old room i bytes kept same =
    subst (λ (x : DataRoom). Where was.limit ((kept + bytes ≡ share_at was.shares i) × (share_at was.shares i ≤ was.total))
    → share_at room.shares i ≡ share_at x.shares i - bytes → ((j : ℕ) → j ≢ i → share_at room.shares j ≡ share_at x.shares j) → room.total ≡ x.total - (share_at x.shares i - share_at room.shares i) → Where was.limit (Moves was room i kept)) (sym same)
    (λ fits own others total. where_map was.limit (λ (f : (kept + bytes ≡ share_at was.shares i) × (share_at was.shares i ≤ was.total)). record {
      own = let now = own in let is : kept + bytes ≡ share_at was.shares i = f.0 in let e : share_at room.shares i ≡ kept = omega (arith, now, is) in e;
      others = others;
      total = let now = own in let all = total in let is : kept + bytes ≡ share_at was.shares i = f.0 in let le : share_at was.shares i ≤ was.total = f.1 in let e : room.total ≡ was.total + kept - share_at was.shares i = omega (arith, now, all, is, le) in e;
    }) fits)

-- all that was kept for a session is given back
pub settled_moves : (was old room : DataRoom) (i : ℕ) → old ≡ was → share_at room.shares i ≡ 0 → ((j : ℕ) → j ≢ i → share_at room.shares j ≡ share_at old.shares j) → room.total ≡ old.total - share_at old.shares i → Where was.limit (Moves was room i 0)
settled_moves was old room i same own others total =
    where_always was.limit (subst (λ x. Moves x room i 0) same (record { own = own; others = others; total = let now = total in omega (arith, now) }))

-- one more time the same
pub same_again : {X : Type 0} (f : ℕ → X) (i : ℕ) → with_one f i (f i) ≡ f
same_again f i = λ k j. at_each j k
  where
    at_each : (j : ℕ) → with_one f i (f i) j ≡ f j
    at_each j = by_session j i (λ e. one_same f i (f i) j e ∙ ap f (sym e)) (λ n. one_other f i (f i) j n)

-- what a session kept is given back of which its transaction keeps so much less
module _ (objects : Schema) (open_of : ℕ → Option Open) (logged then : ℕ → Logged) (i : ℕ) (o : Option Open) (l : Logged) (is : (j : ℕ) → then j ≡ with_one logged i l j) (room was after : DataRoom) where
  pub reserved_back : IsSession i → IsReserved room objects open_of logged → was ≡ room → after.limit ≡ was.limit → (bytes less : ℕ) → bytes ≡ min less (2 ^ 64 - 1) → room_kept objects o l.ghosted + less ≡ kept_for objects open_of logged i
      → share_at was.shares i < 2 ^ 64 → share_at after.shares i ≡ share_at was.shares i - bytes → ((j : ℕ) → j ≢ i → share_at after.shares j ≡ share_at was.shares j) → after.total ≡ was.total - (share_at was.shares i - share_at after.shares i)
      → IsReserved after objects (with_one open_of i o) then
  reserved_back session r same limit bytes less bytes_are fewer small own others total =
      reserved_moved objects open_of logged then i o l is room after session (limit ∙ ap (λ (x : DataRoom). x.limit) same) r
      (back_moves room was after i bytes (room_kept objects o l.ghosted) same
      (where_map room.limit (λ (a : AreReserved room objects open_of logged).
      let mine : share_at room.shares i ≡ kept_for objects open_of logged i = a.each i session in
      let few : share_at room.shares i < 2 ^ 64 = subst (λ (x : DataRoom). share_at x.shares i < 2 ^ 64) same small in
      let all : room_kept objects o l.ghosted + bytes ≡ share_at room.shares i = omega (arith, mine, few, bytes_are, fewer) in
      (all, share_least room objects open_of logged i session a)) r)
      own others total)

-- nothing is kept at first
pub reserved_none : (room : DataRoom) (objects : Schema) (open_of : ℕ → Option Open) (logged : ℕ → Logged) → room.total ≡ 0 → ((j : ℕ) → share_at room.shares j ≡ 0) → ((j : ℕ) → kept_for objects open_of logged j ≡ 0)
    → IsReserved room objects open_of logged
reserved_none room objects open_of logged total shares none = where_always room.limit (record {
  each = λ j js. shares j ∙ sym (none j);
  total = let sums : sum_over 64 (kept_for objects open_of logged) ≡ 0 = sum_none 64 (kept_for objects open_of logged) (λ j lo hi. none j) in omega (arith, sums, total);
})
