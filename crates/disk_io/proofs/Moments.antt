-- How a run of disk calls goes on. A law of a bound `D: Disk` is cited in an answer as `g.met.D.Disk.has_size`.
use Rattle.std.proofs.Common.{inl, inr, ⊎_elim, ℕ, List, arith, subst, sym}
use Rattle.disk_io.specs.Disk.{AreBytes, Elapses, LeavesOnly, Only, Torn, Follows}
use Rattle.disk_io.specs.Bytes.{torn_none}

module _ {D : Type 0} (moment : D → ℕ) (left_since : D → ℕ → List ℕ → Type 0) where
  -- before the first call
  pub started : (old : D) (P : List ℕ → Type 0) → ((c : List ℕ) → left_since old (moment old) c → P c) → LeavesOnly moment left_since old old P
  started old P here = record { later = omega arith; each = here; before = λ t c le left. inl left }

  -- one call more, after which a crash leaves what has P
  pub goes_on : (old mid new : D) (P may_leave : List ℕ → Type 0) → LeavesOnly moment left_since old mid P → Elapses (moment mid) (moment new) (left_since mid) (left_since new) may_leave
      → ((c : List ℕ) → may_leave c → P c) → LeavesOnly moment left_since old new P
  goes_on old mid new P may_leave so_far time here = record {
    later = omega (arith, so_far.later, time.later);
    each = λ c left. ⊎_elim (so_far.each c) (here c) (time.nothing_else (moment old) c so_far.later left);
    before = λ t c le left. ⊎_elim (so_far.before t c le) (λ now. inr (here c now)) (time.nothing_else t c (omega (arith, le, so_far.later)) left);
  }

  -- a run, and then another
  pub then_on : (old mid new : D) (P Q : List ℕ → Type 0) → LeavesOnly moment left_since old mid P → LeavesOnly moment left_since mid new Q
      → ((c : List ℕ) → Q c → P c) → LeavesOnly moment left_since old new P
  then_on old mid new P Q one two weaker = record {
    later = omega (arith, one.later, two.later);
    each = λ c left. ⊎_elim (one.each c) (weaker c) (two.before (moment old) c one.later left);
    before = λ t c le left. ⊎_elim (one.before t c le) (λ q. inr (weaker c q)) (two.before t c (omega (arith, le, one.later)) left);
  }

  -- a run that leaves what has Q leaves what has P, if that follows
  pub weaker_on : (old new : D) (P Q : List ℕ → Type 0) → LeavesOnly moment left_since old new Q → ((c : List ℕ) → Q c → P c) → LeavesOnly moment left_since old new P
  weaker_on old new P Q run weaker = record {
    later = run.later;
    each = λ c left. weaker c (run.each c left);
    before = λ t c le left. ⊎_elim (λ l. inl l) (λ q. inr (weaker c q)) (run.before t c le left);
  }

  -- what a crash leaves then
  pub torn_from : (may_leave : D → List ℕ → Type 0) (at n : ℕ) (s : List ℕ) (old new : D) → Only s (may_leave old) → Follows (Torn at n) (may_leave old) (may_leave new) → (c : List ℕ) → may_leave new c → Torn at n s c
  torn_from may_leave at n s old new only follows c left =
      let from = follows c left in
      subst (λ d. Torn at n d c) (only from.0 from.1) from.2

  -- a write, from a disk where no other waits for a sync
  pub first_write : (may_leave : D → List ℕ → Type 0) → ((disk : D) (c : List ℕ) → left_since disk (moment disk) c → may_leave disk c) → (at n : ℕ) (s : List ℕ) (old new : D)
      → AreBytes s → Only s (may_leave old) → Follows (Torn at n) (may_leave old) (may_leave new) → Elapses (moment old) (moment new) (left_since old) (left_since new) (may_leave new)
      → LeavesOnly moment left_since old new (Torn at n s)
  first_write may_leave only_now at n s old new all only follows time =
      goes_on old old new (Torn at n s) (may_leave new)
      (started old (Torn at n s) (λ c left. subst (Torn at n s) (sym (only c (only_now old c left))) (torn_none at n s all)))
      time (torn_from may_leave at n s old new only follows)

  -- a write and then a sync, from such a disk
  pub write_and_sync : (may_leave : D → List ℕ → Type 0) → ((disk : D) (c : List ℕ) → left_since disk (moment disk) c → may_leave disk c) → (at n : ℕ) (s : List ℕ) (old mid new : D)
      → AreBytes s → Only s (may_leave old) → Follows (Torn at n) (may_leave old) (may_leave mid) → Elapses (moment old) (moment mid) (left_since old) (left_since mid) (may_leave mid)
      → ((c : List ℕ) → may_leave new c → may_leave mid c) → Elapses (moment mid) (moment new) (left_since mid) (left_since new) (may_leave new)
      → LeavesOnly moment left_since old new (Torn at n s)
  write_and_sync may_leave only_now at n s old mid new all only follows time less later =
      goes_on old mid new (Torn at n s) (may_leave new)
      (first_write may_leave only_now at n s old mid all only follows time)
      later (λ c left. torn_from may_leave at n s old mid only follows c (less c left))
