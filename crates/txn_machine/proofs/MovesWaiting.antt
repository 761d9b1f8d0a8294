-- Pays that other sessions are in the way of: one that a column does not allow, one that waits, and one that closes a ring.
use Rattle.std.specs.Prelude.{◌≡◌, ◌≢◌, ℕ, ◌≤◌, ◌==◌, nat_lt, Bool, not, ◌&&◌, ◌||◌, T, List, [], ◌∷◌, length, ℤ, Option, is_some}
use Rattle.std.specs.List.{Contains}
use mathlib.Core.Path.{refl, sym, ap, subst, ◌∙◌}
use mathlib.Core.Logic.{inl, inr}
use Rattle.std.proofs.Common.{arith, ltb-true}
use Rattle.iv_types.specs.declared.lock.GroupDelta.{GroupDelta}
use Rattle.iv_types.specs.declared.lock.LockMode.{LockMode}
use Rattle.iv_types.specs.declared.lock.Want.{Want}
use Rattle.iv_types.specs.declared.value.Interval.{Interval}
use Rattle.iv_meaning.specs.Database.{Row}
use Rattle.iv_types.specs.declared.session.Sessions.{Sessions}
use Rattle.iv_types.specs.declared.refusal.EngineRefusal.TheVariants as refusal
use Rattle.iv_types.specs.Encoding.{IsHuge, is_huge}
use Rattle.iv_types.specs.Replies.{members}
use Rattle.iv_types.specs.Intervals.{IsAtMost}
use Rattle.row_codec.proofs.RangeLaws.{at_most_itself}
use Rattle.iv_meaning.specs.Escrow.{Account, IsAllowed, with_increment, over_sessions, paid, inf, sup}
use Rattle.iv_meaning.specs.Waits.{LeadsTo, IsFirstCycle}
use Rattle.txn_machine.specs.Acts as act
use Rattle.txn_machine.specs.Answers as answer
use Rattle.txn_machine.specs.Locks.{Locks, AreInTheWay, IsInTheWay, with_one}
use Rattle.txn_machine.specs.Waiting.{WaitsOn, Leads}
use Rattle.txn_machine.specs.Deltas.{columns_of, worth, place_of}
use Rattle.txn_machine.specs.Store.{locks_of, Takes, Loses}
use Rattle.txn_machine.specs.State.{counted}
use Rattle.txn_machine.specs.Steps.{Step, IsFree, IsBlocked, group_want, first_want, log_after}
use Rattle.txn_machine.proofs.Basics.{one_same, one_other}
use Rattle.txn_machine.proofs.Holding.{by_contains, contains_none}
use Rattle.txn_machine.proofs.PlainStates.{Plain, state_of, txn, is_session, each_to, each_of, some_of, is_nil, in_way, is_free, account_in, inf_in, sup_in, allows, all_below, is_ready}
use Rattle.txn_machine.proofs.Playing.{owes, bounds_in, ring_of, refuses_first, are_exact, waits_for, waits_with, waits_of, are_rung, may_read, may_put, put_wants_in, read_want, test, left_by, after, blocks, reads_later, puts_later, cancels, deadlocks}
use Rattle.txn_machine.proofs.Tabled.{get_is}
use Rattle.txn_machine.proofs.Testing.{is_true, holds, left_one, right_one, both, either, not_so, equal, not_equal, nil_is, not_nil, session_is, each_so, below_so, each_in, some_is, in_way_is, in_way_so}
use Rattle.txn_machine.proofs.MovesAlone.{Sorted, step, ready, free, may_read_so, wants_are, may_put_so, owes_so, account_is, allows_so, view_at}
use Rattle.iv_types.proofs.Fitting.{huge_so}

-- ---- a column that does not allow a delta

huge_test : (n : ℤ) → IsHuge n → T (is_huge n)
huge_test n h = holds (is_huge n) (huge_so n h)

pub inf_is : (a : Account) → inf_in a ≡ inf a
unfolding over_sessions
inf_is a = refl

sup_is : (a : Account) → sup_in a ≡ sup a
unfolding over_sessions
sup_is a = refl

-- exactly those are in the way
exact_is : (locks : ℕ → List Want) (i : ℕ) (wants : List Want) (sessions : Sessions) → T (are_exact locks i wants sessions) → AreInTheWay locks i wants sessions
exact_is locks i wants sessions h other =
    let there : Bool = each_of (λ j. is_session j && in_way locks i wants j) (members sessions) in
    let back : Bool = each_to 64 (λ j. not (in_way locks i wants j) || some_of (λ m. m == j) (members sessions)) in (
      λ c.
          let t = each_in (λ j. is_session j && in_way locks i wants j) (members sessions) other (left_one there back h) c in
          in_way_is locks i wants other (session_is other (left_one (is_session other) (in_way locks i wants other) t)) (right_one (is_session other) (in_way locks i wants other) t),
      λ w. elim (either (not (in_way locks i wants other)) (some_of (λ m. m == other) (members sessions)) (each_so 64 (λ j. not (in_way locks i wants j) || some_of (λ m. m == j) (members sessions)) other (right_one there back h) w.of_session.0 w.of_session.1)) [
        | inl n ↦ absurd (not_so (in_way locks i wants other) n (in_way_so locks i wants other w))
        | inr s ↦ let a = some_is (λ m. m == other) (members sessions) s in subst (Contains (members sessions)) (equal a.one other a.so) a.there
      ],
    )

-- something is owed
pub record Owed (l : List GroupDelta) : Type 0 where
  pub first : GroupDelta
  pub others : List GroupDelta
  pub is : l ≡ first ∷ others

owed_some : (l : List GroupDelta) → T (not (is_nil l)) → Owed l
owed_some [] h = absurd h
owed_some (d ∷ ds) h = record { first = d; others = ds; is = refl }

module _ (p : Plain) (i : ℕ) (sorted : Sorted p) (session : i ≤ 64) where
  -- the test tells whether a column allows a delta
  pub allows_back : (d : GroupDelta) (column : ℕ) → IsAllowed (account_in p (place_of d) column) i (worth column d) → T (allows p i d column)
  allows_back d column a =
      let k : Account = account_in p (place_of d) column in
      let b : Account = with_increment k i (worth column d) in
      both (is_huge (inf_in b)) (is_huge (sup_in b) && is_huge (paid (worth column d ∷ k.kept i)))
      (huge_test (inf_in b) (subst IsHuge (sym (inf_is b)) a.inf))
      (both (is_huge (sup_in b)) (is_huge (paid (worth column d ∷ k.kept i))) (huge_test (sup_in b) (subst IsHuge (sym (sup_is b)) a.sup)) (huge_test (paid (worth column d ∷ k.kept i)) a.sum))

  pub refuses_by : (column : ℕ) → T (owes p i) → (l : List GroupDelta) → (txn p i).owed ≡ l → T (refuses_first p i l column)
      → Step (state_of p) i act.Pay (bounds_in p l column) (state_of (left_by p i act.Pay (bounds_in p l column) (Takes (first_want (txn p i).owed) ∷ [])))
  refuses_by column o [] e h = absurd h
  refuses_by column o (d ∷ ds) e h =
      let is_there : Bool = is_some (view_at p i sorted session d) in
      let is_column : Bool = nat_lt column (length (columns_of d)) in
      let earlier : Bool = all_below column (allows p i d) in
      let h1 = right_one (is_free p i (group_want d ∷ [])) (is_there && (is_column && (not (allows p i d column) && earlier))) h in
      let h2 = right_one is_there (is_column && (not (allows p i d column) && earlier)) h1 in
      let h3 = right_one is_column (not (allows p i d column) && earlier) h2 in
      let a : Account = account_in p (place_of d) column in
      step p i sorted session act.Pay (answer.Refused (refusal.Escrow column (inf_in a) (sup_in a))) (Takes (first_want (txn p i).owed) ∷ [])
      (state_of (left_by p i act.Pay (bounds_in p (d ∷ ds) column) (Takes (first_want (txn p i).owed) ∷ [])))
      (owes_so p i sorted session o d ds e)
      (record {
        pays = record {
          free = subst (λ (l : List GroupDelta). IsFree (state_of p).store i (first_want l)) (sym e) (free p i sorted session (group_want d ∷ []) (left_one (is_free p i (group_want d ∷ [])) (is_there && (is_column && (not (allows p i d column) && earlier))) h));
          first = d;
          others = ds;
          owed_is = e;
        };
        there = ap is_some (get_is p.view (place_of d) sorted.view) ∙ is_true is_there (left_one is_there (is_column && (not (allows p i d column) && earlier)) h1);
        refused = record {
          is_column = ltb-true column (length (columns_of d)) (is_true is_column (left_one is_column (not (allows p i d column) && earlier) h2));
          refuses = λ k. not_so (allows p i d column) (left_one (not (allows p i d column)) earlier h3) (allows_back d column (subst (λ (x : Account). IsAllowed x i (worth column d)) (account_is p i sorted session (place_of d) column) k));
          first = λ c l. subst (λ (x : Account). IsAllowed x i (worth c d)) (sym (account_is p i sorted session (place_of d) c)) (allows_so p i sorted session d c (below_so column (allows p i d) c (right_one (not (allows p i d column)) earlier h3) l));
          low_is = inf_is a ∙ ap inf (sym (account_is p i sorted session (place_of d) column));
          high_is = sup_is a ∙ ap sup (sym (account_is p i sorted session (place_of d) column));
        };
        effects = refl;
      })
      refl

  -- ---- a step that waits

  -- what is held
  abbrev locks : Locks
  locks = locks_of (state_of p).store

  module _ (wants : List Want) where
    -- nobody is in the way of a session that waits for nothing
    waits_not : (t other : ℕ) → t ≢ i → p.of.waiting t ≡ [] → WaitsOn locks (with_one p.of.waiting i wants) t other → ⊥
    waits_not t other n e w =
        let m = subst (λ (l : List Want). IsInTheWay locks t l other) (one_other p.of.waiting i wants t n ∙ e) w in
        contains_none m.meet.want m.meet.wanted

    -- those that it waits for wait for nothing, so that no ring goes through it
    no_ring : (sessions : Sessions) → AreInTheWay locks i wants sessions → T (each_of (λ j. is_nil (p.of.waiting j)) (members sessions))
        → (others : List ℕ) → Leads (WaitsOn locks (with_one p.of.waiting i wants)) (i ∷ others) i → ⊥
    no_ring sessions are h [] l = l.not_itself refl
    no_ring sessions are h (t ∷ []) l =
        let w = subst (λ (x : List Want). IsInTheWay locks i x t) (one_same p.of.waiting i wants i refl) l.0 in
        waits_not t i w.not_itself (nil_is (p.of.waiting t) (each_in (λ j. is_nil (p.of.waiting j)) (members sessions) t h ((are t).1 w))) l.1
    no_ring sessions are h (t ∷ u ∷ us) l =
        let w = subst (λ (x : List Want). IsInTheWay locks i x t) (one_same p.of.waiting i wants i refl) l.0 in
        waits_not t u w.not_itself (nil_is (p.of.waiting t) (each_in (λ j. is_nil (p.of.waiting j)) (members sessions) t h ((are t).1 w))) l.1.0

    pub blocked_so : (sessions : Sessions) → T (waits_for p i wants sessions) → IsBlocked (state_of p) i wants sessions
    blocked_so sessions h =
        let exact : Bool = are_exact locks i wants sessions in
        let any : Bool = not (is_nil (members sessions)) in
        let none_waits : Bool = each_of (λ j. is_nil (p.of.waiting j)) (members sessions) in
        let more = right_one exact (any && none_waits) h in
        let are = exact_is locks i wants sessions (left_one exact (any && none_waits) h) in
        record {
          in_the_way = are;
          not_empty = not_nil (members sessions) (left_one any none_waits more);
          no_cycle = λ others r. no_ring sessions are (right_one any none_waits more) others r.leads;
        }

  -- what the session's pay asks for
  abbrev wants : List Want
  wants = first_want (txn p i).owed

  pub blocks_so : (sessions : Sessions) → T (test p i (blocks sessions)) → Step (state_of p) i act.Pay (answer.Blocked sessions) (state_of (after p i (blocks sessions)))
  blocks_so sessions h =
      let some : Bool = not (is_nil (txn p i).owed) in
      let waits : Bool = waits_for p i wants sessions in
      let more = right_one (owes p i) (some && waits) h in
      let o = owed_some (txn p i).owed (left_one some waits more) in
      step p i sorted session act.Pay (answer.Blocked sessions) [] (state_of (after p i (blocks sessions)))
      (owes_so p i sorted session (left_one (owes p i) (some && waits) h) o.first o.others o.is)
      (tt, blocked_so wants sessions (right_one some waits more), refl)
      refl

  pub reads_later_so : (index : ℕ) (interval : Interval) (lock : LockMode) (sessions : Sessions) → T (test p i (reads_later index interval lock sessions))
      → Step (state_of p) i (act.Fetch index interval lock) (answer.Blocked sessions) (state_of (after p i (reads_later index interval lock sessions)))
  reads_later_so index interval lock sessions h =
      let may : Bool = may_read p index lock in
      let waits : Bool = waits_for p i (read_want index interval lock) sessions in
      let more = right_one (is_ready p i) (may && waits) h in
      step p i sorted session (act.Fetch index interval lock) (answer.Blocked sessions) [] (state_of (after p i (reads_later index interval lock sessions)))
      (ready p i sorted session (left_one (is_ready p i) (may && waits) h), may_read_so p i sorted session index lock (left_one may waits more))
      (tt, blocked_so (read_want index interval lock) sessions (right_one may waits more), refl)
      refl

  pub puts_later_so : (number : ℕ) (key : List ℕ) (new : Option Row) (sessions : Sessions) → T (test p i (puts_later number key new sessions))
      → Step (state_of p) i (act.Put number key new) (answer.Blocked sessions) (state_of (after p i (puts_later number key new sessions)))
  puts_later_so number key new sessions h =
      let may : Bool = may_put p number key new in
      let waits : Bool = waits_for p i (put_wants_in p number key new) sessions in
      let more = right_one (is_ready p i) (may && waits) h in
      let same = wants_are p i sorted session number key new in
      step p i sorted session (act.Put number key new) (answer.Blocked sessions) [] (state_of (after p i (puts_later number key new sessions)))
      (ready p i sorted session (left_one (is_ready p i) (may && waits) h), may_put_so p i sorted session number key new (left_one may waits more))
      (tt, subst (λ (w : List Want). IsBlocked (state_of p) i w sessions) (sym same) (blocked_so (put_wants_in p number key new) sessions (right_one may waits more)), refl)
      (ap (λ (w : List Want). counted (state_of p) i (act.Put number key new) (answer.Blocked sessions) (state_of p).store w (state_of p).definitions (log_after (state_of p) i (act.Put number key new) (answer.Blocked sessions) [])) (sym same))

  pub cancels_so : T (test p i cancels) → Step (state_of p) i act.Cancel answer.Cancelled (state_of (after p i cancels))
  cancels_so h = step p i sorted session act.Cancel answer.Cancelled [] (state_of (after p i cancels)) (session_is i h) refl refl

  -- ---- a pay that would wait in a ring

  module _ (other : ℕ) (mine theirs : Sessions) where
    abbrev all : Bool
    all = each_to 64 (λ s. are_exact locks s (waits_with p i wants s) (waits_of i other mine theirs s))

    abbrev waits : ℕ → Sessions
    waits = waits_of i other mine theirs

    abbrev only : Bool
    only = each_of (λ m. m == other) (members (waits i))

    abbrev there : Bool
    there = some_of (λ m. m == other) (members (waits i))

    abbrev back : Bool
    back = some_of (λ m. m == i) (members (waits other))

    at_least : T (not (other == i)) → T only → (c : List ℕ) → LeadsTo waits (i ∷ c) i → 2 ≤ length (i ∷ c)
    at_least n h [] l = absurd (not_equal other i n (sym (equal i other (each_in (λ m. m == other) (members (waits i)) i h l))))
    at_least n h (x ∷ xs) l = omega arith

    least : T only → (c : List ℕ) → LeadsTo waits (i ∷ c) i → length (i ∷ c) ≡ 2 → IsAtMost (i ∷ other ∷ []) (i ∷ c)
    least h [] l e = absurd (omega (arith, e))
    least h (x ∷ []) l e =
        subst (λ (y : ℕ). IsAtMost (i ∷ other ∷ []) (i ∷ y ∷ [])) (sym (equal x other (each_in (λ m. m == other) (members (waits i)) x h l.0))) (at_most_itself (i ∷ other ∷ []))
    least h (x ∷ y ∷ ys) l e = absurd (omega (arith, e))

    first_cycle : T (not (other == i)) → T only → T there → T back → IsFirstCycle waits i (i ∷ other ∷ [])
    first_cycle n h t b =
        let to = some_is (λ m. m == other) (members (waits i)) t in
        let from = some_is (λ m. m == i) (members (waits other)) b in
        record {
          is = record {
            others = other ∷ [];
            begins = refl;
            different = (λ c. by_one c (not_equal other i n), (λ c. contains_none other c, tt));
            leads = (subst (Contains (members (waits i))) (equal to.one other to.so) to.there, subst (Contains (members (waits other))) (equal from.one i from.so) from.there);
          };
          shortest = λ c k. subst (λ (l : List ℕ). 2 ≤ length l) (sym k.begins) (at_least n h k.others (subst (λ (l : List ℕ). LeadsTo waits l i) k.begins k.leads));
          first = λ c k e. subst (IsAtMost (i ∷ other ∷ [])) (sym k.begins) (least h k.others (subst (λ (l : List ℕ). LeadsTo waits l i) k.begins k.leads) (ap length (sym k.begins) ∙ e));
        }
      where
        by_one : Contains (other ∷ []) i → other ≢ i → ⊥
        by_one c m = by_contains other [] i c m (contains_none i)

    pub deadlocks_so : T (test p i (deadlocks other mine theirs)) → Step (state_of p) i act.Pay (answer.Refused (refusal.Deadlock (ring_of i other))) (state_of (after p i (deadlocks other mine theirs)))
    deadlocks_so h =
        let some : Bool = not (is_nil (txn p i).owed) in
        let h1 = right_one (owes p i) (some && are_rung p i wants other mine theirs) h in
        let h2 = right_one some (are_rung p i wants other mine theirs) h1 in
        let h3 = right_one all (not (other == i) && (only && (there && back))) h2 in
        let h4 = right_one (not (other == i)) (only && (there && back)) h3 in
        let h5 = right_one only (there && back) h4 in
        let o = owed_some (txn p i).owed (left_one some (are_rung p i wants other mine theirs) h1) in
        step p i sorted session act.Pay (answer.Refused (refusal.Deadlock (ring_of i other))) (Loses ∷ []) (state_of (after p i (deadlocks other mine theirs)))
        (owes_so p i sorted session (left_one (owes p i) (some && are_rung p i wants other mine theirs) h) o.first o.others o.is) (
          tt,
          record {
            waits = waits;
            of_all = λ s is. exact_is locks s (waits_with p i wants s) (waits s) (each_so 64 (λ s. are_exact locks s (waits_with p i wants s) (waits_of i other mine theirs s)) s (left_one all (not (other == i) && (only && (there && back))) h2) is.0 is.1);
            closes = first_cycle (left_one (not (other == i)) (only && (there && back)) h3) (left_one only (there && back) h4) (left_one there back h5) (right_one there back h5);
          },
          refl,
        )
        refl
