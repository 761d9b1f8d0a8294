-- Answers that states of the example refuse.
use Rattle.std.specs.Prelude.{◌≡◌, ◌≢◌, ◌+◌, ◌-◌, ◌≤◌, ◌<◌, ℕ, ◌==◌, nat_lt, int_le, Bool, false, not, ◌&&◌, T, List, [], ◌∷◌, length, ℤ, pos, Option, Some, None, is_some}
use Rattle.std.specs.List.{AllZip, Contains}
use Rattle.std.specs.Option.{unwrap_or}
use Rattle.std.specs.FinMap.{empty, find}
use mathlib.Core.Path.{refl, sym, ap, subst, ◌∙◌}
use mathlib.Core.Logic.{inl, inr}
use Rattle.std.proofs.Common.{arith, ltb-true}
use Rattle.std.proofs.lemmas.Option.{none-some}
use Rattle.iv_types.specs.declared.value.Interval.{Interval}
use Rattle.iv_types.specs.declared.lock.Want.{Want}
use Rattle.iv_types.specs.declared.lock.GroupDelta.{GroupDelta}
use Rattle.iv_types.specs.declared.session.Sessions.{Sessions}
use Rattle.iv_types.specs.declared.session.Cycle.{Cycle}
use Rattle.iv_types.specs.declared.lock.LockMode.{LockMode}
use Rattle.iv_types.specs.declared.lock.LockMode.TheVariants.{Share, Exclusive}
use Rattle.iv_types.specs.declared.statement.Mode.{Mode}
use Rattle.iv_types.specs.declared.statement.Mode.TheVariants.{Serial, Snapshot}
use Rattle.iv_types.specs.declared.refusal.EngineRefusal.TheVariants as refusal
use Rattle.iv_types.specs.Intervals.{point}
use Rattle.iv_types.specs.Replies.{members}
use Rattle.table_laws.specs.Place.{place_cmp}
use Rattle.table_laws.specs.Table.{rows_where}
use Rattle.iv_meaning.specs.Database.{Row, key_of}
use Rattle.iv_meaning.specs.Escrow.{Account, IsAllowed, IsSession, inf}
use Rattle.iv_meaning.specs.Waits.{AreDifferent, nobody, sessions_of}
use Rattle.txn_machine.specs.Acts as act
use Rattle.txn_machine.specs.Acts.{Act}
use Rattle.txn_machine.specs.Answers as answer
use Rattle.txn_machine.specs.Answers.{Answer}
use Rattle.txn_machine.specs.Locks.{Locks, IsInTheWay, with_one}
use Rattle.txn_machine.specs.Waiting.{WaitsOn}
use Rattle.txn_machine.specs.Deltas.{place_of, columns_of, worth}
use Rattle.txn_machine.specs.Keeping.{Open, idle}
use Rattle.txn_machine.specs.Stored.{IsShown, is_shown}
use Rattle.txn_machine.specs.Store.{opened, locks_of, Effect}
use Rattle.txn_machine.specs.Log.{unlimited}
use Rattle.txn_machine.specs.State.{State, opened_state}
use Rattle.txn_machine.specs.May.{MayAct, IsReady}
use Rattle.txn_machine.specs.Steps.{Says, history_bytes, first_want}
use Rattle.txn_machine.specs.Counts.{entry_size, most_of_history}
use Rattle.txn_machine.specs.Example.{sale, by_shop, shop_database, one_sale, all_keys, most, shop_row, two_three_one, Refuses, Lead, MissesAtFirst, MissesOwing, MissesPaid, MissesBothPaid, MissesUndone, MissesEnded, MissesDeleted, MissesNear, MissesCrossing, MissesRing, LaterMisses}
use Rattle.txn_machine.proofs.Basics.{one_same, one_other}
use Rattle.txn_machine.proofs.Holding.{by_contains, contains_none}
use Rattle.txn_machine.proofs.Moving.{may_of}
use Rattle.txn_machine.proofs.PlainStates.{shop_schema, Plain, state_of, start, txn, is_session, is_nil, each_of, some_of, allows, account_in, inf_in, in_way, is_cleanable}
use Rattle.txn_machine.proofs.Playing.{Turn, fine, told, played, begins, undoes}
use Rattle.txn_machine.proofs.Tabled.{entries_are, get_is}
use Rattle.txn_machine.proofs.Testing.{left_one, right_one, equal, not_equal, not_so, is_true, some_is, nil_is, not_nil, session_is, in_way_is, in_way_so}
use Rattle.txn_machine.proofs.MovesAlone.{Sorted, in_order, number_is, account_is}
use Rattle.txn_machine.proofs.MovesWaiting.{inf_is, allows_back}
use Rattle.txn_machine.proofs.MovesCleaning.{none_cleanable}
use Rattle.txn_machine.proofs.Played.{start_is, run_to}
use Rattle.txn_machine.proofs.Replays.{turn, one_putting, one_paying, both_paying, both_inserting, one_undoing, one_deleting, other_near, one_crossing, three_crossing}

-- a step of an engine that runs is one that it says
pub refuses : (s : State) (session : ℕ) (a : Act) (said : Answer) → s.stop ≡ None → ((es : List Effect) → MayAct s.store session a → Says s session a said es → ⊥) → Refuses s session a said
refuses s session a said runs h after step = elim step.does [
  | inl d ↦ h d.effects (may_of s session a d.runs step.may.1) d.says
  | inr t ↦ none-some t.stop (sym runs ∙ t.stopped)
]

-- ---- by tests of the state

module _ (p : Plain) (i : ℕ) (sorted : Sorted p) where
  refused : (a : Act) (said : Answer) → ((es : List Effect) → MayAct (state_of p).store i a → Says (state_of p) i a said es → ⊥) → Refuses (state_of p) i a said
  refused a said h = refuses (state_of p) i a said sorted.runs h

  -- the session's transaction is the one that is open
  same : {X : Type 0} (part : Open → X) (t : Open) → p.of.store.open_of i ≡ Some t → part (txn p i) ≡ part t
  same part t e = ap (λ (o : Option Open). part (unwrap_or o idle)) e

  owes_still : T (not (is_nil (txn p i).owed)) → (mode : Mode) → IsReady (state_of p).store i mode → ⊥
  owes_still h mode r = not_nil (txn p i).owed h (same (λ t. t.owed) r.goes_on.transaction r.goes_on.is_open ∙ r.owes_nothing)

  -- it owes
  commits_not : T (not (is_nil (txn p i).owed)) → (said : Answer) → Refuses (state_of p) i act.Commit said
  commits_not h said = refused act.Commit said (λ es may s. elim may [ inl r ↦ owes_still h Serial r | inr r ↦ owes_still h Snapshot r ])

  -- it owes nothing
  owes_not : T (is_nil (txn p i).owed) → (said : Answer) → Refuses (state_of p) i act.Pay said
  owes_not h said = refused act.Pay said (λ es may s. absurd (cc (sym (nil_is (txn p i).owed h) ∙ (same (λ t. t.owed) may.goes_on.transaction may.goes_on.is_open ∙ may.owed_is))))

  -- what it owes is coming back
  pays_not_again : T (not ((txn p i).back == 0)) → (said : Answer) → Refuses (state_of p) i act.Pay said
  pays_not_again h said = refused act.Pay said (λ es may s. not_equal (txn p i).back 0 h (same (λ t. t.back) may.goes_on.transaction may.goes_on.is_open ∙ may.none_back))

  -- no row of a view is stored
  pays_not : T (is_nil p.view) → (left : ℕ) → Refuses (state_of p) i act.Pay (answer.Paid left)
  pays_not h left = refused act.Pay (answer.Paid left) (λ es may s.
      absurd (cc (sym s.there ∙ ap is_some (get_is p.view (place_of s.pays.first) sorted.view ∙ ap (find place_cmp (place_of s.pays.first)) (nil_is p.view h)))))

  -- it keeps a step
  ends_not : T (not (is_nil (txn p i).kept)) → (said : Answer) → Refuses (state_of p) i act.End said
  ends_not h said = refused act.End said (λ es may s. not_nil (txn p i).kept h (same (λ t. t.kept) may.0.transaction may.0.is_open ∙ may.1))

  -- another session is in the way
  fetches_not : (number : ℕ) (interval : Interval) (mode : LockMode) (j : ℕ)
      → T (is_session j && in_way (locks_of p.of.store) i (record { index = number; interval = interval; mode = mode } ∷ []) j)
      → (rows : List Row) → Refuses (state_of p) i (act.Fetch number interval mode) (answer.Rows rows)
  fetches_not number interval mode j h rows =
      let wants : List Want = record { index = number; interval = interval; mode = mode } ∷ [] in
      let clashes : Bool = in_way (locks_of p.of.store) i wants j in
      refused (act.Fetch number interval mode) (answer.Rows rows) (λ es may s.
      s.free j (in_way_is (locks_of p.of.store) i wants j (session_is j (left_one (is_session j) clashes h)) (right_one (is_session j) clashes h)))

  -- ---- pays that other sessions are in the way of

  -- what is held
  abbrev locks : Locks
  locks = locks_of (state_of p).store

  -- what the session's pay asks for
  abbrev asks : List Want
  asks = first_want (txn p i).owed

  -- one is told that is not in the way
  blocks_not : (sessions : Sessions) (j : ℕ) → T (some_of (λ m. m == j) (members sessions)) → T (not (in_way locks i asks j)) → Refuses (state_of p) i act.Pay (answer.Blocked sessions)
  blocks_not sessions j told_one h = refused act.Pay (answer.Blocked sessions) (λ es may s.
      let a = some_is (λ m. m == j) (members sessions) told_one in
      not_so (in_way locks i asks j) h (in_way_so locks i asks j ((s.1.in_the_way j).0 (subst (Contains (members sessions)) (equal a.one j a.so) a.there))))

  blocks_some : Refuses (state_of p) i act.Pay (answer.Blocked nobody)
  blocks_some = refused act.Pay (answer.Blocked nobody) (λ es may s. s.1.not_empty refl)

  -- the other session waits for this one, which would wait for it
  abbrev wait_both : ℕ → Bool
  wait_both j = (is_session i && is_session j) && (not (j == i) && (in_way locks i asks j && in_way locks j (p.of.waiting j) i))

  module _ (j : ℕ) (h : T (wait_both j)) where
    abbrev sessions_are : Bool
    sessions_are = is_session i && is_session j

    abbrev both_in_way : Bool
    both_in_way = in_way locks i asks j && in_way locks j (p.of.waiting j) i

    h1 : T (not (j == i) && both_in_way)
    h1 = right_one sessions_are (not (j == i) && both_in_way) h

    apart : j ≢ i
    apart = not_equal j i (left_one (not (j == i)) both_in_way h1)

    here_is : IsSession i
    here_is = session_is i (left_one (is_session i) (is_session j) (left_one sessions_are (not (j == i) && both_in_way) h))

    there_is : IsSession j
    there_is = session_is j (right_one (is_session i) (is_session j) (left_one sessions_are (not (j == i) && both_in_way) h))

    abbrev waiting : Locks
    waiting = with_one p.of.waiting i asks

    waits : WaitsOn locks waiting i j
    waits = subst (λ (l : List Want). IsInTheWay locks i l j) (sym (one_same p.of.waiting i asks i refl))
        (in_way_is locks i asks j there_is (left_one (in_way locks i asks j) (in_way locks j (p.of.waiting j) i) (right_one (not (j == i)) both_in_way h1)))

    waits_back : WaitsOn locks waiting j i
    waits_back = subst (λ (l : List Want). IsInTheWay locks j l i) (sym (one_other p.of.waiting i asks j apart))
        (in_way_is locks j (p.of.waiting j) i here_is (right_one (in_way locks i asks j) (in_way locks j (p.of.waiting j) i) (right_one (not (j == i)) both_in_way h1)))

    two_different : AreDifferent (i ∷ j ∷ [])
    two_different = (λ c. by_contains j [] i c apart (contains_none i), (λ c. contains_none j c, tt))

    waits_not : (sessions : Sessions) → Refuses (state_of p) i act.Pay (answer.Blocked sessions)
    waits_not sessions = refused act.Pay (answer.Blocked sessions) (λ es may s. s.1.no_cycle (j ∷ []) (record { different = two_different; leads = (waits, waits_back) }))

    longer_not : (cycle : Cycle) → T (nat_lt 2 (length (sessions_of cycle))) → Refuses (state_of p) i act.Pay (answer.Refused (refusal.Deadlock cycle))
    longer_not cycle long = refused act.Pay (answer.Refused (refusal.Deadlock cycle)) (λ es may s.
        let most_two : length (sessions_of cycle) ≤ 2 = s.1.closes.shortest (i ∷ j ∷ []) (record {
          others = j ∷ [];
          begins = refl;
          different = two_different;
          leads = ((s.1.of_all i here_is j).1 waits, (s.1.of_all j there_is i).1 waits_back);
        }) in
        let more : 2 < length (sessions_of cycle) = ltb-true 2 (length (sessions_of cycle)) (is_true (nat_lt 2 (length (sessions_of cycle))) long) in
        omega (arith, most_two, more))

  -- ---- pays that a column does not allow

  -- the first of some deltas is not allowed in this column
  abbrev not_in : ℕ → List GroupDelta → Bool
  not_in column [] = false
  not_in column (d ∷ ds) = nat_lt column (length (columns_of d)) && not (allows p i d column)

  -- the low bound of its group there
  abbrev low_in : ℕ → List GroupDelta → ℤ
  low_in column [] = pos 0
  low_in column (d ∷ ds) = inf_in (account_in p (place_of d) column)

  module _ (session : i ≤ 64) (column : ℕ) where
    allows_not : T (not_in column (txn p i).owed) → (left : ℕ) → Refuses (state_of p) i act.Pay (answer.Paid left)
    allows_not h left = refused act.Pay (answer.Paid left) (λ es may s.
        let d : GroupDelta = s.pays.first in
        let is : Bool = nat_lt column (length (columns_of d)) in
        let t : T (is && not (allows p i d column)) = subst (λ l. T (not_in column l)) s.pays.owed_is h in
        not_so (allows p i d column) (right_one is (not (allows p i d column)) t)
        (allows_back p i sorted session d column (subst (λ (x : Account). IsAllowed x i (worth column d)) (account_is p i sorted session (place_of d) column)
        (s.allowed column (ltb-true column (length (columns_of d)) (is_true is (left_one is (not (allows p i d column)) t)))))))

    -- another low bound is told
    bounds_not : (low high : ℤ) → T (not (int_le low (low_in column (txn p i).owed))) → T (int_le low low) → Refuses (state_of p) i act.Pay (answer.Refused (refusal.Escrow column low high))
    bounds_not low high other itself = refused act.Pay (answer.Refused (refusal.Escrow column low high)) (λ es may s.
        let d : GroupDelta = s.pays.first in
        let low_is : low ≡ low_in column (txn p i).owed =
        s.refused.low_is ∙ (ap inf (account_is p i sorted session (place_of d) column) ∙ (sym (inf_is (account_in p (place_of d) column)) ∙ ap (low_in column) (sym s.pays.owed_is))) in
        not_so (int_le low low) (subst (λ x. T (not (int_le low x))) (sym low_is) other) itself)

-- none of the stored rows may be removed
cleans_not : (p : Plain) (sorted : Sorted p) → T (each_of (λ e. not (is_cleanable p e.0)) p.view) → Refuses (state_of p) 0 act.Clean (answer.Cleaned 1)
cleans_not p sorted h = refused p 0 sorted act.Clean (answer.Cleaned 1) (λ es may s. none_cleanable p 0 sorted (omega arith) h s.0 s.1.is)

-- ---- at the opened state

abbrev first : State
first = opened_state unlimited (opened shop_database empty)

pub misses_at_first : MissesAtFirst
misses_at_first = record {
  wrong_number = refuses first 1 (act.Begin Serial) (answer.Begun 3 2) refl (λ es may h. let e : 3 ≡ 2 = h.number_is in omega (arith, e));
  wrong_definitions = refuses first 1 (act.Begin Serial) (answer.Begun 2 1) refl (λ es may h. let e : 1 ≡ 2 = h.defs_are in omega (arith, e));
  full_history = λ kept need. refuses first 1 (act.Begin Serial) (answer.Refused (refusal.HistoryFull kept need)) refl (λ es may h.
      let k : kept ≡ history_bytes first = h.2.kept_is in
      let n : need ≡ entry_size = h.1 in
      let full : most_of_history < kept + need = h.2.full in
      omega (arith, k, n, full));
  never_began = λ said. refuses first 1 act.Commit said refl (λ es may h. elim may [ inl r ↦ none-some r.goes_on.transaction r.goes_on.is_open | inr r ↦ none-some r.goes_on.transaction r.goes_on.is_open ]);
  no_catalog = refuses first 1 act.Defs (answer.Defs []) refl (λ es may h. absurd (cc h.0));
  no_ghost = subst (λ (s : State). Refuses s 0 act.Clean (answer.Cleaned 1)) start_is (cleans_not start (in_order start tt) tt);
  never_stopped = λ n. refuses first 1 act.Defs (answer.Refused (refusal.Stopped n)) refl (λ es may h. h);
  full_log = λ used reserved need. refuses first 1 (act.Begin Serial) (answer.Refused (refusal.LogFull used reserved need)) refl (λ es may h. h.3.full);
  wrong_save = refuses first 0 act.Checkpoint (answer.Saved 3) refl (λ es may h. let e : 3 ≡ 2 = h.1 in omega (arith, e));
}

-- ---- at later states

abbrev one_put : Plain
one_put = played start (one_putting [])

owing : MissesOwing (state_of one_put)
owing = record {
  never_commits = commits_not one_put 1 (in_order one_put tt) tt;
  no_row = pays_not one_put 1 (in_order one_put tt) tt;
  same_row = fetches_not one_put 2 (in_order one_put tt) 1 (point (key_of sale one_sale)) Exclusive 1 tt;
}

abbrev one_paid : Plain
one_paid = played start (one_paying [])

paid : MissesPaid (state_of one_paid)
paid = record {
  not_read = fetches_not one_paid 2 (in_order one_paid tt) 2 all_keys Share 1 tt;
  not_cleaned = cleans_not one_paid (in_order one_paid tt) tt;
}

abbrev two_paid : Plain
two_paid = played start (both_paying [])

both_paid : MissesBothPaid (state_of two_paid)
both_paid = record {
  nothing_owed = owes_not two_paid 2 (in_order two_paid tt) tt;
  wrong_number = refused two_paid 2 (in_order two_paid tt) act.Commit (answer.Committed 4) (λ es may h.
      let e : 4 ≡ 3 = h.0 ∙ ap (λ n. n + 1) (sym (number_is two_paid 2 (in_order two_paid tt) (omega arith))) in absurd (omega (arith, e)));
}

abbrev pay_undone : Plain
pay_undone = played start (both_inserting (turn 1 undoes ∷ []))

undone : MissesUndone (state_of pay_undone)
undone = record {
  not_again = pays_not_again pay_undone 1 (in_order pay_undone tt) tt;
  not_all = ends_not pay_undone 1 (in_order pay_undone tt) tt;
}

abbrev all_undone : Plain
all_undone = played start (one_undoing (turn 3 (begins Serial) ∷ []))

ended : MissesEnded (state_of all_undone)
ended = record {
  not_lost = refused all_undone 3 (in_order all_undone tt) (act.Fetch 2 all_keys Share) (answer.Rows []) (λ es may h.
      subst (λ l. AllZip (IsShown shop_schema by_shop) (rows_where (is_shown 2 all_keys) l) []) (entries_are all_undone.view (in_order all_undone tt).view) h.found);
}

abbrev one_gone : Plain
one_gone = played start (one_deleting [])

deleted : MissesDeleted (state_of one_gone)
deleted = record {
  not_listed = refused one_gone 1 (in_order one_gone tt) (act.Fetch 2 all_keys Share) (answer.Rows (shop_row 7 0 0 ∷ [])) (λ es may h.
      subst (λ l. AllZip (IsShown shop_schema by_shop) (rows_where (is_shown 2 all_keys) l) (shop_row 7 0 0 ∷ [])) (entries_are one_gone.view (in_order one_gone tt).view) h.found);
}

abbrev end_near : Plain
end_near = played start (other_near [])

near : MissesNear (state_of end_near)
near = record {
  not_paid = allows_not end_near 2 (in_order end_near tt) (omega arith) 1 tt;
  not_after = bounds_not end_near 2 (in_order end_near tt) (omega arith) 1 (pos (most - 5)) (pos (most + 3)) tt tt;
}

abbrev one_crossed : Plain
one_crossed = played start (one_crossing [])

crossing : MissesCrossing (state_of one_crossed)
crossing = record {
  one_too_many = blocks_not one_crossed 1 (in_order one_crossed tt) (record { bits = 6 }) 3 tt tt;
  nobody_is = blocks_some one_crossed 1 (in_order one_crossed tt);
}

abbrev three_crossed : Plain
three_crossed = played start (three_crossing [])

ring : MissesRing (state_of three_crossed)
ring = record {
  not_waiting = waits_not three_crossed 2 (in_order three_crossed tt) 1 tt;
  not_longer = longer_not three_crossed 2 (in_order three_crossed tt) 1 tt two_three_one tt;
}

-- what is refused where these moves lead
leads : (P : State → Type 0) (ts : List Turn) → T (fine start ts) → P (state_of (played start ts)) → Lead (told start ts) P
leads P ts h misses = (state_of (played start ts), run_to ts h, misses)

pub later_misses : LaterMisses
later_misses = record {
  owing = leads MissesOwing (one_putting []) tt owing;
  paid = leads MissesPaid (one_paying []) tt paid;
  both_paid = leads MissesBothPaid (both_paying []) tt both_paid;
  undone = leads MissesUndone (both_inserting (turn 1 undoes ∷ [])) tt undone;
  ended = leads MissesEnded (one_undoing (turn 3 (begins Serial) ∷ [])) tt ended;
  deleted = leads MissesDeleted (one_deleting []) tt deleted;
  near = leads MissesNear (other_near []) tt near;
  crossing = leads MissesCrossing (one_crossing []) tt crossing;
  ring = leads MissesRing (three_crossing []) tt ring;
}
