-- Which answers exclude each other, and which are always there.
use Rattle.std.specs.Prelude.{◌≡◌, ◌⊎◌, ℕ, ◌+◌, List, [], ◌∷◌, length, None}
use Rattle.std.specs.List.{Contains}
use mathlib.Core.Path.{refl, sym, ap, subst, ◌∙◌}
use mathlib.Core.Logic.{inl, inr}
use Rattle.std.proofs.lemmas.Option.{none-some}
use Rattle.iv_types.specs.declared.statement.Mode.TheVariants.{Serial, Snapshot}
use Rattle.iv_types.specs.declared.lock.Want.{Want}
use Rattle.iv_types.specs.declared.session.Sessions.{Sessions}
use Rattle.iv_types.specs.declared.refusal.EngineRefusal.TheVariants as refusal
use Rattle.iv_types.specs.Replies.{members}
use Rattle.iv_meaning.specs.Escrow.{IsSession}
use Rattle.iv_meaning.specs.Waits.{LeadsTo, AreDifferent, IsCycle, sessions_of}
use Rattle.txn_machine.specs.Acts as act
use Rattle.txn_machine.specs.Acts.{Act}
use Rattle.txn_machine.specs.Answers as answer
use Rattle.txn_machine.specs.Answers.{Answer}
use Rattle.txn_machine.specs.Locks.{Locks, with_one, IsInTheWay, AreInTheWay, IsDeadlock}
use Rattle.txn_machine.specs.Waiting.{WaitsOn, Leads, IsRing}
use Rattle.txn_machine.specs.Deltas.{RowChange}
use Rattle.txn_machine.specs.Keeping.{KeptStep, Open}
use Rattle.txn_machine.specs.Store.{Store, committed, now, changes_by, locks_of, Effect, Undoes, Ends, Commits, run}
use Rattle.txn_machine.specs.Ghosts.{the_views}
use Rattle.txn_machine.specs.State.{State, counted}
use Rattle.txn_machine.specs.May.{IsReady, MayAct}
use Rattle.txn_machine.specs.Steps.{asked, IsFree, IsBlocked, MayWait, CommitsAs, Says, waits_after, definitions_after, Does, IsTold, number_unchanged, log_after}
use Rattle.txn_machine.specs.Laws.{IsBlockedToo, BlockedLaw, IsDeadlockToo, DeadlockLaw, RollBackLaw, CanCommitLaw}
use Rattle.txn_machine.proofs.Holding.{contains_here}
use Rattle.txn_machine.proofs.Basics.{one_same}
use Rattle.txn_machine.proofs.Good.{the_open}
use Rattle.txn_machine.proofs.Moving.{may_of}

-- ---- a ring of waiting sessions, by the sets and by the locks

module _ (locks waiting : Locks) (i : ℕ) (wants : List Want) (waits : ℕ → Sessions) (of_all : (s : ℕ) → IsSession s → AreInTheWay locks s (with_one waiting i wants s) (waits s)) where
  leads_on : (s : ℕ) (ss : List ℕ) (end : ℕ) → IsSession s → LeadsTo waits (s ∷ ss) end → Leads (WaitsOn locks (with_one waiting i wants)) (s ∷ ss) end
  leads_on s [] end is h = (of_all s is end).0 h
  leads_on s (t ∷ ss) end is h = let way = (of_all s is t).0 h.0 in (way, leads_on t ss end way.of_session h.1)

  ring : IsSession i → (cycle : List ℕ) → (c : IsCycle waits i cycle) → IsRing (WaitsOn locks (with_one waiting i wants)) i c.others
  ring is cycle c = record {
    different = subst AreDifferent c.begins c.different;
    leads = leads_on i c.others i is (subst (λ l. LeadsTo waits l i) c.begins c.leads);
  }

not_free : (s : State) (i : ℕ) (wants : List Want) (x : Sessions) → IsBlocked s i wants x → IsFree s.store i wants → ⊥
not_free s i wants x b free = go (members x) refl
  where
    go : (l : List ℕ) → members x ≡ l → ⊥
    go [] e = b.not_empty e
    go (j ∷ l) e = free j ((b.in_the_way j).0 (subst (λ k. Contains k j) (sym e) (contains_here j l)))

waiting_is : (s : Store) (i : ℕ) (a : Act) → MayWait a → MayAct s i a → IsSession i
waiting_is s i (act.Fetch number interval mode) w may = may.0.goes_on.of_session
waiting_is s i (act.Put number key new) w may = may.0.goes_on.of_session
waiting_is s i act.Pay w may = may.goes_on.of_session
waiting_is s i _ w may = absurd w

blocked_says : (s : State) (i : ℕ) (a : Act) (x : Sessions) (said : Answer) (es : List Effect) → MayAct s.store i a → MayWait a → IsBlocked s i (asked s.store i a) x → Says s i a said es → IsBlockedToo x said
blocked_says s i a x (answer.Blocked y) es may w b h = λ j. ((λ c. (h.1.in_the_way j).1 ((b.in_the_way j).0 c)), (λ c. (b.in_the_way j).1 ((h.1.in_the_way j).0 c)))
blocked_says s i a x (answer.Refused refusal.NoMemory) es may w b h = tt
blocked_says s i a x (answer.Refused (refusal.Deadlock cycle)) es may w b h =
    let d = h.1 in
    b.no_cycle d.closes.is.others (ring (locks_of s.store) s.waiting i (asked s.store i a) d.waits d.of_all (waiting_is s.store i a w may) (sessions_of cycle) d.closes.is)
blocked_says s i (act.Fetch number interval mode) x (answer.Rows rows) es may w b h = not_free s i (asked s.store i (act.Fetch number interval mode)) x b h.free
blocked_says s i (act.Fetch number interval mode) x (answer.Refused (refusal.TxnFull kept need)) es may w b h = not_free s i (asked s.store i (act.Fetch number interval mode)) x b h.0.free
blocked_says s i (act.Put number key new) x (answer.Changed before deltas) es may w b h = not_free s i (asked s.store i (act.Put number key new)) x b h.free
blocked_says s i (act.Put number key new) x (answer.Refused (refusal.TxnFull kept need)) es may w b h = not_free s i (asked s.store i (act.Put number key new)) x b h.0.free
blocked_says s i (act.Put number key new) x (answer.Refused (refusal.LogFull used reserved need)) es may w b h = not_free s i (asked s.store i (act.Put number key new)) x b h.0.free
blocked_says s i (act.Put number key new) x (answer.Refused (refusal.DataFull used need)) es may w b h = not_free s i (asked s.store i (act.Put number key new)) x b h.0.free
blocked_says s i (act.Put number key new) x (answer.Refused (refusal.HistoryFull kept need)) es may w b h = not_free s i (asked s.store i (act.Put number key new)) x b h.0.free
blocked_says s i act.Pay x (answer.Paid left) es may w b h = not_free s i (asked s.store i act.Pay) x b h.pays.free
blocked_says s i act.Pay x answer.NeedsGhost es may w b h = not_free s i (asked s.store i act.Pay) x b h.pays.free
blocked_says s i act.Pay x (answer.Refused (refusal.Escrow column low high)) es may w b h = not_free s i (asked s.store i act.Pay) x b h.pays.free
blocked_says s i (act.Begin mode) x _ es may w b h = absurd w
blocked_says s i act.Defs x _ es may w b h = absurd w
blocked_says s i (act.Peek number interval) x _ es may w b h = absurd w
blocked_says s i act.Ghost x _ es may w b h = absurd w
blocked_says s i act.UndoOne x _ es may w b h = absurd w
blocked_says s i act.End x _ es may w b h = absurd w
blocked_says s i act.Commit x _ es may w b h = absurd w
blocked_says s i (act.Schema statement) x _ es may w b h = absurd w
blocked_says s i act.Clean x _ es may w b h = absurd w
blocked_says s i act.Prune x _ es may w b h = absurd w
blocked_says s i act.Checkpoint x _ es may w b h = absurd w
blocked_says s i act.Cancel x _ es may w b h = absurd w
blocked_says s i _ x _ es may w b h = absurd h

not_stopped : (s : State) (i : ℕ) (said : Answer) (after : State) → s.stop ≡ None → IsTold s i said after → ⊥
not_stopped s i said after runs t = none-some t.stop (sym runs ∙ t.stopped)

pub blocked_law : BlockedLaw
blocked_law s i a x said one other runs first second = elim first.does [
  | inr t ↦ absurd (not_stopped s i (answer.Blocked x) one runs t)
  | inl d ↦ elim second.does [
    | inr t ↦ absurd (not_stopped s i said other runs t)
    | inl e ↦ blocked_says s i a x said e.effects (may_of s i a runs first.may.1) d.says.0 d.says.1 e.says
  ]
]

-- a cycle begins with somebody in the way
first_in_way : (s : State) (i : ℕ) (wants : List Want) (cycle : List ℕ) → IsSession i → IsDeadlock (locks_of s.store) s.waiting i wants cycle → IsFree s.store i wants → ⊥
first_in_way s i wants cycle is d free =
    let r = ring (locks_of s.store) s.waiting i wants d.waits d.of_all is cycle d.closes.is in
    go d.closes.is.others r.leads
  where
    asked_way : (j : ℕ) → WaitsOn (locks_of s.store) (with_one s.waiting i wants) i j → IsInTheWay (locks_of s.store) i wants j
    asked_way j w = subst (λ x. IsInTheWay (locks_of s.store) i x j) (one_same s.waiting i wants i refl) w

    go : (others : List ℕ) → Leads (WaitsOn (locks_of s.store) (with_one s.waiting i wants)) (i ∷ others) i → ⊥
    go [] w = free i (asked_way i w)
    go (j ∷ others) w = free j (asked_way j w.0)

deadlock_says : (s : State) (i : ℕ) (a : Act) (cycle : List ℕ) (said : Answer) (es : List Effect) → MayAct s.store i a → MayWait a → IsDeadlock (locks_of s.store) s.waiting i (asked s.store i a) cycle → Says s i a said es → IsDeadlockToo said
deadlock_says s i a cycle (answer.Blocked y) es may w d h =
    h.1.no_cycle d.closes.is.others (ring (locks_of s.store) s.waiting i (asked s.store i a) d.waits d.of_all (waiting_is s.store i a w may) cycle d.closes.is)
deadlock_says s i a cycle (answer.Refused refusal.NoMemory) es may w d h = tt
deadlock_says s i a cycle (answer.Refused (refusal.Deadlock other)) es may w d h = tt
deadlock_says s i (act.Fetch number interval mode) cycle (answer.Rows rows) es may w d h = first_in_way s i (asked s.store i (act.Fetch number interval mode)) cycle may.0.goes_on.of_session d h.free
deadlock_says s i (act.Fetch number interval mode) cycle (answer.Refused (refusal.TxnFull kept need)) es may w d h = first_in_way s i (asked s.store i (act.Fetch number interval mode)) cycle may.0.goes_on.of_session d h.0.free
deadlock_says s i (act.Put number key new) cycle (answer.Changed before deltas) es may w d h = first_in_way s i (asked s.store i (act.Put number key new)) cycle may.0.goes_on.of_session d h.free
deadlock_says s i (act.Put number key new) cycle (answer.Refused (refusal.TxnFull kept need)) es may w d h = first_in_way s i (asked s.store i (act.Put number key new)) cycle may.0.goes_on.of_session d h.0.free
deadlock_says s i (act.Put number key new) cycle (answer.Refused (refusal.LogFull used reserved need)) es may w d h = first_in_way s i (asked s.store i (act.Put number key new)) cycle may.0.goes_on.of_session d h.0.free
deadlock_says s i (act.Put number key new) cycle (answer.Refused (refusal.DataFull used need)) es may w d h = first_in_way s i (asked s.store i (act.Put number key new)) cycle may.0.goes_on.of_session d h.0.free
deadlock_says s i (act.Put number key new) cycle (answer.Refused (refusal.HistoryFull kept need)) es may w d h = first_in_way s i (asked s.store i (act.Put number key new)) cycle may.0.goes_on.of_session d h.0.free
deadlock_says s i act.Pay cycle (answer.Paid left) es may w d h = first_in_way s i (asked s.store i act.Pay) cycle may.goes_on.of_session d h.pays.free
deadlock_says s i act.Pay cycle answer.NeedsGhost es may w d h = first_in_way s i (asked s.store i act.Pay) cycle may.goes_on.of_session d h.pays.free
deadlock_says s i act.Pay cycle (answer.Refused (refusal.Escrow column low high)) es may w d h = first_in_way s i (asked s.store i act.Pay) cycle may.goes_on.of_session d h.pays.free
deadlock_says s i (act.Begin mode) cycle _ es may w d h = absurd w
deadlock_says s i act.Defs cycle _ es may w d h = absurd w
deadlock_says s i (act.Peek number interval) cycle _ es may w d h = absurd w
deadlock_says s i act.Ghost cycle _ es may w d h = absurd w
deadlock_says s i act.UndoOne cycle _ es may w d h = absurd w
deadlock_says s i act.End cycle _ es may w d h = absurd w
deadlock_says s i act.Commit cycle _ es may w d h = absurd w
deadlock_says s i (act.Schema statement) cycle _ es may w d h = absurd w
deadlock_says s i act.Clean cycle _ es may w d h = absurd w
deadlock_says s i act.Prune cycle _ es may w d h = absurd w
deadlock_says s i act.Checkpoint cycle _ es may w d h = absurd w
deadlock_says s i act.Cancel cycle _ es may w d h = absurd w
deadlock_says s i _ cycle _ es may w d h = absurd h

pub deadlock_law : DeadlockLaw
deadlock_law s i a cycle said one other runs first second = elim first.does [
  | inr t ↦ absurd (not_stopped s i (answer.Refused (refusal.Deadlock cycle)) one runs t)
  | inl d ↦ elim second.does [
    | inr t ↦ absurd (not_stopped s i said other runs t)
    | inl e ↦ deadlock_says s i a (sessions_of cycle) said e.effects (may_of s i a runs first.may.1) d.says.0 d.says.1 e.says
  ]
]

-- ---- what is always answered

does_it : (s : State) (i : ℕ) (a : Act) (said : Answer) (es : List Effect) → s.stop ≡ None → Says s i a said es
    → Does s i a said (counted s i a said (run the_views s.store i es) (waits_after s.store i a said) (definitions_after s.definitions a said) (log_after s i a said es))
does_it s i a said es runs says = record { runs = runs; effects = es; says = says; left = refl }

pub roll_back_law : RollBackLaw
roll_back_law s i runs o =
    let own : now s.store i ≡ o.transaction = ap the_open o.is_open in (
      λ latest earlier e. (
        _,
        record {
          may = (o.of_session.1, inr (o, (λ n. some_first latest earlier (sym e ∙ n))));
          does = inl (does_it s i act.UndoOne (answer.Undone (length earlier)) (Undoes ∷ []) runs (record { latest = latest; earlier = earlier; kept_is = ap (λ (t : Open). t.kept) own ∙ e; left_is = refl; effects = refl }));
        },
      ),
      λ e. (
        _,
        record {
          may = (o.of_session.1, inr (o, e));
          does = inl (does_it s i act.End answer.Ended (Ends ∷ []) runs refl);
        },
      ),
    )
  where
    some_first : (k : KeptStep) (ks : List KeptStep) → k ∷ ks ≡ [] → ⊥
    some_first k ks e = cc

commits_so : (s : Store) (i : ℕ) (cs : List RowChange) → (number : ℕ) × (es : List Effect) × CommitsAs s i cs number es
commits_so s i [] = (number_unchanged s (now s i), Ends ∷ [], (refl, refl))
commits_so s i (c ∷ cs) = ((committed s).number + 1, Commits ∷ [], (refl, refl))

ready_session : (s : Store) (i : ℕ) → (IsReady s i Serial ⊎ IsReady s i Snapshot) → IsSession i
ready_session s i (inl r) = r.goes_on.of_session
ready_session s i (inr r) = r.goes_on.of_session

pub can_commit_law : CanCommitLaw
can_commit_law s i runs ready =
    let c = commits_so s.store i (changes_by s.store i) in
    (c.0, _, record { may = ((ready_session s.store i ready).1, inr ready); does = inl (does_it s i act.Commit (answer.Committed c.0) c.1 runs c.2) })
