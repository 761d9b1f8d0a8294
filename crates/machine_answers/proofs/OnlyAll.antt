-- A step has only one answer that tells what the state gives.
use Rattle.std.specs.Prelude.{◌≡◌, ℕ, List, Some, None}
use mathlib.Core.Path.{refl, sym, ap, subst, ◌∙◌}
use mathlib.Core.Logic.{inl, inr}
use Rattle.std.proofs.lemmas.Option.{none-some}
use Rattle.iv_types.specs.declared.session.Sessions.{Sessions}
use Rattle.iv_types.specs.declared.session.Cycle.{Cycle}
use Rattle.iv_types.specs.declared.statement.Mode.TheVariants.{Serial, Snapshot}
use Rattle.iv_types.specs.declared.refusal.EngineRefusal.TheVariants as refusal
use Rattle.iv_types.specs.Replies.{members}
use Rattle.iv_meaning.specs.Escrow.{IsSession}
use Rattle.iv_meaning.specs.Waits.{sessions_of}
use Rattle.txn_machine.specs.Acts as act
use Rattle.txn_machine.specs.Acts.{Act}
use Rattle.txn_machine.specs.Answers as answer
use Rattle.txn_machine.specs.Answers.{Answer}
use Rattle.txn_machine.specs.Ghosts.{the_views}
use Rattle.txn_machine.specs.Store.{locks_of, Store, changes_by, Effect, run}
use Rattle.txn_machine.specs.State.{State, Stop, counted}
use Rattle.txn_machine.specs.May.{MayAct}
use Rattle.txn_machine.specs.Steps.{Says, Step, Does, IsTold, MayWait, asked, waits_after, definitions_after, log_after}
use Rattle.txn_machine.specs.Laws.{IsBlockedToo, IsDeadlockToo}
use Rattle.txn_machine.proofs.Apart.{blocked_law, deadlock_law}
use Rattle.txn_machine.proofs.Moving.{may_of}
use Rattle.machine_answers.specs.Answered.{IsOfState, AreAlike, OnlyLaw}
use Rattle.machine_answers.proofs.Only.{IsPlain, both_same, one_chosen, BeginTest, IsBegin, serial_says, is_begin, CleanTest, IsClean, clean_says, is_clean}
use Rattle.machine_answers.proofs.OnlyDefining.{DefiningTest, IsDefining, defining_says, is_defining}
use Rattle.machine_answers.proofs.OnlyGranted.{FetchTest, IsFetch, fetch_says, is_fetch, PutTest, IsPut, put_says, is_put, PayTest, IsPay, pay_says, is_pay}
use Rattle.machine_answers.proofs.OnlySimple.{snapshot_says, defs_says, peek_says, ghost_says, one_ghost, undo_says, end_says, commit_says, one_commit, prune_says, save_says, cancel_says}
use Rattle.machine_answers.proofs.OnlyWaiting.{members_same, cycles_same}

-- ---- answers by which nobody is waited for

plain_of : (said : Answer) → IsPlain said → IsOfState said
plain_of (answer.Blocked x) p = absurd p
plain_of (answer.Refused (refusal.Deadlock c)) p = absurd p
plain_of _ p = p

module _ (s : State) (session : ℕ) where
  plain_only : (a : Act) (one other : Answer) (es fs : List Effect) → IsPlain one → IsPlain other → Says s session a one es → Says s session a other fs → (one ≡ other) × (es ≡ fs)
  plain_only (act.Begin Serial) one other es fs p q h k =
      one_chosen (BeginTest s session) 2 (IsBegin s session) (is_begin s session) one other es fs (serial_says s session one es (plain_of one p) h) (serial_says s session other fs (plain_of other q) k)
  plain_only (act.Begin Snapshot) one other es fs p q h k = both_same _ _ one other es fs (snapshot_says s session one es (plain_of one p) h) (snapshot_says s session other fs (plain_of other q) k)
  plain_only act.Defs one other es fs p q h k = both_same _ _ one other es fs (defs_says s session one es (plain_of one p) h) (defs_says s session other fs (plain_of other q) k)
  plain_only (act.Fetch number interval mode) one other es fs p q h k =
      one_chosen (FetchTest s session number interval mode) 1 (IsFetch s session number interval mode) (is_fetch s session number interval mode) one other es fs
      (fetch_says s session number interval mode one es p h) (fetch_says s session number interval mode other fs q k)
  plain_only (act.Peek number interval) one other es fs p q h k = both_same _ _ one other es fs (peek_says s session number interval one es (plain_of one p) h) (peek_says s session number interval other fs (plain_of other q) k)
  plain_only (act.Put number key new) one other es fs p q h k =
      one_chosen (PutTest s session number key new) 4 (IsPut s session number key new) (is_put s session number key new) one other es fs
      (put_says s session number key new one es p h) (put_says s session number key new other fs q k)
  plain_only act.Pay one other es fs p q h k = one_chosen (PayTest s session) 2 (IsPay s session) (is_pay s session) one other es fs (pay_says s session one es p h) (pay_says s session other fs q k)
  plain_only act.Ghost one other es fs p q h k =
      let x = ghost_says s session one es (plain_of one p) h in
      let y = ghost_says s session other fs (plain_of other q) k in
      (x.0 ∙ sym y.0, one_ghost s session es fs x.1 y.1)
  plain_only act.UndoOne one other es fs p q h k = both_same _ _ one other es fs (undo_says s session one es (plain_of one p) h) (undo_says s session other fs (plain_of other q) k)
  plain_only act.End one other es fs p q h k = both_same _ _ one other es fs (end_says s session one es (plain_of one p) h) (end_says s session other fs (plain_of other q) k)
  plain_only act.Commit one other es fs p q h k =
      let x = commit_says s session one es (plain_of one p) h in
      let y = commit_says s session other fs (plain_of other q) k in
      let same = one_commit s session (changes_by s.store session) x.0 y.0 es fs x.2 y.2 in
      (x.1 ∙ (ap answer.Committed same.0 ∙ sym y.1), same.1)
  plain_only (act.Schema statement) one other es fs p q h k =
      one_chosen (DefiningTest s session statement) 6 (IsDefining s session statement) (is_defining s session statement) one other es fs
      (defining_says s session statement one es (plain_of one p) h) (defining_says s session statement other fs (plain_of other q) k)
  plain_only act.Clean one other es fs p q h k =
      one_chosen (CleanTest s session) 2 (IsClean s session) (is_clean s session) one other es fs (clean_says s session one es (plain_of one p) h) (clean_says s session other fs (plain_of other q) k)
  plain_only act.Prune one other es fs p q h k = both_same _ _ one other es fs (prune_says s session one es (plain_of one p) h) (prune_says s session other fs (plain_of other q) k)
  plain_only act.Checkpoint one other es fs p q h k = both_same _ _ one other es fs (save_says s session one es (plain_of one p) h) (save_says s session other fs (plain_of other q) k)
  plain_only act.Cancel one other es fs p q h k = both_same _ _ one other es fs (cancel_says s session one es (plain_of one p) h) (cancel_says s session other fs (plain_of other q) k)

-- ---- all answers

data Kind (said : Answer) : Type 0 where
  waits : (sessions : Sessions) → said ≡ answer.Blocked sessions → Kind said
  closes : (cycle : Cycle) → said ≡ answer.Refused (refusal.Deadlock cycle) → Kind said
  plain : IsPlain said → Kind said

kind_of : (said : Answer) → IsOfState said → Kind said
kind_of (answer.Blocked x) of = waits x refl
kind_of (answer.Refused (refusal.Deadlock c)) of = closes c refl
kind_of _ of = plain of

alike_itself : (said : Answer) → AreAlike said said
alike_itself (answer.Blocked x) = refl
alike_itself (answer.Refused (refusal.Deadlock c)) = refl
alike_itself _ = refl

not_blocked : (x : Sessions) (said : Answer) → IsPlain said → IsBlockedToo x said → ⊥
not_blocked x (answer.Blocked y) p too = p
not_blocked x (answer.Refused refusal.NoMemory) p too = p
not_blocked x _ p too = too

not_deadlock : (said : Answer) → IsPlain said → IsDeadlockToo said → ⊥
not_deadlock (answer.Refused (refusal.Deadlock c)) p too = p
not_deadlock (answer.Refused refusal.NoMemory) p too = p
not_deadlock _ p too = too

waiting_is : (s : Store) (session : ℕ) (a : Act) → MayWait a → MayAct s session a → IsSession session
waiting_is s session (act.Fetch number interval mode) w may = may.0.goes_on.of_session
waiting_is s session (act.Put number key new) w may = may.0.goes_on.of_session
waiting_is s session act.Pay w may = may.goes_on.of_session
waiting_is s session _ w may = absurd w

module _ (s : State) (session : ℕ) (a : Act) (one other : Answer) (after next : State) (runs : s.stop ≡ None) (first : Step s session a one after) (second : Step s session a other next)
    (es fs : List Effect) (h : Says s session a one es) (k : Says s session a other fs) where
  -- the other is blocked too
  first_blocks : (x : Sessions) → one ≡ answer.Blocked x → IsBlockedToo x other
  first_blocks x p = blocked_law s session a x other after next runs (subst (λ (z : Answer). Step s session a z after) p first) second

  second_blocks : (y : Sessions) → other ≡ answer.Blocked y → IsBlockedToo y one
  second_blocks y q = blocked_law s session a y one next after runs (subst (λ (z : Answer). Step s session a z next) q second) first

  first_closes : (c : Cycle) → one ≡ answer.Refused (refusal.Deadlock c) → IsDeadlockToo other
  first_closes c p = deadlock_law s session a c other after next runs (subst (λ (z : Answer). Step s session a z after) p first) second

  second_closes : (d : Cycle) → other ≡ answer.Refused (refusal.Deadlock d) → IsDeadlockToo one
  second_closes d q = deadlock_law s session a d one next after runs (subst (λ (z : Answer). Step s session a z next) q second) first

  by_kinds : Kind one → Kind other → AreAlike one other × (es ≡ fs)
  by_kinds (waits x p) (waits y q) =
      let x_says = subst (λ (z : Answer). Says s session a z es) p h in
      let y_says = subst (λ (z : Answer). Says s session a z fs) q k in
      let same : members x ≡ members y = members_same x y (subst (IsBlockedToo x) q (first_blocks x p)) in
      (subst (λ (z : Answer). AreAlike z other) (sym p) (subst (λ (z : Answer). AreAlike (answer.Blocked x) z) (sym q) same), x_says.2 ∙ sym y_says.2)
  by_kinds (waits x p) (closes d q) = absurd (subst (IsBlockedToo x) q (first_blocks x p))
  by_kinds (waits x p) (plain q) = absurd (not_blocked x other q (first_blocks x p))
  by_kinds (closes c p) (waits y q) = absurd (subst (IsBlockedToo y) p (second_blocks y q))
  by_kinds (closes c p) (closes d q) =
      let c_says = subst (λ (z : Answer). Says s session a z es) p h in
      let d_says = subst (λ (z : Answer). Says s session a z fs) q k in
      let is : IsSession session = waiting_is s.store session a c_says.0 (may_of s session a runs first.may.1) in
      let same : sessions_of c ≡ sessions_of d = cycles_same (locks_of s.store) s.waiting session is (asked s.store session a) (sessions_of c) (sessions_of d) c_says.1 d_says.1 in
      (subst (λ (z : Answer). AreAlike z other) (sym p) (subst (λ (z : Answer). AreAlike (answer.Refused (refusal.Deadlock c)) z) (sym q) same), c_says.2 ∙ sym d_says.2)
  by_kinds (closes c p) (plain q) = absurd (not_deadlock other q (first_closes c p))
  by_kinds (plain p) (waits y q) = absurd (not_blocked y one p (second_blocks y q))
  by_kinds (plain p) (closes d q) = absurd (not_deadlock one p (second_closes d q))
  by_kinds (plain p) (plain q) =
      let same = plain_only s session a one other es fs p q h k in
      (subst (AreAlike one) same.0 (alike_itself one), same.1)

abbrev Only : State → State → Answer → Answer → Type 0
Only after next one other = AreAlike one other × (after.store ≡ next.store) × (one ≡ other → after ≡ next)

does_only : (s : State) (session : ℕ) (a : Act) (one other : Answer) (after next : State) → IsOfState one → IsOfState other → Step s session a one after → Step s session a other next
    → Does s session a one after → Does s session a other next → Only after next one other
does_only s session a one other after next of also first second d e =
    let left : Answer → List Effect → State = λ said es. counted s session a said (run the_views s.store session es) (waits_after s.store session a said) (definitions_after s.definitions a said) (log_after s session a said es) in
    let same = by_kinds s session a one other after next d.runs first second d.effects e.effects d.says e.says (kind_of one of) (kind_of other also) in (
      same.0,
      ap (λ (z : State). z.store) d.left ∙ (ap (run the_views s.store session) same.1 ∙ ap (λ (z : State). z.store) (sym e.left)),
      λ is. d.left ∙ ((λ i. left (is i) (same.1 i)) ∙ sym e.left),
    )

same_stop : (t u : Stop) → Some t ≡ Some u → t ≡ u
same_stop t u e = cc

told_only : (s : State) (session : ℕ) (one other : Answer) (after next : State) → IsTold s session one after → IsTold s session other next → Only after next one other
told_only s session one other after next t u =
    let stop : t.stop ≡ u.stop = same_stop t.stop u.stop (sym t.stopped ∙ u.stopped) in
    let said : one ≡ other = t.says ∙ (ap (λ (x : Stop). answer.Refused (refusal.Stopped x.step)) stop ∙ sym u.says) in
    let state : after ≡ next = t.left ∙ sym u.left in
    (subst (AreAlike one) said (alike_itself one), ap (λ (z : State). z.store) state, λ is. state)

pub only_law : OnlyLaw
only_law s session a one other after next of also first second = elim first.does [
  | inl d ↦ elim second.does [
    | inl e ↦ does_only s session a one other after next of also first second d e
    | inr u ↦ absurd (none-some u.stop (sym d.runs ∙ u.stopped))
  ]
  | inr t ↦ elim second.does [
    | inl e ↦ absurd (none-some t.stop (sym e.runs ∙ t.stopped))
    | inr u ↦ told_only s session one other after next t u
  ]
]
