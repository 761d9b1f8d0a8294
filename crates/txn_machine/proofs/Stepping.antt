-- Each answered step keeps what holds, whatever it is answered.
use Rattle.std.specs.Prelude.{◌≡◌, ◌≢◌, ℕ, zero, suc, ◌<◌, cond, true, false, eqb, List, [], ◌∷◌, ◌++◌, length, Option, Some, None, IsSome}
use mathlib.Core.Path.{refl, sym, ap, subst}
use mathlib.Core.Logic.{inl, inr}
use Rattle.std.proofs.Common.{eqb-true}
use Rattle.std.proofs.lemmas.Option.{none-some}
use Rattle.std.specs.FinMap.{get}
use Rattle.std.specs.List.{Contains}
use Rattle.iv_types.specs.declared.statement.Mode.TheVariants.{Serial}
use Rattle.iv_types.specs.declared.lock.GroupDelta.{GroupDelta}
use Rattle.iv_types.specs.declared.lock.LockMode.TheVariants.{Share, Exclusive, Increment}
use Rattle.iv_types.specs.declared.lock.Want.{Want}
use Rattle.iv_types.specs.declared.refusal.EngineRefusal.TheVariants as refusal
use Rattle.iv_types.specs.Syntax.{StatementTree}
use Rattle.table_laws.specs.Place.{Place}
use Rattle.iv_meaning.specs.Schema.{Schema, Object, table, numbered}
use Rattle.iv_meaning.specs.Database.{Row}
use Rattle.iv_meaning.specs.Statement.{Kept, create, Accepted, bound_meaning}
use Rattle.iv_meaning.specs.Sound.{IsRow}
use Rattle.iv_meaning.specs.Escrow.{IsSession, IsAllowed, Account}
use Rattle.txn_machine.specs.Acts as act
use Rattle.txn_machine.specs.Acts.{Act}
use Rattle.txn_machine.specs.Answers as answer
use Rattle.txn_machine.specs.Answers.{Answer}
use Rattle.txn_machine.specs.Deltas.{RowChange, place_of, worth, columns_of}
use Rattle.txn_machine.specs.Keeping.{KeptStep, Put, Pay, changes_of, increments, IsSettled, Open}
use Rattle.txn_machine.specs.Fresh.{fresh}
use Rattle.txn_machine.specs.Store.{Store, committed, schema_of, now, changes_by, change_at, Effect, Takes, Writes, Pays, does}
use Rattle.txn_machine.specs.Ghosts.{Holds, the_views, account_of}
use Rattle.txn_machine.specs.State.{State}
use Rattle.txn_machine.specs.May.{IsReady, FitsUnder, MayPut, MayAct}
use Rattle.txn_machine.specs.Steps.{put_wants, first_want, group_want, asked, IsFree, NoneIsOpen, Makes, CommitsAs, MayWait, Says, Step, Did, Run}
use Rattle.txn_machine.specs.ViewLaws.{ViewLaws}
use Rattle.txn_machine.proofs.Basics.{one_same, holds_new}
use Rattle.txn_machine.proofs.Entered.{IsProper}
use Rattle.txn_machine.proofs.Good.{HoldsFor, the_open, stored_sound}
use Rattle.txn_machine.proofs.Runs.{IsGood, CanPay, CanDefine, CanAll, keeps_all}
use Rattle.txn_machine.proofs.Holding.{contains_here, holds_point, wants_hold}

pub some_not_none : {X : Type 0} (o : Option X) → IsSome o → o ≢ None
some_not_none None h e = absurd (cc)
some_not_none (Some x) h e = none-some x (sym e)

-- new locks hold what they are for, with any others
for_new : (objects : Schema) (ls ms : List Want) (c : RowChange) → HoldsFor objects ls c → HoldsFor objects (ls ++ ms) c
for_new objects ls ms c h = record {
  key = holds_new Exclusive ls ms c.key.0 c.key.1 h.key;
  before = λ n k e. holds_new Exclusive ls ms n k (h.before n k e);
  after = λ n k e. holds_new Exclusive ls ms n k (h.after n k e);
  needs = λ n k e. elim (h.needs n k e) [ inl r ↦ inl (holds_new Share ls ms n k r) | inr r ↦ inr (holds_new Exclusive ls ms n k r) ];
}

-- without changes nothing is owed, and nothing is paid
never_owes : (ks : List KeptStep) (d : GroupDelta) (ds : List GroupDelta) → IsSettled ks (d ∷ ds) → changes_of ks ≡ [] → ⊥
never_owes [] d ds h e = cc
never_owes (Put c es ∷ ks) d ds h e = cc
never_owes (Pay f ∷ ks) d ds h e = never_owes ks f (d ∷ ds) h e

nothing_kept : (ks : List KeptStep) → IsSettled ks [] → changes_of ks ≡ [] → ks ≡ []
nothing_kept [] h e = refl
nothing_kept (Put c ds ∷ ks) h e = absurd (cc)
nothing_kept (Pay d ∷ ks) h e = absurd (never_owes ks d [] h e)

proper_put : (objects : Schema) (s : Store) (number : ℕ) (key : List ℕ) (new : Option Row) (of : _) → numbered objects number ≡ Some (table of) → FitsUnder of key new → IsProper objects (change_at s (number, key) new)
proper_put objects s number key None of e f row h = absurd (none-some row h)
proper_put objects s number key (Some r) of e f row h = subst (λ (x : Row). IsRow objects (number, key) x) (cc) (record { of = of; table_is = e; key = f.0; fits = f.1 })

module _ (laws : ViewLaws the_views fresh) where
  abbrev pub Good' : Store → Type 0
  Good' = IsGood the_views fresh laws

  abbrev CanAll' : Store → ℕ → List Effect → Type 0
  CanAll' = CanAll the_views fresh laws

  -- what is known of a definition that is accepted
  abbrev pub MayDefine : Type 0
  MayDefine = (s : Store) (statement : StatementTree) (o : Object) → Good' s → Makes s statement o → NoneIsOpen s
      → (count : ℕ) (kept : List Kept) → bound_meaning (create o) (committed s) ≡ Accepted [] count kept → CanDefine the_views fresh laws s o

  module _ (s : Store) (i : ℕ) where
    pub now_is : (t : Open) → s.open_of i ≡ Some t → now s i ≡ t
    now_is t e = ap the_open e

    -- the state with new locks
    abbrev locked : List Want → Store
    locked wants = does the_views s i (Takes wants)

    pub now_locked : (wants : List Want) → now (locked wants) i ≡ record (now s i) { locks = wants ++ (now s i).locks }
    now_locked wants = ap the_open (one_same s.open_of i (Some (record (now s i) { locks = wants ++ (now s i).locks })) i refl)

    same_account : (wants : List Want) (p : Place) (column : ℕ) → account_of s p column ≡ account_of (locked wants) p column
    same_account wants p column = λ x. record { committed = fresh (schema_of s) (committed s).rows p column; kept = λ j. one j x }
      where
        one : (j : ℕ) → increments p column (now s j).kept ≡ increments p column (now (locked wants) j).kept
        one j = elim (eqb j i) as (λ b. eqb j i ≡ b → increments p column (now s j).kept ≡ increments p column (the_open (cond b (Some (record (now s i) { locks = wants ++ (now s i).locks })) (s.open_of j))).kept) [
          | true ↦ λ e. ap (λ k. increments p column (now s k).kept) (eqb-true j i e)
          | false ↦ λ e. refl
        ] refl

    can_put : (g : Good' s) (number : ℕ) (key : List ℕ) (new : Option Row) → IsReady s i Serial → (m : MayPut s number key new) → IsFree s i (asked s i (act.Put number key new))
        → CanAll' s i (Takes (asked s i (act.Put number key new)) ∷ Writes (number, key) new ∷ [])
    can_put g number key new ready m free =
        let wants : List Want = asked s i (act.Put number key new) in
        let c : RowChange = change_at s (number, key) new in
        let own : now s i ≡ ready.goes_on.transaction = now_is ready.goes_on.transaction ready.goes_on.is_open in
        let owes : (now s i).owed ≡ [] = subst (λ (t : Open). t.owed ≡ []) (sym own) ready.owes_nothing in
        let sound = stored_sound the_views fresh laws (committed s) s g in
        let hold : HoldsFor (schema_of s) wants c = subst (λ (o : Option Object). HoldsFor (schema_of s) (put_wants (schema_of s) o c) c) (sym m.table_is) (wants_hold (schema_of s) s.rows sound m.of c m.table_is m.changes) in (
          (ready.goes_on.of_session, free),
          (
            (
              ready.goes_on.of_session,
              subst (λ (t : Open). t.owed ≡ []) (sym (now_locked wants)) owes,
              subst (λ (t : Open). HoldsFor (schema_of s) t.locks c) (sym (now_locked wants)) (for_new (schema_of s) wants (now s i).locks c hold),
              proper_put (schema_of s) s number key new m.of m.table_is m.fits,
            ),
            tt,
          ),
        )

    can_pay : (is : IsSession i) (d : GroupDelta) (ds : List GroupDelta) → (now s i).owed ≡ d ∷ ds → IsFree s i (asked s i act.Pay) → IsSome (get s.view (place_of d))
        → ((column : ℕ) → column < length (columns_of d) → IsAllowed (account_of s (place_of d) column) i (worth column d))
        → CanAll' s i (Takes (asked s i act.Pay) ∷ Pays ∷ [])
    can_pay is d ds e free there allowed =
        let wants : List Want = asked s i act.Pay in
        let wants_are : wants ≡ group_want d ∷ [] = ap first_want e in
        let holds : Holds (wants ++ (now s i).locks) Increment d.view d.group = holds_new Increment wants (now s i).locks d.view d.group (holds_point Increment wants d.view d.group (subst (λ (l : List Want). Contains l (group_want d)) (sym wants_are) (contains_here (group_want d) []))) in
        let owed_is : (now (locked wants) i).owed ≡ d ∷ ds = subst (λ (t : Open). t.owed ≡ d ∷ ds) (sym (now_locked wants)) e in (
          (is, free),
          (
            (
              is,
              subst (CanPay the_views fresh laws (locked wants) i) (sym owed_is) (
                some_not_none (get s.view (place_of d)) there,
                subst (λ (t : Open). Holds t.locks Increment d.view d.group) (sym (now_locked wants)) holds,
                λ column below. subst (λ (a : Account). IsAllowed a i (worth column d)) (same_account wants (place_of d) column) (allowed column below),
              ),
            ),
            tt,
          ),
        )

    can_commit : (g : Good' s) → IsSession i → (now s i).owed ≡ [] → (number : ℕ) (es : List Effect) (cs : List RowChange) → changes_by s i ≡ cs → CommitsAs s i cs number es → CanAll' s i es
    can_commit g is owes number es [] e h =
        subst (CanAll' s i) (sym h.1) ((is, nothing_kept (now s i).kept (subst (IsSettled (now s i).kept) owes (g.each i is).settled) e), tt)
    can_commit g is owes number es (c ∷ cs) e h = subst (CanAll' s i) (sym h.1) ((is, owes), tt)

  pub ready_owes : (s : Store) (i : ℕ) (mode : _) → (r : IsReady s i mode) → (now s i).owed ≡ []
  ready_owes s i mode r = subst (λ (t : Open). t.owed ≡ []) (sym (now_is s i r.goes_on.transaction r.goes_on.is_open)) r.owes_nothing

  -- a session that may wait is one that there is
  waiting_session : (s : Store) (i : ℕ) (a : Act) → MayWait a → MayAct s i a → IsSession i
  waiting_session s i (act.Fetch number interval mode) w may = may.0.goes_on.of_session
  waiting_session s i (act.Put number key new) w may = may.0.goes_on.of_session
  waiting_session s i act.Pay w may = may.goes_on.of_session
  waiting_session s i _ w may = absurd w

  module _ (defining : MayDefine) where
    pub can_says : (s : State) (i : ℕ) (a : Act) (said : Answer) (es : List Effect) → Good' s.store → MayAct s.store i a → Says s i a said es → CanAll' s.store i es
    can_says s i a (answer.Blocked sessions) es g may h = subst (CanAll' s.store i) (sym h.2) tt
    can_says s i a (answer.Refused (refusal.Deadlock cycle)) es g may h = subst (CanAll' s.store i) (sym h.2) (waiting_session s.store i a h.0 may, tt)
    can_says s i a (answer.Refused refusal.NoMemory) es g may h = subst (CanAll' s.store i) (sym h.1) tt
    can_says s i (act.Begin mode) (answer.Begun number defs) es g may h = subst (CanAll' s.store i) (sym h.effects) ((may.0, may.1), tt)
    can_says s i (act.Begin mode) (answer.Refused (refusal.HistoryFull kept need)) es g may h = subst (CanAll' s.store i) (sym h.3) tt
    can_says s i act.Defs (answer.Defs objects) es g may h = subst (CanAll' s.store i) (sym h.1) tt
    can_says s i (act.Fetch number interval mode) (answer.Rows rows) es g may h =
        subst (CanAll' s.store i) (sym h.effects) ((may.0.goes_on.of_session, h.free), (may.0.goes_on.of_session, tt))
    can_says s i (act.Fetch number interval mode) (answer.Refused (refusal.TxnFull kept need)) es g may h = subst (CanAll' s.store i) (sym h.1) tt
    can_says s i (act.Peek number interval) (answer.Rows rows) es g may h = subst (CanAll' s.store i) (sym h.1) tt
    can_says s i (act.Put number key new) (answer.Changed before deltas) es g may h = subst (CanAll' s.store i) (sym h.effects) (can_put s.store i g number key new may.0 may.1 h.free)
    can_says s i (act.Put number key new) (answer.Refused (refusal.TxnFull kept need)) es g may h = subst (CanAll' s.store i) (sym h.1) tt
    can_says s i (act.Put number key new) (answer.Refused (refusal.HistoryFull kept need)) es g may h = subst (CanAll' s.store i) (sym h.1) tt
    can_says s i act.Pay (answer.Paid left) es g may h =
        subst (CanAll' s.store i) (sym h.effects) (can_pay s.store i may.goes_on.of_session h.pays.first h.pays.others h.pays.owed_is h.pays.free h.there h.allowed)
    can_says s i act.Pay answer.NeedsGhost es g may h = subst (CanAll' s.store i) (sym h.effects) ((may.goes_on.of_session, h.pays.free), tt)
    can_says s i act.Pay (answer.Refused (refusal.Escrow column low high)) es g may h = subst (CanAll' s.store i) (sym h.effects) ((may.goes_on.of_session, h.pays.free), tt)
    can_says s i act.Ghost answer.Ghosted es g may h = elim h.effects [
      | inl m ↦ subst (CanAll' s.store i) (sym m.1) ((m.0, may.0.goes_on.of_session, (h.first, subst (λ (l : List GroupDelta). Contains l h.first) (sym h.owed_is) (contains_here h.first h.others), refl, refl)), tt)
      | inr m ↦ subst (CanAll' s.store i) (sym m.1) tt
    ]
    can_says s i act.UndoOne (answer.Undone left) es g may h = subst (CanAll' s.store i) (sym h.effects) (may.0.of_session, tt)
    can_says s i act.End answer.Ended es g may h =
        subst (CanAll' s.store i) (sym h) ((may.0.of_session, subst (λ (t : Open). t.kept ≡ []) (sym (now_is s.store i may.0.transaction may.0.is_open)) may.1), tt)
    can_says s i act.Commit (answer.Committed number) es g may h = elim may [
      | inl r ↦ can_commit s.store i g r.goes_on.of_session (ready_owes s.store i _ r) number es (changes_by s.store i) refl h
      | inr r ↦ can_commit s.store i g r.goes_on.of_session (ready_owes s.store i _ r) number es (changes_by s.store i) refl h
    ]
    can_says s i (act.Schema statement) (answer.Committed number) es g may h =
        subst (CanAll' s.store i) (sym h.effects) (defining s.store statement h.object g h.makes h.none_open h.accepted.0 h.accepted.1 h.accepted.2, tt)
    can_says s i (act.Schema statement) (answer.Denied why) es g may h = subst (CanAll' s.store i) (sym h.1) tt
    can_says s i (act.Schema statement) (answer.Refused (refusal.SchemaBusy busy)) es g may h = subst (CanAll' s.store i) (sym h.1) tt
    can_says s i (act.Schema statement) (answer.Refused (refusal.HistoryFull kept need)) es g may h = subst (CanAll' s.store i) (sym h.1) tt
    can_says s i act.Clean (answer.Cleaned zero) es g may h = subst (CanAll' s.store i) (sym h.1) tt
    can_says s i act.Clean (answer.Cleaned (suc zero)) es g may h = subst (CanAll' s.store i) (sym h.2) ((h.1.is.ghost.count, h.1.is.not_locked), tt)
    can_says s i act.Prune answer.Pruned es g may h = subst (CanAll' s.store i) (sym h) (tt, tt)
    can_says s i (act.Begin mode) (answer.Refused (refusal.LogFull used reserved need)) es g may h = subst (CanAll' s.store i) (sym h.0) tt
    can_says s i (act.Put number key new) (answer.Refused (refusal.LogFull used reserved need)) es g may h = subst (CanAll' s.store i) (sym h.1) tt
    can_says s i (act.Put number key new) (answer.Refused (refusal.DataFull used need)) es g may h = subst (CanAll' s.store i) (sym h.1) tt
    can_says s i act.Commit (answer.Refused refusal.DiskFault) es g may h = subst (CanAll' s.store i) (sym h.0) tt
    can_says s i (act.Schema statement) (answer.Refused (refusal.LogFull used reserved need)) es g may h = subst (CanAll' s.store i) (sym h.1) tt
    can_says s i (act.Schema statement) (answer.Refused (refusal.DataFull used need)) es g may h = subst (CanAll' s.store i) (sym h.1) tt
    can_says s i (act.Schema statement) (answer.Refused refusal.DiskFault) es g may h = subst (CanAll' s.store i) (sym h.0) tt
    can_says s i act.Clean (answer.Refused (refusal.LogFull used reserved need)) es g may h = subst (CanAll' s.store i) (sym h.0) tt
    can_says s i act.Checkpoint (answer.Saved greatest) es g may h = subst (CanAll' s.store i) (sym h.0) tt
    can_says s i act.Checkpoint (answer.Refused refusal.DiskFault) es g may h = subst (CanAll' s.store i) (sym h) tt
    can_says s i act.Cancel answer.Cancelled es g may h = subst (CanAll' s.store i) (sym h) tt
    can_says s i _ _ es g may h = absurd h

    -- one step of an engine that runs
    pub step_good : (s : State) (i : ℕ) (a : Act) (said : Answer) (after : State) → Good' s.store → Step s i a said after → Good' after.store
    step_good s i a said after g h = elim h.does [
      | inl d ↦ subst (λ (x : State). Good' x.store) (sym d.left)
          (keeps_all the_views fresh laws s.store i d.effects g (can_says s i a said d.effects g (elim h.may.1 [ inl stopped ↦ absurd (some_not_none s.stop stopped d.runs) | inr may ↦ may ]) d.says))
      | inr t ↦ subst (λ (x : State). Good' x.store) (sym t.left) g
    ]

    pub run_good : (s : State) (ds : List Did) (after : State) → Good' s.store → Run s ds after → Good' after.store
    run_good s [] after g r = subst (λ (x : State). Good' x.store) (sym r) g
    run_good s (d ∷ ds) after g r = run_good r.0 ds after (step_good s d.session d.act d.said r.0 g r.1) r.2
