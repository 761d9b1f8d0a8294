-- Runs with what was told: what holds of each open transaction in every story that steps lead to.
use Rattle.std.specs.Prelude.{◌≡◌, ◌≢◌, ◌⊎◌, ℕ, zero, suc, List, [], ◌∷◌, ◌++◌, Option, Some, None, IsSome}
use Rattle.std.specs.List.{AllByRecursion}
use mathlib.Core.Path.{refl, sym, ap, subst, ◌∙◌}
use mathlib.Core.Logic.{inl, inr}
use Rattle.iv_types.specs.declared.statement.Mode.{Mode}
use Rattle.iv_types.specs.declared.statement.Mode.TheVariants.{Serial, Snapshot}
use Rattle.iv_types.specs.declared.lock.LockMode.{LockMode}
use Rattle.iv_types.specs.declared.lock.LockMode.TheVariants.{Share, Exclusive, Increment}
use Rattle.iv_types.specs.declared.lock.Want.{Want}
use Rattle.iv_types.specs.declared.value.Interval.{Interval}
use Rattle.iv_types.specs.declared.session.Sessions.{Sessions}
use Rattle.iv_types.specs.declared.refusal.EngineRefusal.{EngineRefusal}
use Rattle.iv_types.specs.declared.refusal.EngineRefusal.TheVariants as refusal
use Rattle.table_laws.proofs.Stored.{by_session}
use Rattle.iv_meaning.specs.Schema.{Object, table, index, view, numbered}
use Rattle.iv_meaning.specs.Database.{Row, Database}
use Rattle.iv_meaning.specs.History.{state_at}
use Rattle.iv_meaning.specs.View.{read}
use Rattle.iv_meaning.specs.Escrow.{IsSession}
use Rattle.txn_machine.specs.Acts as act
use Rattle.txn_machine.specs.Acts.{Act}
use Rattle.txn_machine.specs.Answers as answer
use Rattle.txn_machine.specs.Answers.{Answer}
use Rattle.txn_machine.specs.Locks.{with_one}
use Rattle.txn_machine.specs.Deltas.{RowChange}
use Rattle.txn_machine.specs.Keeping.{changes_of, Note, Open}
use Rattle.txn_machine.specs.Fresh.{fresh}
use Rattle.txn_machine.specs.Ghosts.{MayRead, MayReadIn, the_views}
use Rattle.txn_machine.specs.Store.{Store, committed, schema_of, now, changes_by, locks_of, Effect, Opens, Takes, Notes, Writes, Pays, Ghosts, Undoes, Loses, Ends, Commits, Defines, Cleans, Prunes, does, run}
use Rattle.txn_machine.specs.State.{State}
use Rattle.txn_machine.specs.May.{IsReady, MayLock, MayAct}
use Rattle.txn_machine.specs.Steps.{asked, IsFree, Finds, note_of, CommitsAs, Says, Step, Did}
use Rattle.txn_machine.specs.Alone.{Fact, Found, WasThere, TookBack, told_after, Story, story_after, Unfolds, with_changes, IsTrueIn, Dialogue, Fetch, Change, Undo, Next, Goes, without_latest}
use Rattle.txn_machine.specs.Laws.{IsReached, IsReachedStory, RepliesLaw, SnapshotRepliesLaw}
use Rattle.txn_machine.proofs.Basics.{one_same, one_other, holds_new}
use Rattle.txn_machine.proofs.Good.{the_open}
use Rattle.txn_machine.proofs.Runs.{CanAll, keeps, opened_good}
use Rattle.txn_machine.proofs.Holding.{contains_here}
use Rattle.txn_machine.proofs.Stepping.{some_not_none, now_is, now_locked, ready_owes, can_says, step_good}
use Rattle.txn_machine.proofs.Looking.{view_laws}
use Rattle.txn_machine.proofs.Framing.{finds_own}
use Rattle.txn_machine.proofs.Telling.{Good', NoteGood, kept_after, NoteFor, NoteOf, TellAll, tell_all, own_run, other_run}
use Rattle.txn_machine.proofs.Reached.{may_define, reached}

-- ---- what a Fetch reads

reading_mode : (mode : LockMode) (o : Option Object) → MayLock mode o → (mode ≡ Share) ⊎ (mode ≡ Exclusive)
reading_mode Share o h = inl refl
reading_mode Exclusive o h = inr refl
reading_mode Increment None h = absurd h
reading_mode Increment (Some (table t)) h = absurd h
reading_mode Increment (Some (index i)) h = absurd h
reading_mode Increment (Some (view v)) h = absurd h

module _ (s : Store) (i number : ℕ) (interval : Interval) (mode : LockMode) (rows : List Row) (g : Good' s) (ready : IsReady s i Serial) (may : MayLock mode (numbered (schema_of s) number))
    (free : IsFree s i (asked s i (act.Fetch number interval mode))) (found : Finds s number interval rows) where
  abbrev wants : List Want
  wants = asked s i (act.Fetch number interval mode)

  abbrev locked : Store
  locked = does the_views s i (Takes wants)

  locked_is : now locked i ≡ record (now s i) { locks = wants ++ (now s i).locks }
  locked_is = now_locked view_laws s i wants

  locked_good : Good' locked
  locked_good = keeps the_views fresh view_laws s i (Takes wants) g (ready.goes_on.of_session, free)

  fetch_may : MayReadIn (locks_of locked i) number interval
  fetch_may key lies = subst (λ (t : Open). MayRead t.locks number key) (sym locked_is) (elim (reading_mode mode (numbered (schema_of s) number) may) [
    | inl e ↦ inl (holds_new Share wants (now s i).locks number key (record { lock = record { index = number; interval = interval; mode = mode }; held = contains_here (record { index = number; interval = interval; mode = mode }) []; mode_is = e; index_is = refl; covers = lies }))
    | inr e ↦ inr (holds_new Exclusive wants (now s i).locks number key (record { lock = record { index = number; interval = interval; mode = mode }; held = contains_here (record { index = number; interval = interval; mode = mode }) []; mode_is = e; index_is = refl; covers = lies }))
  ])

  fetch_reads : read (with_changes (changes_by locked i) (committed s)) number interval ≡ rows
  fetch_reads = finds_own (committed s) locked locked_good i ready.goes_on.of_session (subst (λ (t : Open). t.owed ≡ []) (sym locked_is) (ready_owes view_laws s i Serial ready)) (committed s).number (committed s).number number interval fetch_may rows found

  same_changes : changes_by locked i ≡ changes_by s i
  same_changes = ap (λ (t : Open). changes_of t.kept) locked_is

-- ---- what is told by a step

pub told_blocked : (s : Store) (i : ℕ) (a : Act) (x : Sessions) (told : List Fact) → told_after s i a (answer.Blocked x) told ≡ told
told_blocked s i (act.Begin mode) x told = refl
told_blocked s i _ x told = refl

pub told_refused : (s : Store) (i : ℕ) (a : Act) (x : EngineRefusal) (told : List Fact) → told_after s i a (answer.Refused x) told ≡ told
told_refused s i (act.Begin mode) x told = refl
told_refused s i _ x told = refl

abbrev Noted : Store → ℕ → List Fact → Type 0
Noted s i told = NoteOf s.origin s.history (s.open_of i) told

own_by : (s : Store) (i : ℕ) (es fs : List Effect) → es ≡ fs → Good' s → CanAll the_views fresh view_laws s i es → TellAll s i fs → (told told' : List Fact) → told' ≡ tell_all s i fs told → Noted s i told → Noted (run the_views s i es) i told'
own_by s i es fs e g can t told told' is h =
    subst (Noted (run the_views s i es) i) (sym is)
    (subst (λ l. Noted (run the_views s i l) i (tell_all s i fs told)) (sym e) (own_run s i fs g (subst (CanAll the_views fresh view_laws s i) e can) t told h))

ready_mode : (s : Store) (i : ℕ) (mode : Mode) (r : IsReady s i mode) → (now s i).mode ≡ mode
ready_mode s i mode r = ap (λ (t : Open). t.mode) (now_is view_laws s i r.goes_on.transaction r.goes_on.is_open) ∙ r.goes_on.mode_is

locked_mode : (s : Store) (i : ℕ) (wants : List Want) → (now s i).mode ≡ Serial → (now (does the_views s i (Takes wants)) i).mode ≡ Serial
locked_mode s i wants e = ap (λ (t : Open). t.mode) (now_locked view_laws s i wants) ∙ e

peeked : (s : Store) (i n : ℕ) (interval : Interval) (rows : List Row) (told : List Fact) (o : Option Open) → s.open_of i ≡ o → (the_open o).mode ≡ Snapshot
    → read (state_at s.origin s.history (the_open o).number) n interval ≡ rows → NoteOf s.origin s.history o told → NoteOf s.origin s.history o (Found n interval rows [] ∷ told)
peeked s i n interval rows told None e m r h = absurd (cc)
peeked s i n interval rows told (Some t) e m r h = record {
  serial = λ x. absurd (cc (sym x ∙ m));
  snapshot = λ x. let was = h.snapshot x in record { number = was.number; nothing = was.nothing; notes = (r, was.notes) };
}

abbrev can_all : (s : State) (i : ℕ) (a : Act) (said : Answer) (es : List Effect) → Good' s.store → MayAct s.store i a → Says s i a said es → CanAll the_views fresh view_laws s.store i es
can_all = can_says view_laws may_define

own_commits : (s : State) (i : ℕ) (es : List Effect) (number : ℕ) → Good' s.store → CanAll the_views fresh view_laws s.store i es → (cs : List RowChange) → CommitsAs s.store i cs number es → (told : List Fact) → Noted s.store i told → Noted (run the_views s.store i es) i []
own_commits s i es number g can [] c told h = own_by s.store i es (Ends ∷ []) c.1 g can ((tt, tt), tt) told [] refl h
own_commits s i es number g can (x ∷ cs) c told h = own_by s.store i es (Commits ∷ []) c.1 g can ((tt, tt), tt) told [] refl h

own_says : (s : State) (i : ℕ) (a : Act) (said : Answer) (es : List Effect) → Good' s.store → MayAct s.store i a → Says s i a said es → CanAll the_views fresh view_laws s.store i es
    → (told : List Fact) → Noted s.store i told → Noted (run the_views s.store i es) i (told_after s.store i a said told)
own_says s i a (answer.Blocked sessions) es g may h can told t = own_by s.store i es [] h.2 g can tt told (told_after s.store i a (answer.Blocked sessions) told) (told_blocked s.store i a sessions told) t
own_says s i a (answer.Refused (refusal.Deadlock cycle)) es g may h can told t = own_by s.store i es (Loses ∷ []) h.2 g can ((tt, tt), tt) told (told_after s.store i a (answer.Refused (refusal.Deadlock cycle)) told) (told_refused s.store i a (refusal.Deadlock cycle) told) t
own_says s i a (answer.Refused refusal.NoMemory) es g may h can told t = own_by s.store i es [] h.1 g can tt told (told_after s.store i a (answer.Refused refusal.NoMemory) told) (told_refused s.store i a refusal.NoMemory told) t
own_says s i (act.Begin mode) (answer.Begun number defs) es g may h can told t = own_by s.store i es (Opens mode ∷ []) h.effects g can ((tt, tt), tt) told [] refl t
own_says s i (act.Begin mode) (answer.Refused (refusal.HistoryFull kept need)) es g may h can told t = own_by s.store i es [] h.3 g can tt told told refl t
own_says s i act.Defs (answer.Defs objects) es g may h can told t = own_by s.store i es [] h.1 g can tt told told refl t
own_says s i (act.Fetch number interval mode) (answer.Rows rows) es g may h can told t =
    let n : Note = note_of s.store i number interval rows in
    let wants : List Want = asked s.store i (act.Fetch number interval mode) in
    own_by s.store i es (Takes wants ∷ Notes n ∷ []) h.effects g can
    ((tt, tt), (((fetch_may s.store i number interval mode rows g may.0 may.1 h.free h.found, fetch_reads s.store i number interval mode rows g may.0 may.1 h.free h.found), locked_mode s.store i wants (ready_mode s.store i Serial may.0)), tt))
    told (Found number interval rows (changes_by s.store i) ∷ told) (ap (λ l. Found number interval rows l ∷ told) (sym (same_changes s.store i number interval mode rows g may.0 may.1 h.free h.found))) t
own_says s i (act.Fetch number interval mode) (answer.Refused (refusal.TxnFull kept need)) es g may h can told t = own_by s.store i es [] h.1 g can tt told told refl t
own_says s i (act.Peek number interval) (answer.Rows rows) es g may h can told t =
    subst (λ l. Noted (run the_views s.store i l) i (Found number interval rows [] ∷ told)) (sym h.1)
    (peeked s.store i number interval rows told (s.store.open_of i) refl (ap (λ (x : Open). x.mode) (now_is view_laws s.store i may.0.transaction may.0.is_open) ∙ may.0.mode_is) h.0 t)
own_says s i (act.Put number key new) (answer.Changed before deltas) es g may h can told t =
    let wants : List Want = asked s.store i (act.Put number key new) in
    let same : changes_by (does the_views s.store i (Takes wants)) i ≡ changes_by s.store i = ap (λ (x : Open). changes_of x.kept) (now_locked view_laws s.store i wants) in
    own_by s.store i es (Takes wants ∷ Writes (number, key) new ∷ []) h.effects g can ((tt, tt), ((tt, locked_mode s.store i wants (ready_mode s.store i Serial may.0)), tt))
    told (WasThere (number, key) new before (changes_by s.store i) ∷ told) (λ x. WasThere (number, key) new (h.before_is x) (sym same x) ∷ told) t
own_says s i (act.Put number key new) (answer.Refused (refusal.TxnFull kept need)) es g may h can told t = own_by s.store i es [] h.1 g can tt told told refl t
own_says s i (act.Put number key new) (answer.Refused (refusal.HistoryFull kept need)) es g may h can told t = own_by s.store i es [] h.1 g can tt told told refl t
own_says s i act.Pay (answer.Paid left) es g may h can told t =
    let wants : List Want = asked s.store i act.Pay in
    own_by s.store i es (Takes wants ∷ Pays ∷ []) h.effects g can ((tt, tt), ((tt, locked_mode s.store i wants (ap (λ (x : Open). x.mode) (now_is view_laws s.store i may.goes_on.transaction may.goes_on.is_open) ∙ may.goes_on.mode_is)), tt)) told told refl t
own_says s i act.Pay answer.NeedsGhost es g may h can told t = own_by s.store i es (Takes (asked s.store i act.Pay) ∷ []) h.effects g can ((tt, tt), tt) told told refl t
own_says s i act.Pay (answer.Refused (refusal.Escrow column low high)) es g may h can told t = own_by s.store i es (Takes (asked s.store i act.Pay) ∷ []) h.effects g can ((tt, tt), tt) told told refl t
own_says s i act.Ghost answer.Ghosted es g may h can told t = elim h.effects [
  | inl m ↦ own_by s.store i es (Ghosts _ _ ∷ []) m.1 g can ((tt, tt), tt) told told refl t
  | inr m ↦ own_by s.store i es [] m.1 g can tt told told refl t
]
own_says s i act.UndoOne (answer.Undone left) es g may h can told t = own_by s.store i es (Undoes ∷ []) h.effects g can ((tt, tt), tt) told (told_after s.store i act.UndoOne (answer.Undone left) told) refl t
own_says s i act.End answer.Ended es g may h can told t = own_by s.store i es (Ends ∷ []) h g can ((tt, tt), tt) told [] refl t
own_says s i act.Commit (answer.Committed number) es g may h can told t = own_commits s i es number g can (changes_by s.store i) h told t
own_says s i (act.Schema statement) (answer.Committed number) es g may h can told t = own_by s.store i es (Defines h.object ∷ []) h.effects g can ((may.1, tt), tt) told told refl t
own_says s i (act.Schema statement) (answer.Denied why) es g may h can told t = own_by s.store i es [] h.1 g can tt told told refl t
own_says s i (act.Schema statement) (answer.Refused (refusal.SchemaBusy busy)) es g may h can told t = own_by s.store i es [] h.1 g can tt told told refl t
own_says s i (act.Schema statement) (answer.Refused (refusal.HistoryFull kept need)) es g may h can told t = own_by s.store i es [] h.1 g can tt told told refl t
own_says s i act.Clean (answer.Cleaned zero) es g may h can told t = own_by s.store i es [] h.1 g can tt told told refl t
own_says s i act.Clean (answer.Cleaned (suc zero)) es g may h can told t = own_by s.store i es (Cleans h.0 ∷ []) h.2 g can ((tt, tt), tt) told told refl t
own_says s i act.Prune answer.Pruned es g may h can told t = own_by s.store i es (Prunes ∷ []) h g can ((tt, tt), tt) told told refl t
own_says s i (act.Begin mode) (answer.Refused (refusal.LogFull used reserved need)) es g may h can told t = own_by s.store i es [] h.0 g can tt told told refl t
own_says s i (act.Put number key new) (answer.Refused (refusal.LogFull used reserved need)) es g may h can told t = own_by s.store i es [] h.1 g can tt told told refl t
own_says s i (act.Put number key new) (answer.Refused (refusal.DataFull used need)) es g may h can told t = own_by s.store i es [] h.1 g can tt told told refl t
own_says s i act.Commit (answer.Refused refusal.DiskFault) es g may h can told t = own_by s.store i es [] h.0 g can tt told told refl t
own_says s i (act.Schema statement) (answer.Refused (refusal.LogFull used reserved need)) es g may h can told t = own_by s.store i es [] h.1 g can tt told told refl t
own_says s i (act.Schema statement) (answer.Refused (refusal.DataFull used need)) es g may h can told t = own_by s.store i es [] h.1 g can tt told told refl t
own_says s i (act.Schema statement) (answer.Refused refusal.DiskFault) es g may h can told t = own_by s.store i es [] h.0 g can tt told told refl t
own_says s i act.Clean (answer.Refused (refusal.LogFull used reserved need)) es g may h can told t = own_by s.store i es [] h.0 g can tt told told refl t
own_says s i act.Checkpoint (answer.Saved greatest) es g may h can told t = own_by s.store i es [] h.0 g can tt told told refl t
own_says s i act.Checkpoint (answer.Refused refusal.DiskFault) es g may h can told t = own_by s.store i es [] h g can tt told told refl t
own_says s i act.Cancel answer.Cancelled es g may h can told t = own_by s.store i es [] h g can tt told told refl t
own_says s i _ _ es g may h can told t = absurd h

-- ---- stories

pub record StoryGood (story : Story) : Type 0 where
  pub good : Good' story.state.store
  pub noted : (j : ℕ) → IsSession j → Noted story.state.store j (story.told j)

may_act : (s : State) (i : ℕ) (a : Act) → s.stop ≡ None → (IsSome s.stop ⊎ MayAct s.store i a) → MayAct s.store i a
may_act s i a runs (inl stopped) = absurd (some_not_none s.stop stopped runs)
may_act s i a runs (inr may) = may

story_step : (story : Story) (d : Did) (after : State) → StoryGood story → Step story.state d.session d.act d.said after → StoryGood (story_after story d after)
story_step story d after g step = record {
  good = step_good view_laws may_define story.state d.session d.act d.said after g.good step;
  noted = λ j js. by_session j d.session
      (λ e. subst (λ k. Noted after.store k (told_now k)) (sym e) (subst (Noted after.store d.session) (sym (one_same story.told d.session new_told d.session refl)) (own (subst IsSession e js))))
      (λ n. subst (Noted after.store j) (sym (one_other story.told d.session new_told j n)) (other j js n));
}
  where
    s : State
    s = story.state

    new_told : List Fact
    new_told = told_after story.state.store d.session d.act d.said (story.told d.session)

    told_now : ℕ → List Fact
    told_now = with_one story.told d.session new_told

    own : IsSession d.session → Noted after.store d.session (told_after story.state.store d.session d.act d.said (story.told d.session))
    own is = elim step.does [
      | inl x ↦
          let may = may_act story.state d.session d.act x.runs step.may.1 in
          let can = can_all story.state d.session d.act d.said x.effects g.good may x.says in
          subst (λ (z : State). Noted z.store d.session (told_after story.state.store d.session d.act d.said (story.told d.session))) (sym x.left)
          (own_says story.state d.session d.act d.said x.effects g.good may x.says can (story.told d.session) (g.noted d.session is))
      | inr x ↦
          let same : told_after story.state.store d.session d.act d.said (story.told d.session) ≡ story.told d.session =
          ap (λ y. told_after story.state.store d.session d.act y (story.told d.session)) x.says ∙ told_refused story.state.store d.session d.act (refusal.Stopped x.stop.step) (story.told d.session) in
          subst (λ (z : State). Noted z.store d.session (told_after story.state.store d.session d.act d.said (story.told d.session))) (sym x.left)
          (subst (Noted story.state.store d.session) (sym same) (g.noted d.session is))
    ]

    other : (j : ℕ) → IsSession j → j ≢ d.session → Noted after.store j (story.told j)
    other j js n = elim step.does [
      | inl x ↦
          let may = may_act story.state d.session d.act x.runs step.may.1 in
          let can = can_all story.state d.session d.act d.said x.effects g.good may x.says in
          subst (λ (z : State). Noted z.store j (story.told j)) (sym x.left) (other_run story.state.store d.session x.effects g.good can j js n (story.told j) (g.noted j js))
      | inr x ↦ subst (λ (z : State). Noted z.store j (story.told j)) (sym x.left) (g.noted j js)
    ]

story_run : (story : Story) (ds : List Did) (after : Story) → StoryGood story → Unfolds story ds after → StoryGood after
story_run story [] after g r = subst StoryGood (sym r) g
story_run story (d ∷ ds) after g r = story_run (story_after story d r.0) ds after (story_step story d r.0 g r.1) r.2

pub story_reached : (story : Story) → IsReachedStory story → StoryGood story
story_reached story r = story_run _ r.steps story (record {
  good = opened_good the_views fresh view_laws r.db r.view r.was_opened.sound r.was_opened.rows r.was_opened.in_range;
  noted = λ j js. refl;
}) r.tells

-- ---- programs

next_so : {R : Type 0} (IsSo : Fact → Type 0) (p : Dialogue R) (cs : List RowChange) (t : Fact) (q : Dialogue R) (ds : List RowChange) → Next (λ t. Unit {0}) p cs t q ds → IsSo t → Next IsSo p cs t q ds
next_so IsSo (Fetch n i f) cs (Found m j rows kept) q ds h so = (h.0, h.1, h.2, so, h.4, h.5)
next_so IsSo (Change p new f) cs (WasThere r o before kept) q ds h so = (h.0, h.1, h.2, so, h.4, h.5)
next_so IsSo (Undo p) cs (TookBack kept) q ds h so = h
next_so IsSo _ cs _ q ds h so = absurd h

next_kept : {R : Type 0} (p : Dialogue R) (cs : List RowChange) (t : Fact) (q : Dialogue R) (ds : List RowChange) (told : List Fact) → Next (λ t. Unit {0}) p cs t q ds → cs ≡ kept_after told → ds ≡ kept_after (t ∷ told)
next_kept (Fetch n i f) cs (Found m j rows kept) q ds told h e = h.5 ∙ e
next_kept (Change p new f) cs (WasThere r o before kept) q ds told h e = h.5 ∙ λ x. record { key = sym h.0 x; before = before; after = sym h.1 x } ∷ e x
next_kept (Undo p) cs (TookBack kept) q ds told h e = h.2 ∙ ap without_latest e
next_kept _ cs _ q ds told h e = absurd h

goes_so : {R : Type 0} (IsSo : Fact → Type 0) (p : Dialogue R) (told : List Fact) (q : Dialogue R) (cs : List RowChange) → AllByRecursion IsSo told → Goes (λ t. Unit {0}) p told q cs → Goes IsSo p told q cs
goes_so IsSo p [] q cs all h = h
goes_so IsSo p (t ∷ told) q cs all h = (h.0, h.1, goes_so IsSo p told h.0 h.1 all.1 h.2, next_so IsSo h.0 h.1 t q cs h.3 all.0)

goes_kept : {R : Type 0} (p : Dialogue R) (told : List Fact) (q : Dialogue R) (cs : List RowChange) → Goes (λ t. Unit {0}) p told q cs → cs ≡ kept_after told
goes_kept p [] q cs h = h.1
goes_kept p (t ∷ told) q cs h = next_kept h.0 h.1 t q cs told h.3 (goes_kept p told h.0 h.1 h.2)

pub notes_true : (base : Database) (locks : List Want) (told : List Fact) → AllByRecursion (NoteGood base locks) told → AllByRecursion (IsTrueIn base) told
notes_true base locks [] h = tt
notes_true base locks (Found n interval rows cs ∷ told) h = (h.0.so, notes_true base locks told h.1)
notes_true base locks (WasThere p new before cs ∷ told) h = (h.0.so, notes_true base locks told h.1)
notes_true base locks (TookBack cs ∷ told) h = (tt, notes_true base locks told h.1)

pub replies_law : RepliesLaw
replies_law story r i o m p q cs led =
    let g = story_reached story r in
    let note : NoteFor story.state.store.origin story.state.store.history o.transaction (story.told i) = subst (λ (x : Option Open). NoteOf story.state.store.origin story.state.store.history x (story.told i)) o.is_open (g.noted i o.of_session) in
    let told = note.serial m in (
      goes_so (IsTrueIn (committed story.state.store)) p (story.told i) q cs (notes_true (committed story.state.store) o.transaction.locks (story.told i) told.notes) led,
      goes_kept p (story.told i) q cs led ∙ (told.trace ∙ sym (ap (λ (x : Option Open). changes_of (the_open x).kept) o.is_open)),
    )

pub snapshot_replies_law : SnapshotRepliesLaw
snapshot_replies_law story r i o m p q cs led =
    let g = story_reached story r in
    let note : NoteFor story.state.store.origin story.state.store.history o.transaction (story.told i) = subst (λ (x : Option Open). NoteOf story.state.store.origin story.state.store.history x (story.told i)) o.is_open (g.noted i o.of_session) in
    goes_so (IsTrueIn (state_at story.state.store.origin story.state.store.history o.transaction.number)) p (story.told i) q cs (note.snapshot m).notes led

pub fetched : (s : State) → IsReached s → (i number : ℕ) (interval : Interval) (mode : LockMode) (rows : List Row) (after : State) → Step s i (act.Fetch number interval mode) (answer.Rows rows) after
    → read (with_changes (changes_by s.store i) (committed s.store)) number interval ≡ rows
fetched s r i number interval mode rows after step = elim step.does [
  | inl x ↦
      let g = reached s r in
      let may : MayAct s.store i (act.Fetch number interval mode) = elim step.may.1 [ inl stopped ↦ absurd (some_not_none s.stop stopped x.runs) | inr m ↦ m ] in
      subst (λ l. read (with_changes l (committed s.store)) number interval ≡ rows) (same_changes s.store i number interval mode rows g may.0 may.1 x.says.free x.says.found) (fetch_reads s.store i number interval mode rows g may.0 may.1 x.says.free x.says.found)
  | inr x ↦ absurd (cc)
]
